-- `files::reader::put_file` meets its contract: each arm writes the file that it matches. Assumes nothing.
use Rattle.tree.proofs.KeptLaws.{live-row}
use Rattle.files.proofs.reader.put_file.Goals as goal

pub from_fn-requires : goal.from_fn-requires
from_fn-requires g c = λ k l p e u w. live-row _ c.requires.group.kept _ c.requires.group.live
