-- `tree::process::put_process` meets its contract. Assumes nothing.
use mathlib.Core.Path.{refl}
use Rattle.tree.proofs.SetterLaws.{wrote-unended}
use Rattle.tree.proofs.process.put_process.Goals as goal

pub returns : goal.returns
returns c = wrote-unended c.requires.0 _ _ c.requires.1 refl
