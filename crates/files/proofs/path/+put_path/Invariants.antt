-- The measure of `files::path::put_path` is the depth, which is one less for the parent.
use Rattle.files.proofs.path.+put_path.Given as goal

abbrev pub decreases-put_path : goal.decreases-put_path
decreases-put_path l = l.deep
