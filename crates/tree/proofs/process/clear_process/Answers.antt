-- `tree::process::clear_process` meets its contract. Assumes nothing.
use mathlib.Core.Path.{refl}
use Rattle.tree.proofs.SetterLaws.{wrote-place}
use Rattle.tree.proofs.process.clear_process.Goals as goal

pub returns : goal.returns
returns c = wrote-place c.requires _ _ _ _ refl refl refl refl
