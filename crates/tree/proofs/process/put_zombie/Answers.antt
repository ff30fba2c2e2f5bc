-- `tree::process::put_zombie` meets its contract. Assumes nothing.
use mathlib.Core.Path.{refl}
use Rattle.tree.proofs.SetterLaws.{wrote-ended}
use Rattle.tree.proofs.process.put_zombie.Goals as goal

pub returns : goal.returns
returns c = wrote-ended c.requires.0 _ refl
