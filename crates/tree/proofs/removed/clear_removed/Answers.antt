-- `tree::removed::clear_removed` meets its contract. Assumes nothing.
use mathlib.Core.Path.{refl}
use Rattle.tree.proofs.SetterLaws.{wrote-left}
use Rattle.tree.proofs.removed.clear_removed.Goals as goal

pub returns : goal.returns
returns c = wrote-left c.requires _ _ refl c.set_word.ensures
