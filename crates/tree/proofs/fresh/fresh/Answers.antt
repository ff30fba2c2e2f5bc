-- `tree::fresh::fresh` meets its contract. Assumes nothing.
use mathlib.Core.Path.{refl}
use Rattle.tree.specs.Layout.{tree_words}
use Rattle.tree.proofs.FreshLaws.{fresh-of-zeros}
use Rattle.tree.proofs.fresh.fresh.Goals as goal

pub returns : goal.returns
returns c = fresh-of-zeros tree_words _ _ _ refl refl c.min.ensures
