-- `tree::group::clear_group` meets its contract: its row is filled with zeros. Assumes nothing.
use native.Mathlib.Omega.{arith}
use lib.ListN.{length-take, length-drop}
use Rattle.tree.proofs.SetterLaws.{removed-group}
use Rattle.tree.proofs.group.clear_group.Goals as goal

pub returns : goal.returns
returns c = removed-group c.requires _ _ (omega arith) (c.fill.ensures.after (λ y h. h)) (simp (length-take, length-drop) (omega arith))
