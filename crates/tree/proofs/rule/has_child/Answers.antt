-- `tree::rule::has_child` meets its contract: the live children are counted in the group's row. Assumes nothing.
use Prim.Native.Nat.{ℕ}
use mathlib.Core.Bool.{not}
use mathlib.Core.Path.{ap, ◌∙◌}
use lib.Dec.{eqb}
use Rattle.tree.proofs.CountLaws.{has_child-counted}
use Rattle.tree.proofs.rule.has_child.Goals as goal

pub returns : goal.returns
returns c = ap (λ (n : ℕ). not (eqb n 0)) c.count.ensures ∙ has_child-counted _ _
