-- `tree::rule::has_process` meets its contract: the live processes in a group are counted in its row. Assumes nothing.
use Prim.Native.Nat.{ℕ}
use mathlib.Core.Bool.{not}
use mathlib.Core.Path.{ap, ◌∙◌}
use lib.Dec.{eqb}
use Rattle.tree.proofs.CountLaws.{has_process-counted}
use Rattle.tree.proofs.rule.has_process.Goals as goal

pub returns : goal.returns
returns c = ap (λ (n : ℕ). not (eqb n 0)) c.count.ensures ∙ has_process-counted _ _
