-- `control::subtree::joins_populated` meets its contract. Assumes nothing.
use Rattle.std.proofs.lemmas.Bool.Decides.{nat_tests}
use native.Mathlib.Omega.{arith}
use Rattle.control.proofs.FlagLaws.{any_each}
use Rattle.control.proofs.subtree.joins_populated.Goals as goal
use Rattle.control.proofs.subtree.joins_populated.Goals.{then-ne, else-ne}

pub returns-then-has_process : goal.returns-then-has_process
returns-then-has_process c =
    let a = any_each c.joining.ensures in
    elim c.if-ne.branch [ then-ne w ↦ grind (arith, nat_tests) | else-ne w ↦ grind (arith, nat_tests) ]
