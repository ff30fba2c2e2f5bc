-- `control::reset::reset_children` meets its contract. The invariant: the children among the numbers passed are reset, and all else is
-- as it was. Assumes nothing.
use native.Mathlib.Omega.{arith}
use Rattle.control.proofs.ResetLaws.{reset-next, reset-end}
use Rattle.control.proofs.reset.reset_children.Goals as goal

pub reset_child-requires : goal.reset_child-requires
reset_child-requires c = record { long = c.loop-k.invariant.long; low = omega arith }

pub loop-k-preserved : goal.loop-k-preserved
loop-k-preserved c = reset-next c.args.t.now _ _ _ _ _ c.loop-k.invariant c.reset_child.ensures

pub returns : goal.returns
returns c = reset-end c.args.t.now _ _ c.requires _ _ (omega arith) c.loop-k.invariant
