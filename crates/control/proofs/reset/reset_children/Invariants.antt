-- `control::reset::reset_children` meets its contract. The invariant: the children among the numbers passed are reset, and all else is
-- as it was. Assumes nothing.
use Rattle.model.specs.Control.{at_controller}
use Rattle.tree.specs.Layout.{view}
use Rattle.tree.specs.Changes.{Wrote}
use Rattle.control.proofs.ResetLaws.{reset_below}
use Rattle.control.proofs.reset.reset_children.Given as goal

abbrev pub invariant-loop-k : goal.invariant-loop-k
invariant-loop-k l = Wrote l.initial.t l.t (reset_below (view l.initial.t) l.g.0 (at_controller l.gone) l.k)
