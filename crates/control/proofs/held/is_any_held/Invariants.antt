-- `control::held::is_any_held` meets its contract. The invariant: the numbers that are left have such a child where one is held.
-- Assumes nothing.
use mathlib.Core.Path.{◌≡◌}
use Rattle.model.specs.Functions.{any}
use Rattle.model.specs.Control.{at_controller}
use Rattle.tree.specs.Layout.{view}
use Rattle.control.specs.Flags.{child_holds_any, is_any_held}
use Rattle.control.proofs.held.is_any_held.Given as goal

abbrev pub invariant-loop-k : goal.invariant-loop-k
invariant-loop-k l =
    any l.k (child_holds_any (view l.t) l.g.0 (at_controller l.leaving)) ≡ is_any_held (view l.t) l.g.0 (at_controller l.leaving)
