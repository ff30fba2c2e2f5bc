-- `tree::counter::try_charge` meets its contract: the search finds the room of the definition, and the walk after it adjusts the
-- sums along the chain. Assumes nothing.
use mathlib.Core.Path.{◌≡◌}
use lib.ListN.{drop}
use Rattle.model.specs.Rooms.{acting_limit, consult}
use Rattle.tree.specs.Layout.{view, sum_in}
use Rattle.tree.specs.Counters.{listed}
use Rattle.tree.specs.declared.sum.Counter.TheVariants.{Of}
use Rattle.tree.proofs.AlongLaws.{Along}
use Rattle.tree.proofs.counter.try_charge.Given as goal

abbrev pub invariant-loop-i : goal.invariant-loop-i
invariant-loop-i l = consult (acting_limit (view l.t) l.r) (sum_in l.t (Of l.r)) l.n l.i (drop l.i (listed l.fn.c)) ≡ consult (acting_limit (view l.t) l.r) (sum_in l.t (Of l.r)) l.n 0 (listed l.fn.c)

abbrev pub invariant-loop-g : goal.invariant-loop-g
invariant-loop-g l = Along l.initial.t (Of l.r) l.fn.c l.n 0 l.t l.g-index
