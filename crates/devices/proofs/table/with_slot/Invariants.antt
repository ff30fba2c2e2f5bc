-- `devices::table::with_slot` meets its contract. The invariant: the pass over the places that are left, with what is carried to
-- them, ends as the whole pass does. Assumes nothing.
use Rattle.devices.proofs.PassLaws.{Passing}
use Rattle.devices.proofs.table.with_slot.Given as goal

abbrev pub invariant-loop-here : goal.invariant-loop-here
invariant-loop-here l = Passing l.fn.x l.initial.here-items l.carried l.here-items l.here-index
