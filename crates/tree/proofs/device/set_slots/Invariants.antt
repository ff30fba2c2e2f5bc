-- `tree::device::set_slots` meets its contract. The invariant: the slots so far are stored, and nothing else is changed. Assumes nothing.
use Rattle.tree.proofs.SlotLaws.{Storing}
use Rattle.tree.proofs.device.set_slots.Given as goal

abbrev pub invariant-loop-i : goal.invariant-loop-i
invariant-loop-i l = Storing l.initial.t l.t l.fn.g.0 l.fn.s l.i
