-- `tree::device::set_slots` meets its contract. The invariant: the slots so far are stored, and nothing else is changed. Assumes nothing.
use native.Mathlib.Omega.{arith}
use Rattle.tree.proofs.SlotLaws.{storing-next, wrote-table}
use Rattle.tree.proofs.device.set_slots.Goals as goal

pub loop-i-preserved : goal.loop-i-preserved
loop-i-preserved c = storing-next c.loop-i.invariant (omega arith) c.set_slot.ensures

pub returns : goal.returns
returns c = wrote-table c.requires.0 c.requires.1 (omega arith) c.loop-i.invariant (omega arith)
