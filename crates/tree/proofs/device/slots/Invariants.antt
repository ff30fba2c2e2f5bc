-- `tree::device::slots` meets its contract. The invariant: the slots so far are those of the row. Assumes nothing.
use Prim.Native.Nat.{ℕ, ◌<◌}
use mathlib.Core.Path.{◌≡◌}
use lib.ListN.{length, get_or}
use Rattle.model.specs.Sizes.{most_devices}
use Rattle.devices.specs.Slots.{free_slot}
use Rattle.tree.specs.Layout.{word, slot_in, slot_field}
use Rattle.tree.proofs.device.slots.Given as goal

abbrev pub invariant-loop-i : goal.invariant-loop-i
invariant-loop-i l = record {
  long : length l.x-items ≡ most_devices;
  read : (k : ℕ) → k < l.i → get_or l.x-items k free_slot ≡ slot_in (word l.t l.g.0) (slot_field k);
}
