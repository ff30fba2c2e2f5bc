-- `devices::table::slot_of` meets its contract. The invariant: what is found is the device's slot among those that were passed.
-- Assumes nothing.
use mathlib.Core.Path.{◌≡◌}
use lib.ListN.{drop}
use Rattle.devices.specs.Slots.{slot_of}
use Rattle.devices.proofs.table.slot_of.Given as goal

abbrev pub invariant-loop-k : goal.invariant-loop-k
invariant-loop-k l = l.found ≡ slot_of l.device (drop l.k l.s)
