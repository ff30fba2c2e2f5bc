-- `tree::device::slots` meets its contract. The invariant: the slots so far are those of the row. Assumes nothing.
use native.Mathlib.Omega.{arith}
use Rattle.std.proofs.lemmas.List.FromFn.{fill_by_all}
use Rattle.model.specs.Sizes.{most_devices}
use Rattle.devices.specs.Slots.{free_slot}
use Rattle.tree.specs.Layout.{word, slot_in, slot_field}
use Rattle.tree.proofs.SlotLaws.{slotted}
use Rattle.tree.proofs.device.slots.Goals as goal

pub returns : goal.returns
returns c =
    let a = c.args in
    slotted a.t.now a.g.0 _ c.requires
    (fill_by_all (λ k. slot_in (word a.t.now a.g.0) (slot_field k)) _ most_devices free_slot c.loop-i.invariant.long (λ k h. c.loop-i.invariant.read k (omega arith)))
