-- `devices::table::after_line` meets its contract: the device's slot, changed, and written back. Assumes nothing.
use native.Mathlib.Omega.{arith}
use Prim.Native.Nat.{◌+◌}
use mathlib.Core.Path.{ap, ◌∙◌, subst}
use Rattle.devices.specs.Slots.{SlotChanged}
use Rattle.devices.specs.declared.slot.Slot.{Slot}
use Rattle.devices.proofs.SlotLaws.{slot-device}
use Rattle.devices.proofs.LineLaws.{line-written}
use Rattle.devices.proofs.table.after_line.Goals as goal

pub write-requires : goal.write-requires
write-requires c =
    let number = c.changed.ensures.device ∙ ap (λ (x : Slot). x.device) c.slot_of-old.ensures ∙ slot-device (c.args.device + 1) c.args.s in
    (c.requires.0, (λ e. omega (arith, number)))

pub returns : goal.returns
returns c =
    line-written _ c.args.device _ _ c.requires.0.packed
    (subst (λ (x : Slot). SlotChanged x c.args.pairs c.changed.result) c.slot_of-old.ensures c.changed.ensures) _ c.write.ensures
