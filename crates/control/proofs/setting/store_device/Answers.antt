-- `control::setting::store_device` meets its contract: the table after the line is stored, unless it has a fifth device. Assumes
-- nothing.
use Rattle.std.proofs.lemmas.Result.{err_from_is_err_and}
use mathlib.Core.Path.{◌≡◌}
use Rattle.model.specs.declared.Errno.{Errno}
use Rattle.model.specs.declared.Errno.TheVariants.{Enospc}
use Rattle.control.proofs.DeviceLaws.{numbers-low, line-ready, stored-none, stored-device}
use Rattle.control.proofs.setting.store_device.Goals as goal

pub device_of-requires : goal.device_of-requires
device_of-requires c = numbers-low _ _ _ _ _ c.requires

pub after_line-requires : goal.after_line-requires
after_line-requires c = line-ready _ _ _ _ _ c.requires c.slots.ensures c.device_of.ensures

-- a fifth device
pub returns-in_err-after : goal.returns-in_err-after
returns-in_err-after c =
    let i = c.in_err-after.ensures in
    let p = err_from_is_err_and c.from_residual.result c.from_residual.ensures.1 in
    let v = rw i.ok_part at i.value in
    let e : ◌≡◌ {A = Errno} c.in_err-after.field-0.0 Enospc = cc in
    rw (p.1, p.2, e) (stored-none _ _ _ _ _ c.requires c.slots.ensures c.device_of.ensures (rw i.ok_part at c.after_line.ensures))

pub returns : goal.returns
returns c =
    stored-device _ _ _ _ _ c.requires c.slots.ensures c.device_of.ensures (rw c.in_ok-after.ensures.ok_part at c.after_line.ensures) _
    c.set_slots.ensures
