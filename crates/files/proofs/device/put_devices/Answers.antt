-- `files::device::put_devices` meets its contract: the text so far, and the lines of the slots that are left, are the file. Assumes nothing.
use Rattle.std.proofs.Common.{rules, arith}
use Rattle.model.specs.declared.Setting.TheVariants.{IoMax}
use Rattle.files.proofs.ValueTextLaws.{length-setting}
use Rattle.files.proofs.DeviceTextLaws.{lines-none, lines-all, lines-end, lines-next, lines-room}
use Rattle.files.proofs.device.put_devices.Goals as goal

pub loop-x-init : goal.loop-x-init
loop-x-init g c = lines-none c.slots-s.ensures c.clear.ensures

pub returns-then-x-eq0 : goal.returns-then-x-eq0
returns-then-x-eq0 g c = lines-end c.loop-x.invariant (omega (arith, c.slots-s.type_inv)) _ c.if-x-eq0.true

pub put_slot-requires : goal.put_slot-requires
put_slot-requires g c = (
  search rules,
  (
    c.if-x-eq0.false,
    omega (
      arith,
      c.requires.room,
      length-setting c.requires.group IoMax,
      lines-room c.loop-x.invariant (omega (arith, c.slots-s.type_inv)) _ c.if-x-eq0.false,
    ),
  ),
)

pub loop-x-preserved : goal.loop-x-preserved
loop-x-preserved g c = lines-next c.loop-x.invariant (omega (arith, c.slots-s.type_inv)) _ c.if-x-eq0.false c.put_slot.ensures

pub returns : goal.returns
returns g c = lines-all c.loop-x.invariant (omega (arith, c.slots-s.type_inv))
