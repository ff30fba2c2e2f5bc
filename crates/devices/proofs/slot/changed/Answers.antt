-- `devices::slot::changed` meets its contract: what each key is given, or what it had. Assumes nothing.
use Rattle.std.proofs.Common.{rules}
use Rattle.devices.proofs.SlotLaws.{slot-changed}
use Rattle.devices.proofs.slot.changed.Goals as goal

pub returns : goal.returns
returns c =
    let l = c.from_fn.result in
    slot-changed c.args.x c.args.pairs l.rbps l.wbps l.riops l.wiops (search rules) (search rules) (search rules) (search rules)
