-- `control::setting::store` meets its contract: each arm stores the value that it matches. Assumes nothing.
use Rattle.tree.specs.Layout.{view}
use Rattle.control.proofs.ValueLaws.{settable-row, figure-in, storable-kept, storable-quota, storable-bandwidth, storable-amount}
use Rattle.control.proofs.ValueLaws.{weight-written, quota-written, bandwidth-written, limit-written}
use Rattle.control.proofs.ValueLaws.{weight-io, quota-io, bandwidth-io, limit-io, stored-with-room}
use Rattle.control.proofs.WroteLaws.{wrote-group-as}
use Rattle.control.proofs.setting.store.Goals as goal

pub set_cpu-requires : goal.set_cpu-requires
set_cpu-requires c = (settable-row _ _ _ c.requires, storable-kept _ _ _ c.requires _ c.quota.ensures)

pub set_cpu-requires-in-Quota : goal.set_cpu-requires-in-Quota
set_cpu-requires-in-Quota c = (settable-row _ _ _ c.requires, storable-quota _ _ _ c.requires _ c.in-Quota.is)

pub set_cpu-requires-in-Bandwidth : goal.set_cpu-requires-in-Bandwidth
set_cpu-requires-in-Bandwidth c = (settable-row _ _ _ c.requires, storable-bandwidth _ _ _ c.requires _ _ c.in-Bandwidth.is)

pub set_limit-requires : goal.set_limit-requires
set_limit-requires c =
    (settable-row _ _ _ c.requires, storable-amount _ _ _ c.stored_limit.ensures (figure-in _ _ _ c.requires _ _ c.in-Maximum.is))

-- cpu.weight
pub returns-in-Weight : goal.returns-in-Weight
returns-in-Weight c =
    let e = c.in-Weight.is in
    stored-with-room _ _ _ c.requires _ (weight-io _ _ _ e)
    (wrote-group-as _ _ (weight-written ((view c.args.t.now).group c.args.g.0) _ _ _ _ e c.quota.ensures c.period.ensures)
    c.set_cpu.ensures)

-- cpu.max, one word
pub returns-in-Quota : goal.returns-in-Quota
returns-in-Quota c =
    let e = c.in-Quota.is in
    stored-with-room _ _ _ c.requires _ (quota-io _ _ _ e)
    (wrote-group-as _ _ (quota-written ((view c.args.t.now).group c.args.g.0) _ _ _ _ e c.weight.ensures c.period-in-Quota.ensures)
    c.set_cpu-in-Quota.ensures)

-- cpu.max, two words
pub returns-in-Bandwidth : goal.returns-in-Bandwidth
returns-in-Bandwidth c =
    let e = c.in-Bandwidth.is in
    stored-with-room _ _ _ c.requires _ (bandwidth-io _ _ _ _ e)
    (wrote-group-as _ _ (bandwidth-written ((view c.args.t.now).group c.args.g.0) _ _ _ _ e c.weight-in-Bandwidth.ensures)
    c.set_cpu-in-Bandwidth.ensures)

-- memory.max or pids.max
pub returns-in-Maximum : goal.returns-in-Maximum
returns-in-Maximum c =
    let e = c.in-Maximum.is in
    stored-with-room _ _ _ c.requires _ (limit-io _ _ _ _ e)
    (wrote-group-as _ _ (limit-written ((view c.args.t.now).group c.args.g.0) _ _ _ _ e c.stored_limit.ensures)
    c.set_limit.ensures)
