-- `files::value::put_setting` meets its contract: each arm writes what its setting shows. Assumes nothing.
use Rattle.std.proofs.Common.{rules, arith}
use Rattle.model.specs.Text.{decimal}
use Rattle.files.proofs.ValueTextLaws.{setting-room, length-ended, limit-range, weight-text, bandwidth-text, limit-text}
use Rattle.files.proofs.value.put_setting.Goals as goal

-- cpu.weight
pub put_line-requires : goal.put_line-requires
put_line-requires g c = (
  search rules,
  omega (
    arith,
    length-ended (decimal c.weight.result),
    setting-room c.requires c.clear.ensures c.in-CpuWeight.is (weight-text c.requires.group _ c.weight.ensures),
  ),
)

-- cpu.max
pub put_bandwidth-requires : goal.put_bandwidth-requires
put_bandwidth-requires g c =
    (search rules, setting-room c.requires c.clear.ensures c.in-CpuMax.is (bandwidth-text c.requires.group _ _ c.quota.ensures c.period.ensures))

-- memory.max or pids.max
pub shown_limit-requires : goal.shown_limit-requires
shown_limit-requires g c = limit-range c.requires.group _ _ c.limit.ensures

pub put_limit_line-requires : goal.put_limit_line-requires
put_limit_line-requires g c =
    (search rules, setting-room c.requires c.clear.ensures c.in-Max.is (limit-text c.requires.group _ _ _ c.limit.ensures c.shown_limit.ensures))
