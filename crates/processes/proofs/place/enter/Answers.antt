-- `processes::place::enter` meets its contract: one more in the group and above it, one member more there, then the place. Assumes nothing.
use native.Mathlib.Omega.{arith}
use Rattle.processes.proofs.PlaceLaws.{enter-adjustable, enter-countable, enter-rows, entered}
use Rattle.processes.proofs.place.enter.Goals as goal

pub adjust_up-requires : goal.adjust_up-requires
adjust_up-requires c = enter-adjustable _ _ _ c.requires _ (omega arith)

pub adjust-requires : goal.adjust-requires
adjust-requires c = enter-countable _ _ _ c.requires _ c.adjust_up.ensures _ (omega arith)

pub put_process-requires : goal.put_process-requires
put_process-requires c = enter-rows _ _ _ c.requires _ _ c.adjust_up.ensures c.adjust.ensures

pub returns : goal.returns
returns c = entered _ _ _ c.requires _ _ _ _ c.adjust_up.ensures c.adjust.ensures c.put_process.ensures
