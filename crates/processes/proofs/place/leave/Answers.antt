-- `processes::place::leave` meets its contract: one less in its group and above it, one member less there, one zombie more there and above,
-- then the place where it ended. Assumes nothing.
use native.Mathlib.Omega.{arith}
use Rattle.processes.proofs.PlaceLaws.{leave-adjustable, leave-countable, ended-adjustable, ended-rows, exited}
use Rattle.processes.proofs.place.leave.Goals as goal

pub adjust_up-requires : goal.adjust_up-requires
adjust_up-requires c = leave-adjustable _ _ c.requires _ _ c.process_group-group.ensures (omega arith)

pub adjust-requires : goal.adjust-requires
adjust-requires c = leave-countable _ _ c.requires _ _ _ c.process_group-group.ensures c.adjust_up.ensures (omega arith)

pub adjust_up-requires-2 : goal.adjust_up-requires-2
adjust_up-requires-2 c = ended-adjustable _ _ c.requires _ _ _ c.process_group-group.ensures c.adjust_up.ensures c.adjust.ensures _ (omega arith)

pub put_zombie-requires : goal.put_zombie-requires
put_zombie-requires c = ended-rows _ _ c.requires _ _ _ c.process_group-group.ensures c.adjust_up.ensures c.adjust.ensures _ c.adjust_up-2.ensures

pub returns : goal.returns
returns c = exited _ _ c.requires _ _ _ c.process_group-group.ensures c.adjust_up.ensures c.adjust.ensures _ _ c.adjust_up-2.ensures c.put_zombie.ensures
