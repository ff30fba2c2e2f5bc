-- `control::reset::reset_cpu` meets its contract: with no store the group stays as it is. Assumes nothing.
use mathlib.Core.Path.{refl}
use Rattle.control.proofs.WroteLaws.{wrote_none}
use Rattle.control.proofs.reset.reset_cpu.Goals as goal

pub returns-else-gone : goal.returns-else-gone
returns-else-gone c = rw c.if-gone.false (wrote_none _ _ c.requires.long refl)
