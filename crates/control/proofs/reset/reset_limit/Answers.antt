-- `control::reset::reset_limit` meets its contract: with no store the group stays as it is. Assumes nothing.
use Rattle.control.proofs.WroteLaws.{wrote_none}
use Rattle.control.proofs.ResetLaws.{limit-kept}
use Rattle.control.proofs.reset.reset_limit.Goals as goal

pub returns-else-gone : goal.returns-else-gone
returns-else-gone c = rw c.if-gone.false (wrote_none _ _ c.requires.long (limit-kept _ c.args.r))
