-- `processes::exit::exit` meets its contract: its check is the verdict, and a process that leaves is the definition's effect.
-- Assumes nothing.
use Rattle.model.specs.Calls.{checks, verdict}
use Rattle.tree.proofs.AnswerLaws.{refused}
use Rattle.processes.proofs.ExitLaws.{exit-standing, exit-done}
use Rattle.processes.proofs.exit.exit.Goals as goal

-- refused
pub returns-in_err-vet_process : goal.returns-in_err-vet_process
unfolding verdict checks
returns-in_err-vet_process c = refused _ _ c.requires _ _ c.in_err-vet_process.ensures c.from_residual.ensures.1

pub leave-requires : goal.leave-requires
leave-requires c = exit-standing _ c.requires _ c.in_ok-vet_process.ensures

-- done
pub returns : goal.returns
returns c = exit-done _ c.requires _ c.in_ok-vet_process.ensures _ c.leave.ensures
