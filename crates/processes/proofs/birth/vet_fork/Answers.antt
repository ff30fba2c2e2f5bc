-- `processes::birth::vet_fork` meets its contract: its tests are the checks, in their order. Assumes nothing.
use Rattle.model.specs.Calls.{fork_checks}
use Rattle.tree.proofs.AnswerLaws.{front-refused}
use Rattle.processes.proofs.birth.vet_fork.Goals as goal

pub returns-in_err-vet_process : goal.returns-in_err-vet_process
unfolding fork_checks
returns-in_err-vet_process c = front-refused _ _ _ _ c.in_err-vet_process.ensures c.from_residual.ensures.1
