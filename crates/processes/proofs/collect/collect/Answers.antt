-- `processes::collect::collect` meets its contract: what its check answers is the verdict, and a zombie that is forgotten is the definition's
-- effect. Assumes nothing.
use Rattle.tree.proofs.AnswerLaws.{refused}
use Rattle.processes.proofs.CollectLaws.{collect-ended, collect-done}
use Rattle.processes.proofs.collect.collect.Goals as goal

-- refused
pub returns-in_err-vet_collect : goal.returns-in_err-vet_collect
returns-in_err-vet_collect c = refused _ _ c.requires _ _ c.in_err-vet_collect.ensures c.from_residual.ensures.1

pub forget-requires : goal.forget-requires
forget-requires c = collect-ended _ c.requires _ c.in_ok-vet_collect.ensures

-- done
pub returns : goal.returns
returns c = collect-done _ c.requires _ c.in_ok-vet_collect.ensures _ c.forget.ensures
