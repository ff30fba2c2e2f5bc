-- `processes::birth::admit` meets its contract: what its checks answer is the verdict, and a process that enters the root is the
-- definition's effect. Assumes nothing.
use Rattle.model.specs.Calls.{checks, verdict}
use Rattle.tree.proofs.AnswerLaws.{refused}
use Rattle.processes.proofs.BirthLaws.{admit-vacant, admitted}
use Rattle.processes.proofs.birth.admit.Goals as goal

-- refused
pub returns-in_err-vet_free : goal.returns-in_err-vet_free
unfolding verdict checks
returns-in_err-vet_free c = refused _ _ c.requires _ _ c.in_err-vet_free.ensures c.from_residual.ensures.1

pub enter-requires : goal.enter-requires
unfolding verdict checks
enter-requires c = admit-vacant _ c.requires _ c.args.user c.in_ok-vet_free.ensures

-- done
pub returns : goal.returns
unfolding verdict checks
returns c = admitted _ c.requires _ _ c.in_ok-vet_free.ensures _ c.enter.ensures
