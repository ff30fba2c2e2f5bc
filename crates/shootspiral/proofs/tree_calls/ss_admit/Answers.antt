-- `shootspiral::tree_calls::ss_admit` meets its contract. Assumes nothing.
use Rattle.shootspiral.proofs.InterfaceLaws.{plain-number}
use Rattle.shootspiral.proofs.tree_calls.ss_admit.Goals as goal

pub returns : goal.returns
returns c = plain-number c.admit.ensures c.answer_number.ensures
