-- `shootspiral::tree_calls::ss_exit` meets its contract. Assumes nothing.
use Rattle.shootspiral.proofs.InterfaceLaws.{plain-number}
use Rattle.shootspiral.proofs.tree_calls.ss_exit.Goals as goal

pub returns : goal.returns
returns c = plain-number c.exit.ensures c.answer_number.ensures
