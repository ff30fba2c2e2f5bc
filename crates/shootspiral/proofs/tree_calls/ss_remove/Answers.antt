-- `shootspiral::tree_calls::ss_remove` meets its contract. Assumes nothing.
use Rattle.shootspiral.proofs.InterfaceLaws.{plain-number}
use Rattle.shootspiral.proofs.tree_calls.ss_remove.Goals as goal

pub returns : goal.returns
returns c = plain-number c.remove.ensures c.answer_number.ensures
