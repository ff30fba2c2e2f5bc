-- `shootspiral::tree_calls::ss_hand_over` meets its contract. Assumes nothing.
use Rattle.shootspiral.proofs.InterfaceLaws.{plain-number}
use Rattle.shootspiral.proofs.tree_calls.ss_hand_over.Goals as goal

pub returns : goal.returns
returns c = plain-number c.hand_over.ensures c.answer_number.ensures
