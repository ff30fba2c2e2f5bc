-- `shootspiral::tree_calls::ss_make` meets its contract. Assumes nothing.
use Rattle.shootspiral.proofs.InterfaceLaws.{plain-number}
use Rattle.shootspiral.proofs.tree_calls.ss_make.Goals as goal

pub returns : goal.returns
returns c = plain-number c.make.ensures c.answer_number.ensures
