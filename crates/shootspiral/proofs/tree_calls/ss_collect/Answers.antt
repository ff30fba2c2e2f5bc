-- `shootspiral::tree_calls::ss_collect` meets its contract. Assumes nothing.
use Rattle.shootspiral.proofs.InterfaceLaws.{plain-number}
use Rattle.shootspiral.proofs.tree_calls.ss_collect.Goals as goal

pub returns : goal.returns
returns c = plain-number c.collect.ensures c.answer_number.ensures
