-- `shootspiral::line_calls::ss_write_subtree_control` meets its contract. Assumes nothing.
use Rattle.shootspiral.proofs.InterfaceLaws.{plain-number}
use Rattle.shootspiral.proofs.line_calls.ss_write_subtree_control.Goals as goal

pub returns : goal.returns
returns c = plain-number c.write_subtree_control.ensures c.answer_number.ensures
