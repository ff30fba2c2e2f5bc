-- `shootspiral::line_calls::ss_write_setting` meets its contract. Assumes nothing.
use Rattle.shootspiral.proofs.InterfaceLaws.{plain-number}
use Rattle.shootspiral.proofs.line_calls.ss_write_setting.Goals as goal

pub returns : goal.returns
returns c = plain-number c.write_setting.ensures c.answer_number.ensures
