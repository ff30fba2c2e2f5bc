-- `shootspiral::line_calls::ss_write_procs` meets its contract. Assumes nothing.
use Rattle.shootspiral.proofs.InterfaceLaws.{plain-number}
use Rattle.shootspiral.proofs.line_calls.ss_write_procs.Goals as goal

pub returns : goal.returns
returns c = plain-number c.write_procs.ensures c.answer_number.ensures
