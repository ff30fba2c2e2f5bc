-- `shootspiral::reply_calls::ss_read` meets its contract. Assumes nothing.
use Rattle.shootspiral.proofs.InterfaceLaws.{read-number, read_told}
use Rattle.shootspiral.proofs.reply_calls.ss_read.Goals as goal

pub returns : goal.returns
returns c = record { answered = read-number c.read-a.ensures c.requires c.answer_number.ensures; told = read_told c.read-a.ensures c.read_length.ensures }
