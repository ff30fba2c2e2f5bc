-- `shootspiral::reply_calls::ss_membership` meets its contract. Assumes nothing.
use Rattle.shootspiral.proofs.InterfaceLaws.{membership-number, membership-told}
use Rattle.shootspiral.proofs.reply_calls.ss_membership.Goals as goal

pub returns : goal.returns
returns c = record { answered = membership-number c.membership-a.ensures c.requires c.answer_number.ensures; told = membership-told c.membership-a.ensures c.read_length.ensures }
