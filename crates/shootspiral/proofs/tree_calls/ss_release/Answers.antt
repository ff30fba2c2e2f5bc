-- `shootspiral::tree_calls::ss_release` meets its contract. Assumes nothing.
use Rattle.shootspiral.proofs.InterfaceLaws.{plain-number}
use Rattle.shootspiral.proofs.tree_calls.ss_release.Goals as goal

pub returns : goal.returns
returns c = plain-number c.release.ensures c.answer_number.ensures
