-- `shootspiral::tree_calls::ss_fork` meets its contract. Assumes nothing.
use Rattle.model.specs.Replies.{for_fork}
use Rattle.shootspiral.proofs.InterfaceLaws.{asked-number, asked-told}
use Rattle.shootspiral.proofs.tree_calls.ss_fork.Goals as goal

pub returns : goal.returns
returns c =
    let r = c.fork-a.ensures in
    record { answered = asked-number for_fork r c.room_number.ensures; told_after = asked-told for_fork r _ _ c.room_group.ensures c.room_count.ensures }
