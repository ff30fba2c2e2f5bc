-- `shootspiral::tree_calls::ss_charge` meets its contract. Assumes nothing.
use Rattle.model.specs.Replies.{for_charge}
use Rattle.shootspiral.proofs.InterfaceLaws.{asked-number, asked-told}
use Rattle.shootspiral.proofs.tree_calls.ss_charge.Goals as goal

pub returns : goal.returns
returns c =
    let r = c.charge-a.ensures in
    record { answered = asked-number for_charge r c.room_number.ensures; told_after = asked-told for_charge r _ _ c.room_group.ensures c.room_count.ensures }
