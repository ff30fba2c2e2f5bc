-- `groups::hand_over::hand_over` meets its contract. Assumes nothing.
use Rattle.tree.proofs.AnswerLaws.{refused, accepted}
use Rattle.groups.proofs.HandOverLaws.{hand-over-low, applied-hand-over}
use Rattle.groups.proofs.hand_over.hand_over.Goals as goal

-- refused
pub returns-in_err-vet_hand_over : goal.returns-in_err-vet_hand_over
returns-in_err-vet_hand_over c = refused _ _ c.requires _ _ c.in_err-vet_hand_over.ensures c.from_residual.ensures.1

pub set_owner-requires : goal.set_owner-requires
set_owner-requires c = record { long = c.requires.long; low = hand-over-low _ _ _ _ c.in_ok-vet_hand_over.ensures }

-- done
pub returns : goal.returns
returns c =
    let v = c.in_ok-vet_hand_over.ensures in
    accepted _ _ c.requires _ v (applied-hand-over _ c.requires _ _ _ v _ c.set_owner.ensures)
