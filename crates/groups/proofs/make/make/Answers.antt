-- `groups::make::make` meets its contract: its parent counts it first, then the new group's row is stored. Assumes nothing.
use native.Mathlib.Omega.{arith}
use Rattle.tree.proofs.AnswerLaws.{refused, accepted}
use Rattle.groups.proofs.MakeLaws.{makeable, make-countable, new-blank, applied-make}
use Rattle.groups.proofs.make.make.Goals as goal

-- refused
pub returns-in_err-vet_make : goal.returns-in_err-vet_make
returns-in_err-vet_make c = refused _ _ c.requires _ _ c.in_err-vet_make.ensures c.from_residual.ensures.1

pub depth-deep-requires : goal.depth-deep-requires
depth-deep-requires c = (makeable _ _ _ _ c.in_ok-vet_make.ensures).above

pub overflow_add-deep : goal.overflow_add-deep
overflow_add-deep c = omega (arith, (makeable _ _ _ _ c.in_ok-vet_make.ensures).shallow)

pub adjust-requires : goal.adjust-requires
adjust-requires c = make-countable _ c.requires _ _ _ c.in_ok-vet_make.ensures _ (omega arith)

pub set_group-requires : goal.set_group-requires
set_group-requires c =
    let v = c.in_ok-vet_make.ensures in
    let j = c.adjust.ensures in
    (record { long = j.long; low = (makeable _ _ _ _ v).low }, new-blank _ c.requires _ _ _ v _ j)

-- done
pub returns : goal.returns
returns c =
    let v = c.in_ok-vet_make.ensures in
    accepted _ _ c.requires _ v (applied-make _ c.requires _ _ _ v _ _ _ c.depth-deep.ensures c.adjust.ensures c.set_group.ensures)
