-- `groups::remove::remove` meets its contract: the pages are stored at the parent before the group's row is cleared, its parent counts one
-- child less, and where zombies are inside what is left of the group is stored. Assumes nothing.
use native.Mathlib.Omega.{arith}
use Rattle.tree.proofs.AnswerLaws.{refused, accepted}
use Rattle.groups.proofs.RemoveLaws.{group-low, group-kept, parent-found, pages-fit, remove-countable, left-fits, zombies-countable, applied-blank, applied-left}
use Rattle.groups.proofs.remove.remove.Goals as goal

-- refused
pub returns-in_err-vet_remove : goal.returns-in_err-vet_remove
returns-in_err-vet_remove c = refused _ _ c.requires _ _ c.in_err-vet_remove.ensures c.from_residual.ensures.1

pub parent-above-requires : goal.parent-above-requires
parent-above-requires c = group-low _ c.requires _ _ c.in_ok-vet_remove.ensures

pub depth-deep-requires : goal.depth-deep-requires
depth-deep-requires c = group-low _ c.requires _ _ c.in_ok-vet_remove.ensures

pub count-waiting-requires : goal.count-waiting-requires
count-waiting-requires c = group-kept _ c.requires _ _ c.in_ok-vet_remove.ensures

pub own-held-requires : goal.own-held-requires
own-held-requires c = parent-found _ c.requires _ _ c.in_ok-vet_remove.ensures _ c.parent-above.ensures

pub own-requires : goal.own-requires
own-requires c = group-low _ c.requires _ _ c.in_ok-vet_remove.ensures

pub overflow_add-pages : goal.overflow_add-pages
overflow_add-pages c =
    omega (arith, pages-fit _ c.requires _ _ c.in_ok-vet_remove.ensures _ c.parent-above.ensures _ _ c.own-held.ensures c.own.ensures)

pub adjust-requires : goal.adjust-requires
adjust-requires c = remove-countable _ c.requires _ _ c.in_ok-vet_remove.ensures _ _ c.parent-above.ensures (omega arith)

pub set_own-requires : goal.set_own-requires
set_own-requires c =
    record { long = c.adjust.ensures.long; low = parent-found _ c.requires _ _ c.in_ok-vet_remove.ensures _ c.parent-above.ensures }

pub clear_group-requires : goal.clear_group-requires
clear_group-requires c = record { long = c.set_own.ensures.long; low = group-low _ c.requires _ _ c.in_ok-vet_remove.ensures }

-- done, and nothing is left
pub returns-then-waiting-eq0 : goal.returns-then-waiting-eq0
returns-then-waiting-eq0 c =
    accepted _ _ c.requires _ c.in_ok-vet_remove.ensures
    (applied-blank _ c.requires _ _ c.in_ok-vet_remove.ensures _ _ _ _ _ _ c.parent-above.ensures c.own-held.ensures c.own.ensures
    c.adjust.ensures c.set_own.ensures c.clear_group.ensures _ c.count-waiting.ensures c.if-waiting-eq0.true)

pub set_removed-requires : goal.set_removed-requires
set_removed-requires c = (
  record { long = c.clear_group.ensures.long; low = group-low _ c.requires _ _ c.in_ok-vet_remove.ensures },
  (parent-found _ c.requires _ _ c.in_ok-vet_remove.ensures _ c.parent-above.ensures, left-fits _ c.requires _ _ c.in_ok-vet_remove.ensures _ c.depth-deep.ensures),
)

pub adjust-requires-2 : goal.adjust-requires-2
adjust-requires-2 c =
    zombies-countable _ c.requires _ _ c.in_ok-vet_remove.ensures _ _ _ _ _ _ c.parent-above.ensures c.own-held.ensures c.own.ensures
    c.adjust.ensures c.set_own.ensures c.clear_group.ensures _ c.count-waiting.ensures _ _ c.set_removed.ensures

-- done, and what zombies need is left
pub returns : goal.returns
returns c =
    accepted _ _ c.requires _ c.in_ok-vet_remove.ensures
    (applied-left _ c.requires _ _ c.in_ok-vet_remove.ensures _ _ _ _ _ _ c.parent-above.ensures c.own-held.ensures c.own.ensures
    c.adjust.ensures c.set_own.ensures c.clear_group.ensures _ c.count-waiting.ensures c.if-waiting-eq0.false
    _ _ _ c.depth-deep.ensures c.set_removed.ensures c.adjust-2.ensures)
