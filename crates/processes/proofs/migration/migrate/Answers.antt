-- `processes::migration::migrate` meets its contract: below the lowest group on both chains the sums have one less along the one and
-- one more along the other, so have the members of the two groups, and then the place is stored. Assumes nothing.
use native.Mathlib.Omega.{arith}
use Rattle.model.specs.declared.Resource.TheVariants.{Processes}
use Rattle.tree.specs.Counters.{bottom}
use Rattle.tree.specs.declared.sum.Counter.TheVariants.{Of}
use Rattle.tree.proofs.AdjustLaws.{Rising}
use Rattle.tree.proofs.AlongLaws.{along-to-start, along-to-more, along-to-countable, along-to-next, along-to-end}
use Rattle.processes.proofs.MoveLaws.{unmet, met, leave-chain, leave-along, meeting-left, come-chain, come-meeting, come-along, move-less, move-more, move-rows, moved}
use Rattle.processes.proofs.migration.migrate.Goals as goal
use Rattle.processes.proofs.migration.migrate.Goals.{After-process_user-own_user}

-- up the source's chain
pub loop-tree-init : goal.loop-tree-init
loop-tree-init c = along-to-start _ _ _ _ _ (leave-chain c.requires) (leave-along c.requires) _ (meeting-left c.requires)

pub adjust-requires : goal.adjust-requires
adjust-requires c =
    let p = c.requires in
    along-to-countable _ _ _ _ _ (leave-chain p) (leave-along p) _ _ _ c.loop-tree.invariant (unmet _ _ c.loop-tree-test.ensures)

pub loop-tree-smaller : goal.loop-tree-smaller
loop-tree-smaller c =
    let p = c.requires in
    omega (arith, along-to-more _ _ _ _ _ (leave-chain p) (leave-along p) _ _ _ c.loop-tree.invariant (unmet _ _ c.loop-tree-test.ensures))

pub loop-tree-preserved : goal.loop-tree-preserved
loop-tree-preserved c =
    let p = c.requires in
    along-to-next _ _ _ _ _ (leave-chain p) (leave-along p) _ _ _ c.loop-tree.invariant (unmet _ _ c.loop-tree-test.ensures) _ c.adjust.ensures

-- up the target's
pub loop-lowest-init : goal.loop-lowest-init
loop-lowest-init c =
    let p = c.requires in
    let o = along-to-end _ _ _ _ _ (leave-chain p) (leave-along p) _ _ _ c.loop-tree.invariant (met _ _ c.loop-tree-test.ensures) in
    record { out = o; walk = along-to-start _ _ _ _ _ (come-chain p _ o) (come-along p _ o) _ (come-meeting p _ o) }

pub adjust-requires-in-loop-lowest : goal.adjust-requires-in-loop-lowest
adjust-requires-in-loop-lowest c =
    let p = c.requires in
    let i = c.loop-lowest.invariant in
    along-to-countable _ _ _ _ _ (come-chain p _ i.out) (come-along p _ i.out) _ _ _ i.walk (unmet _ _ c.loop-lowest-test.ensures)

pub loop-lowest-smaller : goal.loop-lowest-smaller
loop-lowest-smaller c =
    let p = c.requires in
    let i = c.loop-lowest.invariant in
    omega (arith, along-to-more _ _ _ _ _ (come-chain p _ i.out) (come-along p _ i.out) _ _ _ i.walk (unmet _ _ c.loop-lowest-test.ensures))

pub loop-lowest-preserved : goal.loop-lowest-preserved
loop-lowest-preserved c =
    let p = c.requires in
    let i = c.loop-lowest.invariant in
    record {
      out = i.out;
      walk = along-to-next _ _ _ _ _ (come-chain p _ i.out) (come-along p _ i.out) _ _ _ i.walk (unmet _ _ c.loop-lowest-test.ensures) _ c.adjust-in-loop-lowest.ensures;
    }

-- after both walks
back : (c : After-process_user-own_user) → Rising c.loop-tree.tree (Of Processes) (bottom c.args.target) 1 0 c.loop-lowest.tree c.args.lowest.0
back c =
    let p = c.requires in
    let i = c.loop-lowest.invariant in
    along-to-end _ _ _ _ _ (come-chain p _ i.out) (come-along p _ i.out) _ _ _ i.walk (met _ _ c.loop-lowest-test.ensures)

-- one member less, one more, and the place
pub adjust-requires-2 : goal.adjust-requires-2
adjust-requires-2 c =
    move-less c.requires _ c.loop-lowest.invariant.out _ (back (goal.at.adjust-requires-2 c).After-process_user-own_user) _ (omega arith)

pub adjust-requires-3 : goal.adjust-requires-3
adjust-requires-3 c =
    move-more c.requires _ c.loop-lowest.invariant.out _ (back (goal.at.adjust-requires-3 c).After-process_user-own_user)
    _ c.adjust-2.ensures _ (omega arith)

pub put_process-requires : goal.put_process-requires
put_process-requires c =
    move-rows c.requires _ c.loop-lowest.invariant.out _ (back (goal.at.put_process-requires c).After-process_user-own_user)
    _ c.adjust-2.ensures _ c.adjust-3.ensures

pub returns : goal.returns
returns c =
    moved c.requires _ c.loop-lowest.invariant.out _ (back (goal.at.returns c).After-process_user-own_user)
    _ c.adjust-2.ensures _ c.adjust-3.ensures _ _ c.process_user-own_user.ensures c.put_process.ensures
