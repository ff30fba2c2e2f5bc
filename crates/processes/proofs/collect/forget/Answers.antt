-- `processes::collect::forget` meets its contract. The invariant: the removed groups passed so far are as they will be, and those above as
-- they were. The measure is the depth of the group reached. Assumes nothing.
use native.Mathlib.Omega.{arith}
use mathlib.Core.Path.{sym, ◌∙◌}
use Rattle.processes.proofs.CollectLaws.{passing-start, passing-low, passing-countable, passing-less, passing-next, passing-adjustable, forgotten}
use Rattle.processes.proofs.collect.forget.Goals as goal

pub loop-tree-init : goal.loop-tree-init
loop-tree-init c = passing-start _ _ c.requires _ c.zombie_group-here.ensures

pub is_live-requires : goal.is_live-requires
is_live-requires c = passing-low _ _ c.requires _ _ c.loop-tree.invariant

pub removed_parent-above-requires : goal.removed_parent-above-requires
removed_parent-above-requires c = passing-low _ _ c.requires _ _ c.loop-tree.invariant

pub uncount-requires : goal.uncount-requires
uncount-requires c = passing-countable _ _ c.requires _ _ c.loop-tree.invariant

pub loop-tree-smaller : goal.loop-tree-smaller
loop-tree-smaller c = passing-less _ _ c.requires _ _ c.loop-tree.invariant (sym c.is_live.ensures ∙ c.loop-tree-test.true) _ c.removed_parent-above.ensures

pub loop-tree-preserved : goal.loop-tree-preserved
loop-tree-preserved c =
    passing-next _ _ c.requires _ _ c.loop-tree.invariant (sym c.is_live.ensures ∙ c.loop-tree-test.true) _ c.removed_parent-above.ensures
    _ c.uncount.ensures

pub adjust_up-requires : goal.adjust_up-requires
adjust_up-requires c = passing-adjustable _ _ c.requires _ _ c.loop-tree.invariant (sym c.is_live.ensures ∙ c.loop-tree-test.false) _ (omega arith)

pub returns : goal.returns
returns c =
    forgotten _ _ c.requires _ _ c.loop-tree.invariant (sym c.is_live.ensures ∙ c.loop-tree-test.false) _ _
    c.adjust_up.ensures c.clear_process.ensures
