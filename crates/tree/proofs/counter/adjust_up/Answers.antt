-- `tree::counter::adjust_up` meets its contract. The invariant: the groups passed so far are adjusted, and those above are as they
-- were. The measure is the depth of the group reached. Assumes nothing.
use Rattle.tree.proofs.AdjustLaws.{rising-start, rising-low, rising-countable, rising-next, rising-less, rising-end}
use Rattle.tree.proofs.EqualLaws.{unequal, not_unequal}
use Rattle.tree.proofs.counter.adjust_up.Goals as goal

pub loop-t-init : goal.loop-t-init
loop-t-init c = rising-start _ _ _ _ _ c.requires

pub adjust-requires : goal.adjust-requires
adjust-requires c = rising-countable _ _ _ _ _ c.requires _ _ c.loop-t.invariant

pub parent-here-requires : goal.parent-here-requires
parent-here-requires c = rising-low _ _ _ _ _ c.requires _ _ c.loop-t.invariant

pub loop-t-smaller : goal.loop-t-smaller
loop-t-smaller c = rising-less _ _ _ _ _ c.requires _ _ c.loop-t.invariant _ c.adjust.ensures (unequal c.ne.ensures c.loop-t-test.true) _ c.parent-here.ensures

pub loop-t-preserved : goal.loop-t-preserved
loop-t-preserved c = rising-next _ _ _ _ _ c.requires _ _ c.loop-t.invariant _ c.adjust.ensures (unequal c.ne.ensures c.loop-t-test.true) _ c.parent-here.ensures

pub adjust-requires-2 : goal.adjust-requires-2
adjust-requires-2 c = rising-countable _ _ _ _ _ c.requires _ _ c.loop-t.invariant

pub returns : goal.returns
returns c = rising-end _ _ _ _ _ c.requires _ _ c.loop-t.invariant _ c.adjust-2.ensures (not_unequal c.ne.ensures c.loop-t-test.false)
