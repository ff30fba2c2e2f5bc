-- `tree::counter::adjust_up` meets its contract. The invariant: the groups passed so far are adjusted, and those above are as they
-- were. The measure is the depth of the group reached. Assumes nothing.
use Rattle.model.specs.Tree.{depths}
use Rattle.tree.specs.Layout.{view}
use Rattle.tree.proofs.AdjustLaws.{Rising}
use Rattle.tree.proofs.counter.adjust_up.Given as goal

abbrev pub invariant-loop-t : goal.invariant-loop-t
invariant-loop-t l = Rising l.initial.t l.c l.initial.here.0 l.more l.less l.t l.here.0

abbrev pub decreases-loop-t : goal.decreases-loop-t
decreases-loop-t l = depths (view l.initial.t) l.here.0
