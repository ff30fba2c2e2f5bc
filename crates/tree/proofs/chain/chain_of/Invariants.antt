-- `tree::chain::chain_of` meets its contract. The invariant: the groups written so far, and the chain of the group reached,
-- are the whole chain. The measure is the depth of the group reached. Assumes nothing.
use Rattle.model.specs.Tree.{depths}
use Rattle.tree.specs.Layout.{view}
use Rattle.tree.proofs.ClimbLaws.{Climbing}
use Rattle.tree.proofs.chain.chain_of.Given as goal

abbrev pub invariant-loop-here : goal.invariant-loop-here
invariant-loop-here l = Climbing (view l.t) l.initial.here.0 l.c.at l.here l.i

abbrev pub decreases-loop-here : goal.decreases-loop-here
decreases-loop-here l = depths (view l.t) l.here.0
