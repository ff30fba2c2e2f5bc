-- `tree::chain::common_ancestor` meets its contract. The invariant: the two groups reached have one depth, and the common ancestor of
-- the two that the walk began at; pairs compared and their depth come to the depth where it began, plus one. The measure is their
-- depth. Assumes nothing.
use Rattle.model.specs.Tree.{depths}
use Rattle.tree.specs.Layout.{view}
use Rattle.tree.proofs.MeetingLaws.{Comparing}
use Rattle.tree.proofs.chain.common_ancestor.Given as goal

abbrev pub invariant-loop-b : goal.invariant-loop-b
invariant-loop-b l = Comparing (view l.t) l.initial.a l.initial.b l.a l.b l.compared

abbrev pub decreases-loop-b : goal.decreases-loop-b
decreases-loop-b l = depths (view l.t) l.a.0
