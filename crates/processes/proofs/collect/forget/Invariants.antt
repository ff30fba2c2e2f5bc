-- `processes::collect::forget` meets its contract. The invariant: the removed groups passed so far are as they will be, and those above as
-- they were. The measure is the depth of the group reached. Assumes nothing.
use Rattle.model.specs.Zombies.{path_depths}
use Rattle.tree.specs.Layout.{view}
use Rattle.processes.proofs.CollectLaws.{Passing}
use Rattle.processes.proofs.collect.forget.Given as goal

abbrev pub invariant-loop-tree : goal.invariant-loop-tree
invariant-loop-tree l = Passing l.initial.tree l.process.0 l.tree l.here.0

abbrev pub decreases-loop-tree : goal.decreases-loop-tree
decreases-loop-tree l = path_depths (view l.initial.tree) l.here.0
