-- `processes::migration::migrate` meets its contract: below the lowest group on both chains the sums have one less along the one and
-- one more along the other, so have the members of the two groups, and then the place is stored. Assumes nothing.
use Prim.Native.Nat.{◌-◌}
use Rattle.model.specs.declared.Resource.TheVariants.{Processes}
use Rattle.tree.specs.Counters.{bottom}
use Rattle.tree.specs.declared.sum.Counter.TheVariants.{Of}
use Rattle.tree.proofs.AdjustLaws.{Rising}
use Rattle.tree.proofs.AlongLaws.{AlongTo}
use Rattle.processes.proofs.migration.migrate.Given as goal

abbrev pub invariant-loop-tree : goal.invariant-loop-tree
invariant-loop-tree l = AlongTo l.initial.tree (Of Processes) l.source 0 1 l.lowest.0 l.tree l.i

abbrev pub decreases-loop-tree : goal.decreases-loop-tree
decreases-loop-tree l = l.source.len - l.i

-- the sums are without the process where the second walk begins
abbrev pub invariant-loop-lowest : goal.invariant-loop-lowest
invariant-loop-lowest l = record {
  out : Rising l.fn.tree (Of Processes) (bottom l.fn.source) 0 1 l.initial.tree l.lowest.0;
  walk : AlongTo l.initial.tree (Of Processes) l.target 1 0 l.lowest.0 l.tree l.j;
}

abbrev pub decreases-loop-lowest : goal.decreases-loop-lowest
decreases-loop-lowest l = l.target.len - l.j
