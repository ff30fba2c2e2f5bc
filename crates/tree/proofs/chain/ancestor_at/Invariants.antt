-- `tree::chain::ancestor_at` meets its contract. The invariant: the entry of the group reached is that of the group that the walk
-- began at. Assumes nothing.
use Prim.Native.Nat.{◌+◌, ◌-◌}
use Rattle.tree.specs.Layout.{view}
use Rattle.tree.proofs.MeetingLaws.{Levelling}
use Rattle.tree.proofs.chain.ancestor_at.Given as goal

abbrev pub invariant-loop : goal.invariant-loop
invariant-loop l = Levelling (view l.t) l.fn.g.0 l.level l.here (l.end + l.level - l.counter)
