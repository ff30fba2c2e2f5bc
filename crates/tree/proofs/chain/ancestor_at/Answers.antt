-- `tree::chain::ancestor_at` meets its contract. The invariant: the entry of the group reached is that of the group that the walk
-- began at. Assumes nothing.
use native.Mathlib.Omega.{arith}
use mathlib.Core.Path.{refl}
use Rattle.tree.proofs.MeetingLaws.{levelling-start, levelling-next, levelling-end}
use Rattle.tree.proofs.chain.ancestor_at.Goals as goal

pub loop-init : goal.loop-init
loop-init c = levelling-start _ c.requires.kept.formed.sound _ _ _ refl c.requires.live _ (omega (arith, c.depth-end.ensures))

pub loop-preserved : goal.loop-preserved
loop-preserved c = levelling-next _ c.requires.kept.formed.sound _ _ _ _ c.loop.invariant (omega arith) _ c.parent-here.ensures _ (omega arith)

pub returns : goal.returns
returns c = levelling-end _ c.requires.kept.formed.sound _ _ _ _ c.loop.invariant (omega arith)
