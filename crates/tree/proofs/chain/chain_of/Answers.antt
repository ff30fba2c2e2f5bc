-- `tree::chain::chain_of` meets its contract. The invariant: the groups written so far, and the chain of the group reached,
-- are the whole chain. The measure is the depth of the group reached. Assumes nothing.
use native.Mathlib.Omega.{arith}
use mathlib.Core.Path.{refl}
use Rattle.tree.proofs.ClimbLaws.{climbing-start, climbing-room, climbing-next, climbing-less, climbing-end}
use Rattle.tree.proofs.EqualLaws.{unequal, not_unequal}
use Rattle.tree.proofs.chain.chain_of.Goals as goal

pub loop-here-init : goal.loop-here-init
loop-here-init c = climbing-start _ _ _ refl c.requires.live

pub offset_bounds-c-i : goal.offset_bounds-c-i
offset_bounds-c-i c = omega (arith, climbing-room _ c.requires.kept.formed _ _ _ _ c.requires.live c.loop-here.invariant)

pub bounds-c-i : goal.bounds-c-i
bounds-c-i c = omega (arith, climbing-room _ c.requires.kept.formed _ _ _ _ c.requires.live c.loop-here.invariant)

pub parent-here-requires : goal.parent-here-requires
parent-here-requires c = c.requires.kept.formed.sound.range _ c.loop-here.invariant.live

pub overflow_add-i : goal.overflow_add-i
overflow_add-i c = omega (arith, climbing-room _ c.requires.kept.formed _ _ _ _ c.requires.live c.loop-here.invariant)

pub loop-here-smaller : goal.loop-here-smaller
loop-here-smaller c = climbing-less _ c.requires.kept.formed _ _ _ _ c.requires.live c.loop-here.invariant (unequal c.ne.ensures c.loop-here-test.true) _ c.parent-here.ensures

pub loop-here-preserved : goal.loop-here-preserved
loop-here-preserved c = climbing-next _ c.requires.kept.formed _ _ _ _ c.requires.live c.loop-here.invariant (unequal c.ne.ensures c.loop-here-test.true) _ c.parent-here.ensures

pub offset_bounds-c-i-2 : goal.offset_bounds-c-i-2
offset_bounds-c-i-2 c = omega (arith, climbing-room _ c.requires.kept.formed _ _ _ _ c.requires.live c.loop-here.invariant)

pub bounds-c-i-2 : goal.bounds-c-i-2
bounds-c-i-2 c = omega (arith, climbing-room _ c.requires.kept.formed _ _ _ _ c.requires.live c.loop-here.invariant)

pub overflow_add-c : goal.overflow_add-c
overflow_add-c c = omega (arith, climbing-room _ c.requires.kept.formed _ _ _ _ c.requires.live c.loop-here.invariant)

pub returns : goal.returns
returns c = climbing-end _ c.requires.kept.formed _ _ _ _ c.requires.live c.loop-here.invariant (not_unequal c.ne.ensures c.loop-here-test.false)
