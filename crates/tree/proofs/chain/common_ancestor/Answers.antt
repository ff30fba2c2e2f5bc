-- `tree::chain::common_ancestor` meets its contract. The invariant: the two groups reached have one depth, and the common ancestor of
-- the two that the walk began at; pairs compared and their depth come to the depth where it began, plus one. The measure is their
-- depth. Assumes nothing.
use Prim.Native.Nat.{ℕ, min}
use native.Mathlib.Omega.{arith}
use mathlib.Core.List.{List}
use mathlib.Core.Path.{◌≡◌}
use Rattle.model.specs.Tree.{depths}
use Rattle.model.specs.CommonAncestor.{entry_at}
use Rattle.model.specs.declared.GroupId.{GroupId}
use Rattle.tree.specs.Layout.{view}
use Rattle.tree.specs.Kept.{KeptAt}
use Rattle.tree.proofs.MeetingLaws.{Levelled, levelled-at, comparing-start, comparing-few, comparing-next, comparing-less, comparing-end}
use Rattle.tree.proofs.EqualLaws.{unequal, not_unequal}
use Rattle.tree.proofs.chain.common_ancestor.Goals as goal

-- the walk begins at the smaller depth
begun : (xs : List ℕ) {g h m n : ℕ} {x y : GroupId} → KeptAt xs g → KeptAt xs h → m ≡ depths (view xs) h → n ≡ depths (view xs) g
    → x.0 ≡ entry_at (view xs) g (min (depths (view xs) g) m) → y.0 ≡ entry_at (view xs) h (min (depths (view xs) h) n) → Levelled (view xs) g h x y
begun xs kg kh f k p q = levelled-at _ kg.kept.formed.sound kg.live kh.live _ _ f k p q

pub loop-b-init : goal.loop-b-init
loop-b-init c =
    comparing-start _ c.requires.0.kept.formed.sound (begun _ c.requires.0 c.requires.1 c.depth.ensures c.depth-2.ensures c.ancestor_at-a.ensures c.ancestor_at-b.ensures)

pub parent-a-requires : goal.parent-a-requires
parent-a-requires c = c.requires.0.kept.formed.sound.range _ c.loop-b.invariant.left

pub parent-b-requires : goal.parent-b-requires
parent-b-requires c = c.requires.0.kept.formed.sound.range _ c.loop-b.invariant.right

pub overflow_add-compared : goal.overflow_add-compared
overflow_add-compared c =
    omega (
      arith,
      comparing-few _ c.requires.0.kept.formed.sound (begun _ c.requires.0 c.requires.1 c.depth.ensures c.depth-2.ensures c.ancestor_at-a.ensures c.ancestor_at-b.ensures) c.loop-b.invariant,
    )

pub loop-b-smaller : goal.loop-b-smaller
loop-b-smaller c = comparing-less _ c.requires.0.kept.formed.sound c.loop-b.invariant (unequal c.ne.ensures c.loop-b-test.true) c.parent-a.ensures

pub loop-b-preserved : goal.loop-b-preserved
loop-b-preserved c = comparing-next _ c.requires.0.kept.formed.sound c.loop-b.invariant (unequal c.ne.ensures c.loop-b-test.true) c.parent-a.ensures c.parent-b.ensures

pub returns : goal.returns
returns c =
    comparing-end _ c.requires.0.kept.formed.sound (begun _ c.requires.0 c.requires.1 c.depth.ensures c.depth-2.ensures c.ancestor_at-a.ensures c.ancestor_at-b.ensures) c.loop-b.invariant (not_unequal c.ne.ensures c.loop-b-test.false)
