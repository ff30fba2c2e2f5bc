-- `tree::counter::try_charge` meets its contract: the search finds the room of the definition, and the walk after it adjusts the
-- sums along the chain. Assumes nothing.
use Prim.Native.Nat.{ℕ, ◌+◌, ◌^◌, ◌<◌}
use mathlib.Core.Logic.{◌≢◌}
use Rattle.tree.specs.Kept.{KeptAt}
use native.Mathlib.Omega.{arith}
use mathlib.Core.List.{List}
use mathlib.Core.Path.{◌≡◌, refl, sym, ◌∙◌}
use Rattle.model.specs.Hierarchy.{facts_of}
use Rattle.model.specs.Rooms.{Room, acting_limit, consult, room_for}
use Rattle.model.specs.declared.Resource.{Resource}
use Rattle.tree.specs.Layout.{view, sum_in}
use Rattle.tree.specs.Counters.{listed, group_at, bottom, Adjustable, Chargeable}
use Rattle.tree.specs.declared.chain.Chain.{Chain}
use Rattle.tree.specs.declared.sum.Counter.TheVariants.{Of}
use Rattle.tree.proofs.WalkLaws.{on_chain, below-long, below-at, root-on-chain, consult-here, consult-later, consult-root, consult-all}
use Rattle.tree.proofs.AlongLaws.{along-start, along-countable, along-next, along-root, along-end}
use Rattle.tree.proofs.KeptLaws.{Searchable, searchable, adjustable, room-found}
use Rattle.tree.proofs.counter.try_charge.Goals as goal

module _ (xs : List ℕ) (l : Chain) (r : Resource) (n : ℕ) (h : Chargeable xs l n) where
  -- what the search and the walk may ask
  asks : Searchable xs r (listed l) n
  asks = searchable _ h.home.kept _ h.home.live _ h.chain _ _ h.few

  takes : Adjustable xs (Of r) (bottom l) n 0
  takes = adjustable _ h.home.kept _ h.home.live _ _ _ h.few (λ a i. omega arith)

  -- room by the running sums is room by the definition
  found : (x : Room) → x ≡ consult (acting_limit (view xs) r) (sum_in xs (Of r)) n 0 (listed l) → x ≡ room_for (facts_of (view xs)) r n (bottom l)
  found x e = room-found _ h.home.kept _ _ h.chain _ _ x e

  -- of a group below the root, by its place
  below : (i : ℕ) → i + 1 < l.len → (g : ℕ) → g ≡ group_at l i → KeptAt xs g × ((sum_in xs (Of r) g + n < 2 ^ 64) × (g ≢ 0))
  below i b g e =
      let on = on_chain l h.chain.whole i (omega arith) in
      rw e (asks.live _ on, (asks.room _ on, h.chain.whole.inner i b))

pub is_full-requires : goal.is_full-requires
is_full-requires c =
    let a = c.args in
    let w = c.requires.chain.whole in
    below a.t.now a.c a.r a.n c.requires c.loop-i.i (omega (arith, below-long a.c w)) _ (below-at a.c w c.loop-i.i c.loop-i-test.true)

-- a group has no room
pub returns-then-is_full : goal.returns-then-is_full
returns-then-is_full c =
    let a = c.args in
    let w = c.requires.chain.whole in
    record {
      room =
          found a.t.now a.c a.r a.n c.requires _
          (consult-here a.c w c.loop-i.i _ _ a.n _ (below-at a.c w c.loop-i.i c.loop-i-test.true) (omega (arith, below-long a.c w))
          (sym c.is_full.ensures ∙ c.if-is_full.true) ∙ c.loop-i.invariant);
      words = refl;
    }

pub loop-i-preserved : goal.loop-i-preserved
loop-i-preserved c =
    let a = c.args in
    let w = c.requires.chain.whole in
    consult-later a.c w c.loop-i.i _ _ a.n _ (below-at a.c w c.loop-i.i c.loop-i-test.true) (omega (arith, below-long a.c w))
    (sym c.is_full.ensures ∙ c.if-is_full.false) ∙ c.loop-i.invariant

pub is_root_full-requires : goal.is_root_full-requires
is_root_full-requires c =
    let a = c.args in
    let w = c.requires.chain.whole in
    (asks a.t.now a.c a.r a.n c.requires).room 0 (root-on-chain a.c w c.loop-i.i (omega (arith, below-long a.c w)))

-- the root has none
pub returns-then-is_root_full : goal.returns-then-is_root_full
returns-then-is_root_full c =
    let a = c.args in
    let w = c.requires.chain.whole in
    record {
      room =
          found a.t.now a.c a.r a.n c.requires _
          (consult-root a.c w c.loop-i.i (omega (arith, below-long a.c w)) _ _ a.n
          (sym c.is_root_full.ensures ∙ c.if-is_root_full.true) ∙ c.loop-i.invariant);
      words = refl;
    }

pub loop-g-init : goal.loop-g-init
loop-g-init c = let a = c.args in along-start _ _ _ _ _ c.requires.chain (takes a.t.now a.c a.r a.n c.requires)

pub adjust-requires : goal.adjust-requires
adjust-requires c =
    let a = c.args in
    along-countable _ _ _ _ _ c.requires.chain (takes a.t.now a.c a.r a.n c.requires) _ _ c.loop-g.invariant _
    (below-at a.c c.requires.chain.whole c.loop-g.g-index c.loop-g-test.true)

pub loop-g-preserved : goal.loop-g-preserved
loop-g-preserved c =
    let a = c.args in
    let w = c.requires.chain.whole in
    along-next _ _ _ _ _ c.requires.chain (takes a.t.now a.c a.r a.n c.requires) _ _ c.loop-g.invariant _ _
    (below-at a.c w c.loop-g.g-index c.loop-g-test.true) c.adjust.ensures (omega (arith, below-long a.c w))

pub adjust-requires-2 : goal.adjust-requires-2
adjust-requires-2 c =
    let a = c.args in
    along-root _ _ _ _ _ c.requires.chain (takes a.t.now a.c a.r a.n c.requires) _ _ c.loop-g.invariant (omega (arith, below-long a.c c.requires.chain.whole))

-- all have
pub returns : goal.returns
returns c =
    let a = c.args in
    let w = c.requires.chain.whole in
    record {
      room =
          found a.t.now a.c a.r a.n c.requires _
          (consult-all a.c w c.loop-i.i (omega (arith, below-long a.c w)) _ _ a.n
          (sym c.is_root_full.ensures ∙ c.if-is_root_full.false) ∙ c.loop-i.invariant);
      words = along-end _ _ _ _ _ c.requires.chain (takes a.t.now a.c a.r a.n c.requires) _ _ c.loop-g.invariant (omega (arith, below-long a.c w)) _ c.adjust-2.ensures;
    }
