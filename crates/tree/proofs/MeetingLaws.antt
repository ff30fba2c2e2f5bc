-- The search for the common ancestor in a sound tree: how the loops of `chain::ancestor_at` and `chain::common_ancestor` begin, go on
-- and end. Assumes nothing.
use Prim.Native.Nat.{ℕ, suc, ◌+◌, ◌-◌, ◌≤◌, ◌<◌, min}
use native.Mathlib.Omega.{arith}
use mathlib.Core.Bool.{true}
use mathlib.Core.Logic.{◌≢◌}
use mathlib.Core.Path.{◌≡◌, refl, ap, sym, ◌∙◌}
use Rattle.model.specs.Sizes.{deepest}
use Rattle.model.specs.Tree.{Tree, lives, parents, depths}
use Rattle.model.specs.Hierarchy.{common_ancestor}
use Rattle.model.specs.CommonAncestor.{meeting_of, smaller_depth, meeting, entry_at}
use Rattle.model.specs.WellFormed.{Sound}
use Rattle.model.specs.declared.GroupId.{GroupId}
use Rattle.model.proofs.CommonAncestorLaws.{ancestor-self, ancestor-up-both, not_root}
use Rattle.model.proofs.OneWalk.{entry-own, entry-up, entry-at-depth, entry-live, levelled}

-- the entry of the group reached is that of the group that the walk began at
pub record Levelling (t : Tree) (g level : ℕ) (here : GroupId) (left : ℕ) : Type 0 where
  pub live : lives t here.0 ≡ true
  pub deep : left ≡ depths t here.0
  pub same : entry_at t here.0 (min left level) ≡ entry_at t g (min (depths t g) level)

-- x and y are live, at the smaller depth of g and h, and have the same common ancestor
pub record Levelled (t : Tree) (g h : ℕ) (x y : GroupId) : Type 0 where
  pub left : lives t x.0 ≡ true
  pub right : lives t y.0 ≡ true
  pub left-depth : depths t x.0 ≡ smaller_depth t g h
  pub right-depth : depths t y.0 ≡ smaller_depth t g h
  pub same : common_ancestor (parents t) x.0 y.0 ≡ common_ancestor (parents t) g h

-- the groups reached have one depth, and the common ancestor of x and y, where the walk began; `compared` counts this pair too
pub record Comparing (t : Tree) (x y a b : GroupId) (compared : ℕ) : Type 0 where
  pub left : lives t a.0 ≡ true
  pub right : lives t b.0 ≡ true
  pub level : depths t a.0 ≡ depths t b.0
  pub some : 1 ≤ compared
  pub pairs : compared + depths t a.0 ≡ depths t x.0 + 1
  pub same : common_ancestor (parents t) a.0 b.0 ≡ common_ancestor (parents t) x.0 y.0

module _ (t : Tree) (s : Sound (lives t) (parents t) (depths t)) where
  module _ (g level : ℕ) where
    pub levelling-start : (here : GroupId) → here.0 ≡ g → lives t g ≡ true → (left : ℕ) → left ≡ depths t g → Levelling t g level here left
    levelling-start here e l left d = record { live = rw e l; deep = rw e d; same = rw (e, d) refl }

    module _ (here : GroupId) (left : ℕ) (r : Levelling t g level here left) where
      levelling-deep : level < left → here.0 ≢ 0
      levelling-deep h z = omega (arith, r.deep, ap (depths t) z, s.level)

      pub levelling-next : level < left → (up : GroupId) → up.0 ≡ parents t here.0 → (less : ℕ) → less + 1 ≡ left → Levelling t g level up less
      levelling-next h up e less one =
          let nz : here.0 ≢ 0 = levelling-deep h in
          let here-now : min left level ≡ level = omega arith in
          let up-then : min less level ≡ level = omega arith in
          record {
            live = rw e (s.above here.0 r.live nz);
            deep = rw e (omega (arith, r.deep, s.deeper here.0 r.live nz));
            same = rw (up-then, e, ← entry-up t s here.0 level r.live (omega (arith, r.deep))) (rw here-now at r.same);
          }

      pub levelling-end : left ≤ level → here.0 ≡ entry_at t g (min (depths t g) level)
      levelling-end h =
          let m : min left level ≡ depths t here.0 = omega (arith, r.deep) in
          sym (entry-own t s here.0 r.live) ∙ ap (entry_at t here.0) (sym m) ∙ r.same

  -- the groups that the walk begins at
  module _ {g h : ℕ} (lg : lives t g ≡ true) (lh : lives t h ≡ true) where
    pub levelled-at : {x y : GroupId} (m n : ℕ) → m ≡ depths t h → n ≡ depths t g → x.0 ≡ entry_at t g (min (depths t g) m)
        → y.0 ≡ entry_at t h (min (depths t h) n) → Levelled t g h x y
    levelled-at {x} {y} m n f k p q =
        let d : ℕ = smaller_depth t g h in
        let p' : x.0 ≡ entry_at t g d = rw f at p in
        let e : min (depths t h) n ≡ d = omega arith in
        let q' : y.0 ≡ entry_at t h d = q ∙ ap (entry_at t h) e in
        record {
          left = rw p' (entry-live t s d g lg (omega arith));
          right = rw q' (entry-live t s d h lh (omega arith));
          left-depth = rw p' (entry-at-depth t s d g lg (omega arith)).level;
          right-depth = rw q' (entry-at-depth t s d h lh (omega arith)).level;
          same = rw (p', q') (levelled t s g h d lg lh refl);
        }

  module _ {g h : ℕ} {x y : GroupId} (v : Levelled t g h x y) where
    pub comparing-start : Comparing t x y x y 1
    comparing-start =
        record {
          left = v.left;
          right = v.right;
          level = v.left-depth ∙ sym v.right-depth;
          some = omega arith;
          pairs = omega arith;
          same = refl;
        }

    module _ {a b : GroupId} {compared : ℕ} (c : Comparing t x y a b compared) where
      pub comparing-few : compared ≤ deepest + 1
      comparing-few = omega (arith, c.pairs, s.shallow x.0 v.left)

      pub comparing-end : a.0 ≡ b.0 → record { group = a; compared = compared } ≡ meeting t g h
      comparing-end e =
          let at : a.0 ≡ common_ancestor (parents t) g h =
          sym (ancestor-self s a.0 c.left) ∙ ap (common_ancestor (parents t) a.0) e ∙ c.same ∙ v.same in
          let n : compared ≡ smaller_depth t g h - depths t a.0 + 1 = omega (arith, c.some, c.pairs, v.left-depth) in
          ap (meeting_of a.0) n ∙ ap (λ (z : ℕ). meeting_of z (smaller_depth t g h - depths t z + 1)) at

  -- an unequal pair
  module _ {x y a b : GroupId} {compared : ℕ} (c : Comparing t x y a b compared) (ne : a.0 ≢ b.0) where
    left-deep : depths t a.0 ≡ suc (depths t (parents t a.0))
    left-deep = s.deeper a.0 c.left (not_root s a.0 b.0 c.right c.level ne)

    pub comparing-less : {p : GroupId} → p.0 ≡ parents t a.0 → depths t p.0 < depths t a.0
    comparing-less e = rw e (omega (arith, left-deep))

    pub comparing-next : {p q : GroupId} → p.0 ≡ parents t a.0 → q.0 ≡ parents t b.0 → Comparing t x y p q (compared + 1)
    comparing-next e f =
        let az : a.0 ≢ 0 = not_root s a.0 b.0 c.right c.level ne in
        let bz : b.0 ≢ 0 = not_root s b.0 a.0 c.left (sym c.level) (λ z. ne (sym z)) in
        record {
          left = rw e (s.above a.0 c.left az);
          right = rw f (s.above b.0 c.right bz);
          level = rw (e, f) (omega (arith, left-deep, s.deeper b.0 c.right bz, c.level));
          some = omega arith;
          pairs = rw e (omega (arith, left-deep, c.pairs));
          same = rw (e, f) (sym (ancestor-up-both s a.0 b.0 c.left c.right c.level ne)) ∙ c.same;
        }
