-- Order 3's walk finds the common ancestor: the entries of a chain by their depth, those of two chains at the smaller depth, and from
-- there the walk. Assumes nothing.
use Rattle.std.specs.Prelude.{Some}
use Prim.Native.Nat.{ℕ, zero, suc, ◌+◌, ◌-◌, ◌≤◌, ◌<◌}
use native.Mathlib.Omega.{arith}
use mathlib.Core.Bool.{true}
use mathlib.Core.Logic.{⊎_elim, ◌≢◌}
use mathlib.Core.Path.{◌≡◌, refl, ap, sym, ◌∙◌}
use lib.Dec.{ltb}
use borrow.Author.Tests.{ltb-true, ltb-false, eq-eqb, ne_eqb}
use Rattle.model.specs.Tree.{Tree, lives, parents, depths}
use Rattle.model.specs.Hierarchy.{inside, common_ancestor}
use Rattle.model.specs.CommonAncestor.{meeting_of, smaller_depth, entry_at, walk, AtDepth, OneWalk}
use Rattle.model.specs.WellFormed.{Sound}
use Rattle.model.specs.declared.Meeting.{Meeting}
use Rattle.model.proofs.FunctionLaws.{split, whether}
use Rattle.model.proofs.ChainLaws.{tree-ind, chain-root, chain-up, inside-self, inside-up, inside-cases, inside-root, root-inside, inside-live, inside-trans, inside-level, outside-other}
use Rattle.model.proofs.CommonAncestorLaws.{ancestor-of-left, ancestor-of-right, ancestor-lowest, ancestor-self, ancestor-comm, ancestor-up-left, ancestor-up-both}

-- Entries by their depth.
module _ (t : Tree) (s : Sound (lives t) (parents t) (depths t)) where
  pub entry-own : (g : ℕ) → lives t g ≡ true → entry_at t g (depths t g) ≡ g
  entry-own g l =
      let z : depths t g - depths t g ≡ 0 = omega arith in
      whether g 0
      (λ y. rw (z, y, chain-root s))
      (λ nz. rw (z, chain-up s g l nz))

  -- above the group itself they are its parent's
  pub entry-up : (g d : ℕ) → lives t g ≡ true → d < depths t g → entry_at t g d ≡ entry_at t (parents t g) d
  entry-up g d l h =
      let nz : g ≢ 0 = λ z. omega (arith, h, ap (depths t) z, s.level) in
      let e : depths t g - d ≡ suc (depths t (parents t g) - d) = omega (arith, h, s.deeper g l nz) in
      rw (e, chain-up s g l nz)

  -- a group on the chain is the entry at its depth
  entry_of : (a g : ℕ) → lives t g ≡ true → inside (parents t) a g ≡ true → entry_at t g (depths t a) ≡ a
  entry_of a =
      tree-ind s (λ g. inside (parents t) a g ≡ true → entry_at t g (depths t a) ≡ a)
      (λ i. rw (inside-root s a i) (entry-own 0 s.root))
      (λ g l nz ih i. ⊎_elim
      (λ (e : a ≡ g). rw e (entry-own g l))
      (λ j. entry-up g (depths t a) l (omega (arith, inside-level s a (parents t g) (s.above g l nz) j, s.deeper g l nz)) ∙ ih j)
      (inside-cases s a g l nz i))

  entry-root : (g : ℕ) → lives t g ≡ true → entry_at t g 0 ≡ 0
  entry-root g l = ap (entry_at t g) (sym s.level) ∙ entry_of 0 g l (root-inside s g l)

  pub entry-at-depth : (d g : ℕ) → lives t g ≡ true → d ≤ depths t g → AtDepth t g d
  entry-at-depth d =
      tree-ind s (λ g. d ≤ depths t g → AtDepth t g d)
      (λ h. own 0 s.root (omega (arith, h, s.level)))
      (λ g l nz ih h.
      whether d (depths t g)
      (λ e. own g l e)
      (λ ne.
      let o = ih (omega (arith, s.deeper g l nz)) in
      let e : entry_at t g d ≡ entry_at t (parents t g) d = entry-up g d l (omega (arith, h)) in
      record { on_chain = rw e (inside-up s _ g l nz o.on_chain); level = rw e o.level }))
    where
      own : (g : ℕ) → lives t g ≡ true → d ≡ depths t g → AtDepth t g d
      own g l e = record { on_chain = rw (e, entry-own g l) (inside-self s g l); level = rw (e, entry-own g l) refl }

  -- there is none beyond the group's own
  entry-depth : (d g : ℕ) → lives t g ≡ true → AtDepth t g d → d ≤ depths t g
  entry-depth d g l e = omega (arith, e.level, inside-level s (entry_at t g d) g l e.on_chain)

  pub entry-live : (d g : ℕ) → lives t g ≡ true → d ≤ depths t g → lives t (entry_at t g d) ≡ true
  entry-live d g l h = inside-live s (entry_at t g d) g l (entry-at-depth d g l h).on_chain

  -- one level up is the parent
  entry-parent : (d g : ℕ) → lives t g ≡ true → d < depths t g → parents t (entry_at t g (suc d)) ≡ entry_at t g d
  entry-parent d g l h =
      let o = entry-at-depth (suc d) g l h in
      let e : ℕ = entry_at t g (suc d) in
      let le : lives t e ≡ true = entry-live (suc d) g l h in
      let nz : e ≢ 0 = λ z. omega (arith, o.level, ap (depths t) z, s.level) in
      let la : lives t (parents t e) ≡ true = s.above e le nz in
      let up : inside (parents t) (parents t e) g ≡ true =
      inside-trans s (parents t e) e g l o.on_chain (inside-up s (parents t e) e le nz (inside-self s (parents t e) la)) in
      let at : depths t (parents t e) ≡ d = omega (arith, o.level, s.deeper e le nz) in
      sym (entry_of (parents t e) g l up) ∙ ap (entry_at t g) at

  -- The common ancestor of entries no higher than the other group is that of the groups.
  levelled-left : (d g h : ℕ) → lives t g ≡ true → lives t h ≡ true → d ≤ depths t g → depths t h ≤ d
      → common_ancestor (parents t) (entry_at t g d) h ≡ common_ancestor (parents t) g h
  levelled-left d g h lg lh =
      tree-ind s (λ x. d ≤ depths t x → depths t h ≤ d → common_ancestor (parents t) (entry_at t x d) h ≡ common_ancestor (parents t) x h)
      (λ k m. own 0 s.root (omega (arith, s.level)))
      (λ x l nz ih k m.
      whether d (depths t x)
      (λ e. own x l e)
      (λ ne.
      let e : entry_at t x d ≡ entry_at t (parents t x) d = entry-up x d l (omega arith) in
      rw e (ih (omega (arith, s.deeper x l nz)) m)
      ∙ sym (ancestor-up-left s x h l nz (outside-other s x h lh (omega arith) (λ (q : x ≡ h). omega (arith, ap (depths t) q))))))
      g lg
    where
      own : (x : ℕ) → lives t x ≡ true → d ≡ depths t x → common_ancestor (parents t) (entry_at t x d) h ≡ common_ancestor (parents t) x h
      own x l e = rw (e, entry-own x l) refl

  -- and of the entries of both at the smaller depth
  pub levelled : (g h d : ℕ) → lives t g ≡ true → lives t h ≡ true → d ≡ smaller_depth t g h
      → common_ancestor (parents t) (entry_at t g d) (entry_at t h d) ≡ common_ancestor (parents t) g h
  levelled g h d lg lh e =
      split (ltb (depths t h) (depths t g))
      (λ y.
      let q : d ≡ depths t h = omega (arith, ltb-true (depths t h) (depths t g) y) in
      rw (ap (entry_at t h) q ∙ entry-own h lh) (levelled-left d g h lg lh (omega arith) (omega arith)))
      (λ n.
      let q : d ≡ depths t g = omega (arith, ltb-false (depths t h) (depths t g) n) in
      let y : lives t (entry_at t h d) ≡ true = entry-live d h lh (omega arith) in
      rw (ap (entry_at t g) q ∙ entry-own g lg)
      (ancestor-comm s g (entry_at t h d) lg y ∙ levelled-left d h g lh lg (omega arith) (omega arith) ∙ ancestor-comm s h g lh lg))

  -- The walk from depth d finds the common ancestor of the entries there.
  module _ (g h : ℕ) (lg : lives t g ≡ true) (lh : lives t h ≡ true) where
    abbrev ancestor_at : ℕ → ℕ
    ancestor_at d = common_ancestor (parents t) (entry_at t g d) (entry_at t h d)

    abbrev met_at : ℕ → Meeting
    met_at d = meeting_of (ancestor_at d) (d - depths t (ancestor_at d) + 1)

    -- it is no deeper
    ancestor-level : (d : ℕ) → d ≤ depths t g → depths t (ancestor_at d) ≤ d
    ancestor-level d m =
        let l : lives t (entry_at t g d) ≡ true = entry-live d g lg m in
        omega (
          arith,
          inside-level s (ancestor_at d) (entry_at t g d) l (ancestor-of-left s (entry_at t g d) (entry_at t h d) l),
          (entry-at-depth d g lg m).level,
        )

    -- an equal pair, and one that is not
    pair-equal : (d : ℕ) → d ≤ depths t g → entry_at t g d ≡ entry_at t h d → meeting_of (entry_at t g d) 1 ≡ met_at d
    pair-equal d m e =
        let a : ancestor_at d ≡ entry_at t g d =
        ap (common_ancestor (parents t) (entry_at t g d)) (sym e) ∙ ancestor-self s (entry_at t g d) (entry-live d g lg m) in
        let z : d - depths t (entry_at t g d) ≡ 0 = omega (arith, (entry-at-depth d g lg m).level) in
        rw (a, z)

    pair-other : (d : ℕ) → suc d ≤ depths t g → suc d ≤ depths t h → entry_at t g (suc d) ≢ entry_at t h (suc d) → ancestor_at (suc d) ≡ ancestor_at d
    pair-other d m n ne =
        ancestor-up-both s (entry_at t g (suc d)) (entry_at t h (suc d)) (entry-live (suc d) g lg m) (entry-live (suc d) h lh n)
        ((entry-at-depth (suc d) g lg m).level ∙ sym (entry-at-depth (suc d) h lh n).level) ne
        ∙ rw (entry-parent d g lg m, entry-parent d h lh n) refl

    walk-found : (d : ℕ) → d ≤ depths t g → d ≤ depths t h → walk (entry_at t g) (entry_at t h) d ≡ Some (met_at d)
    unfolding walk
    walk-found zero m n =
        let e : entry_at t g 0 ≡ entry_at t h 0 = entry-root g lg ∙ sym (entry-root h lh) in
        rw (walk, eq-eqb (entry_at t g 0) (entry_at t h 0) e) (ap Some (pair-equal 0 m e))
    walk-found (suc d) m n =
        whether (entry_at t g (suc d)) (entry_at t h (suc d))
        (λ e. rw (walk, eq-eqb (entry_at t g (suc d)) (entry_at t h (suc d)) e) (ap Some (pair-equal (suc d) m e)))
        (λ ne.
        let z : suc d - depths t (ancestor_at d) ≡ d - depths t (ancestor_at d) + 1 = omega (arith, ancestor-level d (omega arith)) in
        rw (walk, ne_eqb (entry_at t g (suc d)) (entry_at t h (suc d)) ne, walk-found d (omega arith) (omega arith), pair-other d m n ne, z))

    pub one-walk : OneWalk t g h
    one-walk =
        let a : ℕ = common_ancestor (parents t) g h in
        let d : ℕ = smaller_depth t g h in
        let same : ancestor_at d ≡ a = levelled g h d lg lh refl in
        let left : inside (parents t) a g ≡ true = ancestor-of-left s g h lg in
        let right : inside (parents t) a h ≡ true = ancestor-of-right s g h lh in
        record {
          pairs = λ d m. (entry-at-depth d g lg (omega arith), entry-at-depth d h lh (omega arith));
          all = λ d x y. omega (arith, entry-depth d g lg x, entry-depth d h lh y);
          apart = λ d m n e.
              let x = entry-at-depth d g lg (omega arith) in
              let y = entry-at-depth d h lh (omega arith) in
              let i : inside (parents t) (entry_at t g d) a ≡ true =
              ancestor-lowest s g h (entry_at t g d) lg x.on_chain (rw e y.on_chain) in
              omega (arith, x.level, inside-level s (entry_at t g d) a (inside-live s a g lg left) i);
          reached = omega (arith, inside-level s a g lg left, inside-level s a h lh right);
          left = entry_of a g lg left;
          right = entry_of a h lh right;
          found = walk-found d (omega arith) (omega arith) ∙ rw same refl;
          itself = λ e.
              let x : a ≡ g = ap (common_ancestor (parents t) g) (sym e) ∙ ancestor-self s g lg in
              let z : d - depths t g ≡ 0 = omega (arith, ap (depths t) e) in
              rw (x, z);
        }
