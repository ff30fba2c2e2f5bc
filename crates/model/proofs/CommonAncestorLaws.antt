-- Laws of the common ancestor in a sound tree: it is the lowest group on both chains; and it stays while a group that is not on the
-- other's chain, or each of two different groups of one depth, is left for its parent. Assumes nothing.
use Prim.Native.Nat.{ℕ, ◌≤◌}
use native.Mathlib.Omega.{arith}
use mathlib.Core.Bool.{Bool, true, false}
use mathlib.Core.List.{List, [], ◌∷◌}
use mathlib.Core.Logic.{◌⊎◌, inl, inr, ⊎_elim, ◌≢◌}
use mathlib.Core.Path.{◌≡◌, refl, ap, sym, ◌∙◌}
use Rattle.model.specs.Functions.{member}
use Rattle.model.specs.Hierarchy.{chain, inside, first_common, common_ancestor}
use Rattle.model.specs.WellFormed.{Sound}
use Rattle.model.proofs.FunctionLaws.{split, whether, clash, member-here, member-there}
use Rattle.model.proofs.ChainLaws.{tree-ind, chain-root, chain-up, inside-cases, inside-live, inside-depth, inside-level, outside-other, root-inside}

-- The common ancestor is the first of one chain that is on the other.
common-left : (xs ys : List ℕ) → (first_common xs ys ≡ 0) ⊎ (member (first_common xs ys) xs ≡ true)
unfolding first_common
common-left [] ys = inl refl
common-left (x ∷ xs) ys =
    split (member x ys)
    (λ e. inr (rw (e, first_common) (member-here x xs)))
    (λ e. rw (e, first_common) (⊎_elim (λ z. inl z) (λ m. inr (member-there _ x xs m)) (common-left xs ys)))

common-right : (xs ys : List ℕ) → (first_common xs ys ≡ 0) ⊎ (member (first_common xs ys) ys ≡ true)
unfolding first_common
common-right [] ys = inl refl
common-right (x ∷ xs) ys =
    split (member x ys) (λ e. inr (rw (e, first_common) e)) (λ e. rw (e, first_common) (common-right xs ys))

module _ {live : ℕ → Bool} {up : ℕ → ℕ} {depth : ℕ → ℕ} (s : Sound live up depth) where
  pub ancestor-of-left : (g h : ℕ) → live g ≡ true → inside up (common_ancestor up g h) g ≡ true
  unfolding inside common_ancestor
  ancestor-of-left g h lg =
      ⊎_elim
      (λ (z : first_common (chain up g) (chain up h) ≡ 0). rw z (root-inside s g lg))
      (λ m. m)
      (common-left (chain up g) (chain up h))

  pub ancestor-of-right : (g h : ℕ) → live h ≡ true → inside up (common_ancestor up g h) h ≡ true
  unfolding inside common_ancestor
  ancestor-of-right g h lh =
      ⊎_elim
      (λ (z : first_common (chain up g) (chain up h) ≡ 0). rw z (root-inside s h lh))
      (λ m. m)
      (common-right (chain up g) (chain up h))

  -- "the lowest group that is on both chains": every group on both chains is on its chain
  pub ancestor-lowest : (g h a : ℕ) → live g ≡ true → inside up a g ≡ true → inside up a h ≡ true → inside up a (common_ancestor up g h) ≡ true
  unfolding common_ancestor inside first_common
  ancestor-lowest g h a lg =
      tree-ind s (λ x. inside up a x ≡ true → inside up a h ≡ true → inside up a (first_common (chain up x) (chain up h)) ≡ true)
      base next g lg
    where
      meet : (x : ℕ) (xs : List ℕ) → chain up x ≡ x ∷ xs → member x (chain up h) ≡ true → first_common (chain up x) (chain up h) ≡ x
      meet x xs e m = rw (e, m, first_common)

      base : inside up a 0 ≡ true → inside up a h ≡ true → inside up a (first_common (chain up 0) (chain up h)) ≡ true
      base i j =
          split (member 0 (chain up h))
          (λ m. rw (meet 0 [] (chain-root s) m) i)
          (λ m. rw (chain-root s, m, first_common) i)

      next : (x : ℕ) → live x ≡ true → x ≢ 0
          → (inside up a (up x) ≡ true → inside up a h ≡ true → inside up a (first_common (chain up (up x)) (chain up h)) ≡ true)
          → inside up a x ≡ true → inside up a h ≡ true → inside up a (first_common (chain up x) (chain up h)) ≡ true
      next x l nz ih i j =
          split (member x (chain up h))
          (λ m. rw (meet x _ (chain-up s x l nz) m) i)
          (λ m. rw (chain-up s x l nz, m, first_common)
          (ih (⊎_elim (λ (e : a ≡ x). clash (member x (chain up h)) (rw (← e) j) m) (λ k. k) (inside-cases s a x l nz i)) j))

  -- The common ancestor of a group and itself, whichever group comes first, and where one that is not on the other's chain is left for
  -- its parent.
  pub ancestor-self : (g : ℕ) → live g ≡ true → common_ancestor up g g ≡ g
  unfolding common_ancestor first_common
  ancestor-self g l =
      whether g 0
      (λ z. rw (z, chain-root s, member-here 0 [], first_common))
      (λ nz. rw (chain-up s g l nz, member-here g (chain up (up g)), first_common))

  pub ancestor-comm : (g h : ℕ) → live g ≡ true → live h ≡ true → common_ancestor up g h ≡ common_ancestor up h g
  ancestor-comm g h lg lh =
      let a : ℕ = common_ancestor up g h in
      let b : ℕ = common_ancestor up h g in
      let ag : inside up a g ≡ true = ancestor-of-left g h lg in
      let bh : inside up b h ≡ true = ancestor-of-left h g lh in
      let ab : inside up a b ≡ true = ancestor-lowest h g a lh (ancestor-of-right g h lh) ag in
      let ba : inside up b a ≡ true = ancestor-lowest g h b lg (ancestor-of-right h g lg) bh in
      let le : depth b ≤ depth a = inside-level s b a (inside-live s a g lg ag) ba in
      ⊎_elim (λ (e : a ≡ b). e) (λ lt. absurd (omega (arith, lt))) (inside-depth s a b (inside-live s b h lh bh) ab)

  pub ancestor-up-left : (g h : ℕ) → live g ≡ true → g ≢ 0 → inside up g h ≡ false → common_ancestor up g h ≡ common_ancestor up (up g) h
  unfolding common_ancestor first_common inside
  ancestor-up-left g h l nz o = rw (chain-up s g l nz, o, first_common)

  -- two groups of one depth are the same, or neither is the root
  pub not_root : (g h : ℕ) → live h ≡ true → depth g ≡ depth h → g ≢ h → g ≢ 0
  not_root g h l e ne z =
      whether h 0
      (λ y. ne (z ∙ sym y))
      (λ nz. absurd (omega (arith, e, ap depth z, s.level, s.deeper h l nz)))

  -- both are left for their parents
  pub ancestor-up-both : (g h : ℕ) → live g ≡ true → live h ≡ true → depth g ≡ depth h → g ≢ h
      → common_ancestor up g h ≡ common_ancestor up (up g) (up h)
  ancestor-up-both g h lg lh e ne =
      let gz : g ≢ 0 = not_root g h lh e ne in
      let hz : h ≢ 0 = not_root h g lg (sym e) (λ q. ne (sym q)) in
      let lu : live (up g) ≡ true = s.above g lg gz in
      let o : inside up h (up g) ≡ false =
      outside-other s h (up g) lu (omega (arith, s.deeper g lg gz)) (λ (q : h ≡ up g). omega (arith, s.deeper g lg gz, ap depth q)) in
      ancestor-up-left g h lg gz (outside-other s g h lh (omega arith) ne)
      ∙ ancestor-comm (up g) h lu lh ∙ ancestor-up-left h (up g) lh hz o ∙ ancestor-comm (up h) (up g) (s.above h lh hz) lu
