-- Laws of a text cut at the first byte b: where the byte stands, and both parts. Assumes nothing.
use Rattle.std.proofs.Common.{ℕ, suc, ◌+◌, ◌-◌, ◌≤◌, ◌<◌, ◌≡◌, ◌≢◌, Bool, true, false, eqb, List, [], ◌∷◌, length, take, drop, Option, refl, ap, ◌∙◌, arith, add-one}
use Rattle.std.specs.Prelude.{MatchOption}
use Rattle.std.specs.List.{AllWithin, HoldsAt}
use Rattle.std.specs.Option.{unwrap_or}
use Rattle.std.proofs.lemmas.List.{take_rest}
use Rattle.std.proofs.lemmas.Iterator.{index_from_first}
use borrow.Author.Tests.{eq-eqb, ne_eqb}
use Rattle.model.specs.Functions.{pick}
use Rattle.model.specs.DeviceLines.{before, after}

module _ (b : ℕ) where
  -- ---- where the byte stands, or the length

  here : (x : ℕ) (w : List ℕ) → x ≡ b → length (before b (x ∷ w)) ≡ 0
  unfolding before
  here x w e = rw (eq-eqb x b e)

  later : (x : ℕ) (w : List ℕ) → x ≢ b → length (before b (x ∷ w)) ≡ length (before b w) + 1
  unfolding before
  later x w n = rw (ne_eqb x b n, add-one)

  none : length (before b []) ≡ 0
  unfolding before
  none = refl

  pub cut-place : (w : List ℕ) (r : Option ℕ)
      → MatchOption r (AllWithin (λ x. x ≢ b) w 0 (length w)) (λ i. (i < length w) × HoldsAt (λ x. x ≡ b) w i × AllWithin (λ x. x ≢ b) w 0 i)
      → length (before b w) ≡ unwrap_or r (length w)
  cut-place w r f =
      index_from_first (λ l. length (before b l)) (λ x. x ≡ b) (λ x. x ≢ b) none here later w r f

  pub cut-inside : (w : List ℕ) → length (before b w) ≤ length w
  unfolding before
  cut-inside [] = omega arith
  cut-inside (x ∷ w) = go (eqb x b) (cut-inside w)
    where
      go : (t : Bool) → length (before b w) ≤ length w → length (pick t [] (x ∷ before b w)) ≤ suc (length w)
      go true h = omega arith
      go false h = omega arith

  -- ---- the parts

  pub cut-front : (w : List ℕ) → take (length (before b w)) w ≡ before b w
  unfolding before
  cut-front [] = refl
  cut-front (x ∷ w) = go (eqb x b) (cut-front w)
    where
      go : (t : Bool) → take (length (before b w)) w ≡ before b w
          → take (length (pick t [] (x ∷ before b w))) (x ∷ w) ≡ pick t [] (x ∷ before b w)
      go true e = refl
      go false e = ap (λ (l : List ℕ). x ∷ l) e

  pub cut-rest : (w : List ℕ) → drop 1 (drop (length (before b w)) w) ≡ after b w
  unfolding before after
  cut-rest [] = refl
  cut-rest (x ∷ w) = go (eqb x b) (cut-rest w)
    where
      go : (t : Bool) → drop 1 (drop (length (before b w)) w) ≡ after b w
          → drop 1 (drop (length (pick t [] (x ∷ before b w))) (x ∷ w)) ≡ pick t w (after b w)
      go true e = refl
      go false e = e

  module _ (w : List ℕ) (n : ℕ) (e : n ≡ length (before b w)) where
    pub part-before : take n w ≡ before b w
    part-before = rw e (cut-front w)

    module _ (r : List ℕ) (d : r ≡ drop n w) where
      -- what stands behind the byte, as a slice without its first
      pub part-after : take (length r - 1) (drop 1 r) ≡ after b w
      part-after = take_rest r 1 ∙ rw (d, e) (cut-rest w)

      pub part-none : length r < 1 → r ≡ after b w
      part-none h = nothing r h ∙ rw (d, e) (cut-rest w)
        where
          nothing : (l : List ℕ) → length l < 1 → l ≡ drop 1 l
          nothing [] h = refl
          nothing (x ∷ l) h = absurd (omega arith)
