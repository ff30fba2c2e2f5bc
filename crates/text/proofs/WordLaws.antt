-- Laws of words: where the first word of a text begins and ends, the words of a text by the first, and a line that has exactly one.
-- Assumes nothing.
use Rattle.std.proofs.Common.{ℕ, zero, suc, ◌+◌, ◌-◌, ◌≤◌, ◌<◌, ◌≡◌, ◌≢◌, Bool, true, false, eqb, List, [], ◌∷◌, ◌++◌, map, length, get_or, take, drop, Option, Some, None, refl, ap, sym, ◌∙◌, arith, add-one, length-drop, drop-cons}
use Rattle.std.proofs.Math.Seq.{drop-length, drop-drop}
use Rattle.std.proofs.lemmas.List.{take-append-drop}
use Rattle.std.specs.Prelude.{MatchOption}
use Rattle.std.specs.Borrow.{Bor}
use Rattle.std.specs.Option.{is_some}
use Rattle.std.specs.List.{AllWithin, HoldsAt}
use borrow.Author.Tests.{eq-eqb, ne_eqb}
use Rattle.model.specs.Functions.{pick}
use Rattle.model.specs.Text.{space, leading_word, starts_in, starts, words}
use Rattle.model.specs.DeviceLines.{before}
use Rattle.text.specs.Line.{FirstWord, sole_word}
use Rattle.text.proofs.CutLaws.{cut-front}

-- a word ends before the first space
leading-before : (l : List ℕ) → leading_word l ≡ before space l
unfolding leading_word before
leading-before [] = refl
leading-before (b ∷ l) = rw (leading-before l)

module _ (l : List ℕ) (i : ℕ) (h : i < length l) where
  pub word_more : get_or l i 0 ≢ space → length (leading_word (drop i l)) ≡ suc (length (leading_word (drop (i + 1) l)))
  unfolding leading_word
  word_more n = rw (drop-cons l i 0 h, add-one, ne_eqb (get_or l i 0) space n)

  pub word-stop : get_or l i 0 ≡ space → length (leading_word (drop i l)) ≡ 0
  unfolding leading_word
  word-stop q = rw (drop-cons l i 0 h, eq-eqb (get_or l i 0) space q)

pub word_out : (l : List ℕ) (i : ℕ) → i ≡ length l → length (leading_word (drop i l)) ≡ 0
unfolding leading_word
word_out l i p = rw (p, drop-length)

-- ---- starts

starts-blank : (b : ℕ) (l : List ℕ) → b ≡ space → starts (b ∷ l) ≡ starts l
unfolding starts_in
starts-blank b l e = rw (eq-eqb b space e)

-- within a word, the next word is the one after its end
starts-within : (l : List ℕ) → starts_in true l ≡ starts (drop (length (leading_word l)) l)
unfolding starts_in leading_word
starts-within [] = refl
starts-within (b ∷ l) = go (eqb b space) refl (starts-within l)
  where
    go : (t : Bool) → eqb b space ≡ t → starts_in true l ≡ starts (drop (length (leading_word l)) l)
        → pick t (starts l) (starts_in true l) ≡ starts (drop (length (pick t [] (b ∷ leading_word l))) (b ∷ l))
    go true e q = rw e
    go false e q = q

starts-cons : (b : ℕ) (l : List ℕ) → b ≢ space
    → starts (b ∷ l) ≡ (b ∷ l) ∷ starts (drop (length (leading_word (b ∷ l))) (b ∷ l))
unfolding starts_in leading_word
starts-cons b l n = rw (ne_eqb b space n) (ap (λ (z : List (List ℕ)). (b ∷ l) ∷ z) (starts-within l))

-- spaces in front of a word are nothing
starts-skipped : (l : List ℕ) (i : ℕ) → i ≤ length l → AllWithin (λ x. x ≡ space) l 0 i → starts l ≡ starts (drop i l)
starts-skipped l zero h s = refl
starts-skipped [] (suc i) h s = refl
starts-skipped (b ∷ l) (suc i) h s =
    starts-blank b l (s 0 0 (omega arith) (omega arith))
    ∙ starts-skipped l i (omega arith) (λ k d m n. s (suc k) d (omega arith) (omega arith))

-- ---- what the search for the first byte that is no space found

pub no-word : (l : List ℕ) → AllWithin (λ x. x ≡ space) l 0 (length l) → starts l ≡ []
unfolding starts_in
no-word l s = starts-skipped l (length l) (omega arith) s ∙ rw drop-length

starts-found : (l : List ℕ) (i : ℕ) → i < length l → get_or l i 0 ≢ space
    → starts (drop i l) ≡ drop i l ∷ starts (drop (length (before space (drop i l))) (drop i l))
starts-found l i h n =
    rw (← leading-before, drop-cons l i 0 h) (starts-cons (get_or l i 0) (drop (suc i) l) n)

module _ (l : List ℕ) (i : ℕ) (h : i < length l) (here : HoldsAt (λ x. x ≢ space) l i) (s : AllWithin (λ x. x ≡ space) l 0 i) where
  -- the word ends where the text from i on, f, has its first space
  pub first-word : (f : List ℕ) (n : ℕ) (w r : List ℕ) → f ≡ drop i l → n ≡ length (before space f) → w ≡ take n f → r ≡ drop n f → FirstWord l w r
  first-word f n w r d m p q =
      let e : w ++ r ≡ drop i l = rw (p, q, d) (take-append-drop n (drop i l)) in
      record {
        starts = starts-skipped l i (omega arith) s ∙ rw (e, q, m, d) (starts-found l i h (here 0));
        word = rw (e, p, m, d) (leading-before (drop i l) ∙ sym (cut-front space (drop i l)));
        place = i;
        cut = sym e;
        long = omega (arith, ap length e, length-drop i l);
      }

  -- the same by the place where the word ends
  pub first-word-to : (e : ℕ) → e ≡ i + length (leading_word (drop i l)) → (w r : List ℕ) → w ≡ take (e - i) (drop i l) → r ≡ drop e l
      → FirstWord l w r
  first-word-to e q w r p d =
      let z : i + (e - i) ≡ e = omega (arith, q) in
      first-word (drop i l) (e - i) w r refl (omega (arith, q, ap length (leading-before (drop i l)))) p
      (d ∙ sym (drop-drop (e - i) i l ∙ ap (λ k. drop k l) z))

-- ---- the words of a text by the first

pub words-first : (l w r : List ℕ) → FirstWord l w r → words l ≡ w ∷ words r
unfolding words
words-first l w r f = ap (map leading_word) f.starts ∙ ap (λ (z : List ℕ). z ∷ words r) f.word

pub words-none : (l : List ℕ) → starts l ≡ [] → words l ≡ []
unfolding words
words-none l e = ap (map leading_word) e

-- ---- a line that has exactly one

pub sole-none : (l : List ℕ) → starts l ≡ [] → sole_word (words l) ≡ None
sole-none l e = ap sole_word (words-none l e)

-- what `cut_word` answers of a text
abbrev pub Leads : List ℕ → Option (Bor (List ℕ) × Bor (List ℕ)) → Type 0
Leads l o = MatchOption o (starts l ≡ []) (λ p. FirstWord l p.0.now p.1.now)

module _ (l w r : List ℕ) (f : FirstWord l w r) where
  pub sole-alone : (o : Option (Bor (List ℕ) × Bor (List ℕ))) → Leads r o → is_some o ≡ false → sole_word (words l) ≡ Some w
  sole-alone None e h =
      ap sole_word (words-first l w r f ∙ ap (λ (z : List (List ℕ)). w ∷ z) (words-none r e))
  sole-alone (Some p) e h = cc

  pub sole-more : (o : Option (Bor (List ℕ) × Bor (List ℕ))) → Leads r o → is_some o ≡ true → sole_word (words l) ≡ None
  sole-more None e h = cc
  sole-more (Some p) g h =
      ap sole_word (words-first l w r f ∙ ap (λ (z : List (List ℕ)). w ∷ z) (words-first r p.0.now p.1.now g))
