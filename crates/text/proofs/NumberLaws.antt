-- Laws of number words: the turns of the loop that reads one, and a line of one word. Assumes nothing.
use Rattle.std.proofs.Common.{ℕ, ◌+◌, ◌-◌, ◌*◌, ◌^◌, ◌<◌, ◌≡◌, ◌≢◌, Bool, true, false, List, [], ◌∷◌, length, get_or, drop, Option, Some, None, refl, ap, ◌∙◌, arith, add-one, drop-cons}
use Rattle.std.proofs.Math.Seq.{drop-length}
use Rattle.model.specs.Functions.{pick, mapped}
use Rattle.model.specs.Text.{one_word, is_digit, digits_from, number_word}
use Rattle.text.specs.Line.{sole_word}
use Rattle.text.specs.Number.{clip}

-- what is kept of a number does not depend on what was cut off the digits before
clipped-alike : (l : List ℕ) (m n : ℕ) → clip m ≡ clip n → mapped clip (digits_from m l) ≡ mapped clip (digits_from n l)
unfolding digits_from
clipped-alike [] m n e = ap Some e
clipped-alike (b ∷ l) m n e =
    go _ _ (is_digit b) (clipped-alike l (m * 10 + (b - 48)) (n * 10 + (b - 48)) (omega arith))
  where
    go : (o p : Option ℕ) (t : Bool) → mapped clip o ≡ mapped clip p → mapped clip (pick t o None) ≡ mapped clip (pick t p None)
    go o p true e = e
    go o p false e = refl

pub number-empty : (w : List ℕ) → length w ≡ 0 → number_word w ≡ None
unfolding number_word
number-empty [] h = refl
number-empty (b ∷ w) h = absurd (omega arith)

-- ---- the loop has come to i, and the digits before are worth v

pub number-start : (w : List ℕ) → length w ≢ 0 → mapped clip (digits_from 0 w) ≡ mapped clip (number_word w)
unfolding number_word
number-start [] h = absurd (h refl)
number-start (b ∷ w) h = refl

module _ (w : List ℕ) (i v : ℕ) (h : i < length w) where
  pub number-more : is_digit (get_or w i 0) ≡ true → (n : ℕ) → clip n ≡ clip (v * 10 + (get_or w i 0 - 48))
      → mapped clip (digits_from n (drop (i + 1) w)) ≡ mapped clip (digits_from v (drop i w))
  unfolding digits_from
  number-more d n e =
      clipped-alike (drop (i + 1) w) n (v * 10 + (get_or w i 0 - 48)) e ∙ rw (drop-cons w i 0 h, add-one, d)

  pub number-stop : is_digit (get_or w i 0) ≡ false → digits_from v (drop i w) ≡ None
  unfolding digits_from
  number-stop d = rw (drop-cons w i 0 h, d)

pub number-end : (w : List ℕ) (i v : ℕ) → i ≡ length w → v < 2 ^ 64 → Some v ≡ mapped clip (digits_from v (drop i w))
unfolding digits_from
number-end w i v p h = let e : v ≡ clip v = omega arith in rw (p, drop-length) (ap Some e)

-- ---- a line of one word

pub sole-read : {A : Type 0} (read : List ℕ → Option A) (ws : List (List ℕ)) (w : List ℕ) → sole_word ws ≡ Some w → one_word read ws ≡ read w
unfolding one_word
sole-read read [] w e = cc
sole-read read (v ∷ []) w e = cc
sole-read read (v ∷ u ∷ us) w e = cc

pub sole-unread : {A : Type 0} (read : List ℕ → Option A) (ws : List (List ℕ)) → sole_word ws ≡ None → one_word read ws ≡ None
unfolding one_word
sole-unread read [] e = refl
sole-unread read (w ∷ []) e = cc
sole-unread read (w ∷ v ∷ vs) e = refl
