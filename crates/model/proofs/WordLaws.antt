-- Laws of specs/Words.antt: a line's body is the line without its final newline, and its front; one word begins at a place; the word that a text begins with; bad words
-- behind one byte more; what `first_bad_word` and `has_bad_word` answer, and that no other part would do. Assumes nothing.
use Prim.Native.Nat.{ℕ, zero, suc, ◌+◌, ◌-◌, ◌≤◌, ◌<◌}
use native.Mathlib.Nat.{suc-add, zero-add}
use native.Mathlib.Omega.{arith}
use mathlib.Core.Bool.{true, false, not}
use mathlib.Core.List.{List, [], ◌∷◌, ◌++◌, nil≢cons, head-eq_of_cons-eq, tail-eq_of_cons-eq}
use mathlib.Core.Logic.{◌⊎◌, inl, inr, ⊎_elim, ◌≢◌}
use mathlib.Core.Path.{◌≡◌, refl, ap, sym, ◌∙◌}
use lib.Dec.{eqb, ltb}
use lib.ListN.{length, take, drop, length-append, length-take, length-drop}
use lib.Seq.{take-append-le, drop-append-le}
use borrow.Author.Tests.{ltb-true, ltb-false, eqb-true, eqb-false, not-true, not-false, eq-eqb, ne_eqb}
use Rattle.model.specs.Text.{newline, space, ended, body, leading_word, starts_in}
use Rattle.model.specs.Control.{is_control_word, first_bad, bad_rest, has_bad_word, Part, first_bad_word}
use Rattle.model.specs.Words.{Dropped, byte_at, cut, WordAt, BadWordAt, FirstBad, HasBad}
use Rattle.model.proofs.FunctionLaws.{split, clash}

-- "One final newline is dropped."
pub body-dropped : (line : List ℕ) → Dropped line (body line)
unfolding body
body-dropped [] = inr (refl, ended-not-empty)
  where
    ended-not-empty : (u : List ℕ) → [] ≢ ended u
    ended-not-empty [] e = nil≢cons e
    ended-not-empty (x ∷ xs) e = nil≢cons e
body-dropped (b ∷ []) =
    split (eqb b newline)
    (λ e. rw e (inl (ap (λ x. x ∷ []) (eqb-true b newline e))))
    (λ e. rw e (inr (refl, other-end (eqb-false b newline e))))
  where
    other-end : b ≢ newline → (u : List ℕ) → b ∷ [] ≢ ended u
    other-end ne [] e = ne (head-eq_of_cons-eq e)
    other-end ne (x ∷ []) e = nil≢cons (tail-eq_of_cons-eq e)
    other-end ne (x ∷ y ∷ ys) e = nil≢cons (tail-eq_of_cons-eq e)
body-dropped (b ∷ c ∷ cs) =
    ⊎_elim
    (λ e. inl (ap (λ (l : List ℕ). b ∷ l) e))
    (λ (n : (c ∷ cs ≡ body (c ∷ cs)) × ((u : List ℕ) → c ∷ cs ≢ ended u)). inr (ap (λ (l : List ℕ). b ∷ l) n.0, other-end n.1))
    (body-dropped (c ∷ cs))
  where
    other-end : ((u : List ℕ) → c ∷ cs ≢ ended u) → (u : List ℕ) → b ∷ c ∷ cs ≢ ended u
    other-end n [] e = nil≢cons (sym (tail-eq_of_cons-eq e))
    other-end n (x ∷ xs) e = n xs (tail-eq_of_cons-eq e)

-- A line's body is its front.
body-front : (line : List ℕ) → line ≡ body line ++ drop (length (body line)) line
unfolding body
body-front [] = refl
body-front (b ∷ []) = split (eqb b newline) (λ e. rw e) (λ e. rw e)
body-front (b ∷ c ∷ cs) = ap (λ (l : List ℕ). b ∷ l) (body-front (c ∷ cs))

body-length : (line : List ℕ) → length (body line) ≤ length line
body-length line = omega (arith, ap length (body-front line), length-append (body line) (drop (length (body line)) line))

cut-append : (u v : List ℕ) (i n : ℕ) → i + n ≤ length u → cut (u ++ v) i n ≡ cut u i n
cut-append u v i n h =
    ap (take n) (drop-append-le i u v (omega arith)) ∙ take-append-le n (drop i u) v (omega (arith, length-drop i u))

cut-body : (line : List ℕ) (i n : ℕ) → i + n ≤ length (body line) → cut line i n ≡ cut (body line) i n
cut-body line i n h = ap (λ (l : List ℕ). cut l i n) (body-front line) ∙ cut-append (body line) _ i n h

-- One word begins at a place.
word-le : (text : List ℕ) (i n m : ℕ) → WordAt text i n → WordAt text i m → n ≤ m
word-le text i n m h k =
    split (ltb m n)
    (λ e. absurd (h.solid (i + m) (omega arith) (omega (arith, ltb-true m n e)) k.after))
    (λ e. ltb-false m n e)

word_size : (text : List ℕ) (i n m : ℕ) → WordAt text i n → WordAt text i m → n ≡ m
word_size text i n m h k = omega (arith, word-le text i n m h k, word-le text i m n k h)

-- The word that a text begins with.
leading-cut : (text : List ℕ) → cut text 0 (length (leading_word text)) ≡ leading_word text
unfolding leading_word
leading-cut [] = refl
leading-cut (b ∷ bs) = split (eqb b space) (λ e. rw e) (λ e. rw e (ap (λ (l : List ℕ). b ∷ l) (leading-cut bs)))

leading_length : (text : List ℕ) → length (leading_word text) ≤ length text
leading_length text = omega (arith, ap length (leading-cut text), length-take (length (leading_word text)) text)

-- it ends no later than at any space, and at one
leading_le : (text : List ℕ) (j : ℕ) → byte_at text j ≡ space → length (leading_word text) ≤ j
unfolding leading_word
leading_le [] j h = omega arith
leading_le (b ∷ bs) zero h = rw (eq-eqb b space h) (omega arith)
leading_le (b ∷ bs) (suc j) h = split (eqb b space) (λ e. rw e (omega arith)) (λ e. rw e (omega (arith, leading_le bs j h)))

leading-after : (text : List ℕ) → byte_at text (length (leading_word text)) ≡ space
unfolding leading_word
leading-after [] = refl
leading-after (b ∷ bs) = split (eqb b space) (λ e. rw e (eqb-true b space e)) (λ e. rw e (leading-after bs))

module _ (b : ℕ) (bs : List ℕ) (ne : b ≢ space) where
  leading-word : WordAt (b ∷ bs) 0 (length (leading_word (b ∷ bs)))
  unfolding leading_word
  leading-word =
      record {
        some = rw (ne_eqb b space ne) (omega arith);
        inside = omega (arith, leading_length (b ∷ bs));
        solid = λ j l u e. omega (arith, leading_le (b ∷ bs) j e);
        before = λ j e. absurd (omega arith);
        after = rw zero-add (leading-after (b ∷ bs));
      }

  leading-bad : (n : ℕ) → BadWordAt (b ∷ bs) 0 n → is_control_word (leading_word (b ∷ bs)) ≡ false
  leading-bad n h = rw (word_size (b ∷ bs) 0 n _ h.word leading-word, leading-cut (b ∷ bs)) at h.bad

-- Bad words behind one byte more.
module _ (a : ℕ) (text : List ℕ) (i n : ℕ) where
  bad-down : BadWordAt (a ∷ text) (suc i) n → BadWordAt text i n
  bad-down h =
      let w = h.word in
      record {
        word =
            record {
              some = w.some;
              inside = omega (arith, w.inside);
              solid = λ j l u. w.solid (suc j) (omega arith) (omega arith);
              before = λ j e. w.before (suc j) (ap suc e);
              after = rw suc-add at w.after;
            };
        bad = h.bad;
      }

  bad-up : (i ≡ 0 → a ≡ space) → BadWordAt text i n → BadWordAt (a ∷ text) (suc i) n
  bad-up f h =
      let w = h.word in
      record {
        word =
            record {
              some = w.some;
              inside = omega (arith, w.inside);
              solid = solid;
              before = before;
              after = rw suc-add w.after;
            };
        bad = h.bad;
      }
    where
      solid : (j : ℕ) → suc i ≤ j → j < suc i + n → byte_at (a ∷ text) j ≢ space
      solid zero l u = absurd (omega arith)
      solid (suc j) l u = h.word.solid j (omega arith) (omega arith)

      before : (j : ℕ) → suc i ≡ suc j → byte_at (a ∷ text) j ≡ space
      before zero e = f (omega arith)
      before (suc j) e = h.word.before j (omega arith)

-- Where the first bad word of a text begins, and the rest of the text from there on. The byte a stands in front of the text: a
-- word begins with the text only if a is a space.
record Found (a : ℕ) (text rest : List ℕ) : Type 0 where
  start : ℕ
  left : start + length rest ≡ length text
  first : (i n : ℕ) → BadWordAt (a ∷ text) (suc i) n → start ≤ i
  here : BadWordAt (a ∷ text) (suc start) (length (leading_word rest)) ⊎ (rest ≡ [])

module _ (a b : ℕ) (bs : List ℕ) where
  found_here : a ≡ space → b ≢ space → is_control_word (leading_word (b ∷ bs)) ≡ false → Found a (b ∷ bs) (b ∷ bs)
  found_here p ne e =
      record {
        start = 0;
        left = omega arith;
        first = λ i n h. omega arith;
        here = inl (bad-up a (b ∷ bs) 0 _ (λ _. p) (record { word = leading-word b bs ne; bad = rw leading-cut e }));
      }

  found-later : (rest : List ℕ) → ((n : ℕ) → BadWordAt (a ∷ b ∷ bs) 1 n → ⊥) → Found b bs rest → Found a (b ∷ bs) rest
  found-later rest none f =
      record {
        start = suc f.start;
        left = omega (arith, f.left);
        first = first;
        here = ⊎_elim (λ h. inl (bad-up a (b ∷ bs) _ _ (λ e. absurd (omega arith)) h)) (λ e. inr e) f.here;
      }
    where
      first : (i n : ℕ) → BadWordAt (a ∷ b ∷ bs) (suc i) n → suc f.start ≤ i
      first zero n h = absurd (none n h)
      first (suc i) n h = omega (arith, f.first i n (bad-down a (b ∷ bs) (suc i) n h))

  -- Apart from `found`: as a clause of it this would take seconds to check.
  found-next : Found b bs (first_bad (starts_in (not (eqb b space)) bs))
      → Found a (b ∷ bs) (first_bad (starts_in (not (eqb a space)) (b ∷ bs)))
  unfolding first_bad starts_in
  found-next g =
      split (eqb b space)
      (λ e. rw e
      (found-later _ (λ n h. h.word.solid 1 (omega arith) (omega (arith, h.word.some)) (eqb-true b space e)) (rw e at g)))
      (λ e. let ne = eqb-false b space e in
      let f : Found b bs (first_bad (starts_in true bs)) = rw e at g in
      split (eqb a space)
      (λ d. split (is_control_word (leading_word (b ∷ bs)))
      (λ c. rw (e, d, c) (found-later _ (λ n h. clash _ c (leading-bad b bs ne n (bad-down a (b ∷ bs) 0 n h))) f))
      (λ c. rw (e, d, c) (found_here (eqb-true a space d) ne c)))
      (λ d. rw (e, d) (found-later _ (λ n h. eqb-false a space d (h.word.before 0 refl)) f)))

found : (a : ℕ) (text : List ℕ) → Found a text (first_bad (starts_in (not (eqb a space)) text))
unfolding first_bad starts_in
found a [] = record { start = 0; left = omega arith; first = λ i n h. omega arith; here = inr refl }
found a (b ∷ bs) = found-next a b bs (found b bs)

-- What the definitions answer.
module _ (line : List ℕ) where
  found-rest : Found space (body line) (bad_rest line)
  unfolding bad_rest
  found-rest = found space (body line)

  not-before : (i n : ℕ) → BadWordAt (body line) i n → found-rest.start ≤ i
  not-before i n h = found-rest.first i n (bad-up space (body line) i n (λ _. refl) h)

  pub first-bad : FirstBad line (first_bad_word line)
  unfolding first_bad_word leading_word
  first-bad =
      let f = found-rest in
      let n = length (leading_word (bad_rest line)) in
      let s : length (body line) - length (bad_rest line) ≡ f.start = omega (arith, f.left) in
      rw s
      (record {
        inside = omega (arith, f.left, leading_length (bad_rest line), body-length line);
        own = cut-body line f.start n (omega (arith, f.left, leading_length (bad_rest line)));
        first = not-before;
        here =
            ⊎_elim
            (λ h. inl (bad-down space (body line) _ _ h))
            (λ e. inr (omega (arith, f.left, ap length e), ap (λ (r : List ℕ). length (leading_word r)) e))
            f.here;
      })

  pub has-bad : HasBad line (has_bad_word line)
  has-bad =
      let f = found-rest in
      let rest = length (bad_rest line) in
      record {
        some =
            λ e. ⊎_elim
            (λ h. (f.start, _, bad-down space (body line) _ _ h))
            (λ z. absurd (eqb-false rest 0 (not-true _ e) (ap length z)))
            f.here;
        none = λ e i n h. omega (arith, f.left, eqb-true rest 0 (not-false _ e), not-before i n h, h.word);
      }

  -- No other part would do.
  first-bad-le : (p q : Part) → FirstBad line p → FirstBad line q → p.start ≤ q.start
  first-bad-le p q h k =
      ⊎_elim
      (λ b. h.first _ _ b)
      (λ e. ⊎_elim (λ (b : BadWordAt _ _ _). omega (arith, b.word, e.0)) (λ d. omega (arith, d.0, e.0)) h.here)
      k.here

  pub first-bad-only : (p q : Part) → FirstBad line p → FirstBad line q → p ≡ q
  first-bad-only p q h k = λ i. record { start = start i; size = size i }
    where
      start : p.start ≡ q.start
      start = omega (arith, first-bad-le p q h k, first-bad-le q p k h)

      size : p.size ≡ q.size
      size =
          ⊎_elim
          (λ b. ⊎_elim
          (λ c. word_size (body line) p.start _ _ b.word (rw start c.word))
          (λ e. absurd (omega (arith, start, e.0, b.word)))
          k.here)
          (λ d. ⊎_elim (λ c. absurd (omega (arith, start, d.0, c.word))) (λ e. omega (arith, d.1, e.1)) k.here)
          h.here
