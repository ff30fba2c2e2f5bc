-- The first bad word of a line, from that of its text: where it is, and whether there is one. Assumes nothing.
use Prim.Native.Nat.{ℕ, ◌+◌, ◌-◌}
use mathlib.Core.Bool.{Bool, true, false, not}
use mathlib.Core.List.{List}
use mathlib.Core.Path.{◌≡◌, refl, ap}
use native.Mathlib.Omega.{arith}
use lib.Dec.{eqb}
use lib.ListN.{length, take, drop}
use borrow.Author.Tests.{eq-eqb, ne_eqb, eqb-true, eqb-false}
use Rattle.model.specs.Text.{body, leading_word}
use Rattle.model.specs.Control.{bad_rest, has_bad_word, first_bad_word}
use Rattle.lines.specs.Control.{BadSpan}
use Rattle.text.specs.declared.line.Span.{Span}

same_test : (a b c d : ℕ) → (c ≡ d → a ≡ b) → (a ≡ b → c ≡ d) → eqb a b ≡ eqb c d
same_test a b c d f g = go (eqb c d) refl
  where
    go : (t : Bool) → eqb c d ≡ t → eqb a b ≡ t
    go true e = eq-eqb a b (f (eqb-true c d e))
    go false e = ne_eqb a b (λ h. eqb-false c d e (g h))

module _ (line text : List ℕ) (e : text ≡ body line) (p : Span) (s : BadSpan text p) where
  left : length (body line) ≡ p.start + length (bad_rest line)
  unfolding bad_rest
  left = (rw e at s).left

  size : p.end ≡ p.start + length (leading_word (bad_rest line))
  unfolding bad_rest
  size = (rw e at s).size

  pub bad-has : not (eqb p.start (length text)) ≡ has_bad_word line
  bad-has =
      ap not
      (same_test p.start (length text) (length (bad_rest line)) 0
      (λ h. omega (arith, left, ap length e)) (λ h. omega (arith, left, ap length e)))

  pub bad-start : p.start ≡ (first_bad_word line).start
  unfolding first_bad_word
  bad-start = omega (arith, left)

  pub bad-size : p.end - p.start ≡ (first_bad_word line).size
  unfolding first_bad_word
  bad-size = omega (arith, size)

  -- the part of the line, by the definition's numbers
  pub bad-part : take (p.end - p.start) (drop p.start line)
      ≡ take (first_bad_word line).size (drop (first_bad_word line).start line)
  bad-part = rw (bad-size, bad-start)
