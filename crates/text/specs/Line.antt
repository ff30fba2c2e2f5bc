-- What the readers of lines answer: a text's first word, and the only word of a line. Assumes nothing.
use Rattle.std.specs.Prelude.{ℕ, ◌+◌, List, [], ◌∷◌, ◌++◌, ◌≡◌, length, drop, Option, Some, None}
use Rattle.std.specs.Borrow.{Bor}
use Rattle.model.specs.Text.{leading_word, starts}

-- w is the first word of the text, and r what follows it
pub record FirstWord (text w r : List ℕ) : Type 0 where
  pub starts : starts text ≡ (w ++ r) ∷ starts r
  pub word : leading_word (w ++ r) ≡ w
  pub place : ℕ
  pub cut : drop place text ≡ w ++ r
  pub long : place + length (w ++ r) ≡ length text

abbrev pub word_bytes : Bor (List ℕ) → List ℕ
word_bytes w = w.now

-- the word of a line that has exactly one
abbrev pub sole_word : List (List ℕ) → Option (List ℕ)
sole_word [] = None
sole_word (w ∷ []) = Some w
sole_word (w ∷ v ∷ vs) = None
