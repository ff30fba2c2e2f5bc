-- What a caller finds in the words and in the reply buffer that he lent to a read or a membership line. Assumes nothing.
use Rattle.std.specs.Prelude.{ℕ, List, [], ◌∷◌, ◌++◌, ◌≡◌, length, drop}
use Rattle.model.specs.Calls.{Call}
use Rattle.model.specs.Replies.{buffer_of}

-- "The text goes to the front and its length is told; bytes after it stay."
pub record FindsText (text old told new : List ℕ) : Type 0 where
  pub size : told ≡ length text ∷ []
  pub bytes : new ≡ text ++ drop (length text) old

-- a refusal tells the length 0 and leaves every byte of the buffer
pub record FindsNone (c : Call) (told new : List ℕ) : Type 0 where
  pub size : told ≡ 0 ∷ []
  pub bytes : new ≡ buffer_of c
