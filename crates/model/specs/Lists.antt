-- Lists of calls, each on the tree that the one before handed back; the book that is fed the calls with the numbers that they
-- answered; and what "every", "never", "ever" and "last" say of the calls of a list. Document 01, "The book of demand 3".
-- Assumes nothing.
use Rattle.std.specs.Prelude.{List, [], ◌∷◌, ◌⊎◌, ◌≡◌}
use Rattle.model.specs.Tree.{Tree}
use Rattle.model.specs.Calls.{Call}
use Rattle.model.specs.Effects.{step}
use Rattle.model.specs.Replies.{reply}
use Rattle.model.specs.Book.{Book, Entry, fed}

-- "Accepted means success, 0."
abbrev pub Accepted : Tree → Call → Type 0
Accepted t c = (reply t c).number ≡ 0

-- the calls with the numbers that they answered
unfoldable pub log : Tree → List Call → List Entry
log t [] = []
log t (c ∷ cs) = record { call = c; number = (reply t c).number } ∷ log (step t c) cs

-- the book after a list of calls on t, where b was the book before
abbrev pub book_after : Tree → Book → List Call → Book
book_after t b cs = fed b (log t cs)

-- Q holds of every call of the list, with the tree that it is made on
unfoldable pub Each : (Tree → Call → Type 0) → Tree → List Call → Type 0
Each Q t [] = Unit {0}
Each Q t (c ∷ cs) = Q t c × Each Q (step t c) cs

-- no call of the list is such a one
abbrev pub Never : (Tree → Call → Type 0) → Tree → List Call → Type 0
Never P = Each (λ t c. P t c → ⊥)

-- some call of the list is such a one
unfoldable pub Ever : (Tree → Call → Type 0) → Tree → List Call → Type 0
Ever P t [] = ⊥
Ever P t (c ∷ cs) = P t c ⊎ Ever P (step t c) cs

-- some call of the list is such a one, and Q holds of the last that is
unfoldable pub Last : (Tree → Call → Type 0) → (Tree → Call → Type 0) → Tree → List Call → Type 0
Last P Q t [] = ⊥
Last P Q t (c ∷ cs) = (P t c × Q t c × Never P (step t c) cs) ⊎ Last P Q (step t c) cs
