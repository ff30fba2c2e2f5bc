-- What the C interface tells: document 01's numbers, and the values beside them as words. Assumes nothing.
use Rattle.std.specs.Prelude.{ℕ, ◌-◌, ◌^◌, List, [], ◌∷◌, ◌≡◌, Option, Some, None}
use Rattle.model.specs.Control.{Part}
use Rattle.model.specs.Replies.{Reply}

-- 2^64 - 1 where no group is named
abbrev pub group_word : Option ℕ → ℕ
group_word None = 2 ^ 64 - 1
group_word (Some g) = g

-- what a charge or a fork tells: the first group without room, and the number of groups consulted
abbrev pub room_words : Reply → List ℕ
room_words r = group_word r.group ∷ r.consulted ∷ []

-- what the question about a control line tells: a place in the line, and a length
abbrev pub part_words : Part → List ℕ
part_words p = p.start ∷ p.size ∷ []

-- what a call that delivers a text tells beside its number: the length, and every byte of the reply buffer
pub record Told (r : Reply) (told bytes : List ℕ) : Type 0 where
  pub size : told ≡ r.size ∷ []
  pub buffer : bytes ≡ r.buffer
