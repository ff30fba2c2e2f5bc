-- Words by their places, and what the question about a control line answers: document 01, "Lines". Nothing here goes by how
-- Text and Control find words. Assumes nothing.
use Rattle.std.specs.Prelude.{ℕ, suc, ◌+◌, ◌≤◌, ◌<◌, Bool, true, false, List, ◌⊎◌, ◌≢◌, ◌≡◌, length, get_or, take, drop}
use Rattle.model.specs.Text.{space, ended, body}
use Rattle.model.specs.Control.{is_control_word, Part}

-- the text is the line without its final newline: "One final newline is dropped."
abbrev pub Dropped : List ℕ → List ℕ → Type 0
Dropped line text = (line ≡ ended text) ⊎ ((line ≡ text) × ((u : List ℕ) → line ≢ ended u))

-- the byte at a place; the end of a text parts words as a space does
abbrev pub byte_at : List ℕ → ℕ → ℕ
byte_at text i = get_or text i space

-- the n bytes from place i on
abbrev pub cut : List ℕ → ℕ → ℕ → List ℕ
cut text i n = take n (drop i text)

-- the n bytes from place i on are a word: "a longest run of bytes other than space"
pub record WordAt (text : List ℕ) (i n : ℕ) : Type 0 where
  pub some : 0 < n
  pub inside : i + n ≤ length text
  pub solid : (j : ℕ) → i ≤ j → j < i + n → byte_at text j ≢ space
  pub before : (j : ℕ) → i ≡ suc j → byte_at text j ≡ space
  pub after : byte_at text (i + n) ≡ space

-- a word that "a control line may not contain"
pub record BadWordAt (text : List ℕ) (i n : ℕ) : Type 0 where
  pub word : WordAt text i n
  pub bad : is_control_word (cut text i n) ≡ false

-- "the first word a control line may not contain, as a part of the caller's own line, or the empty part at its end if there is
-- none"; "its end" is the end after the final newline is dropped
pub record FirstBad (line : List ℕ) (p : Part) : Type 0 where
  pub inside : p.start + p.size ≤ length line
  pub own : cut line p.start p.size ≡ cut (body line) p.start p.size
  pub first : (i n : ℕ) → BadWordAt (body line) i n → p.start ≤ i
  pub here : BadWordAt (body line) p.start p.size ⊎ ((p.start ≡ length (body line)) × (p.size ≡ 0))

-- b is whether the line has such a word
pub record HasBad (line : List ℕ) (b : Bool) : Type 0 where
  pub some : b ≡ true → (i n : ℕ) × BadWordAt (body line) i n
  pub none : b ≡ false → (i n : ℕ) → BadWordAt (body line) i n → ⊥
