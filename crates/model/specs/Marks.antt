-- What a page limit and the book's mark are, said of the list of calls alone: "G's limit becomes the line's, as that call reads it;
-- for memory.max the mark becomes G's usage at that moment". Document 01, "The book of demand 3", with order 2; the last sentence of
-- demand 3. Assumes nothing.
use Rattle.std.specs.Prelude.{ℕ, List, ◌⊎◌, ◌≡◌, Some}
use Rattle.model.specs.Tree.{Tree, cores}
use Rattle.model.specs.Hierarchy.{usage}
use Rattle.model.specs.Text.{bytes, line_words, one_word}
use Rattle.model.specs.Figures.{limit_word}
use Rattle.model.specs.Settings.{RoundedDown}
use Rattle.model.specs.Calls.{Call, write_setting}
use Rattle.model.specs.Effects.{step}
use Rattle.model.specs.Lists.{Accepted, Never, Last}
use Rattle.model.specs.declared.Resource.TheVariants.{Pages}
use Rattle.model.specs.declared.Limit.TheVariants.{Figure}

-- an accepted write of memory.max to g
pub record SetsMemoryMax (g : ℕ) (t : Tree) (c : Call) : Type 0 where
  pub user : ℕ
  pub line : List ℕ
  pub call : c ≡ write_setting user g (bytes "memory.max") line
  pub accepted : Accepted t c

-- its line is a figure, which rounded down is the limit l; and m is the usage that g had right after it
pub record Leaves (g l m : ℕ) (t : Tree) (c : Call) : Type 0 where
  pub write : SetsMemoryMax g t c
  pub figure : ℕ
  pub word : one_word limit_word (line_words write.line) ≡ Some (Figure figure)
  pub rounded : RoundedDown Pages figure l
  pub marked : m ≡ usage (cores (step t c)) g

-- memory.max of g was written, and l and m are what the last accepted write left
abbrev pub AtLastWrite : Tree → List Call → ℕ → ℕ → ℕ → Type 0
AtLastWrite t cs g l m = Last (SetsMemoryMax g) (Leaves g l m) t cs

-- nobody wrote memory.max of g; its limit is the one that it had where the list began, and m is the usage that it had there
pub record AtStart (t : Tree) (cs : List Call) (g l m : ℕ) : Type 0 where
  pub unwritten : Never (SetsMemoryMax g) t cs
  pub limit : (t.group g).core.limit Pages ≡ Figure l
  pub marked : m ≡ usage (cores t) g

-- what the limit l of a group and its mark m are, after a list that began at t with the book of t
abbrev pub MarkIs : Tree → List Call → ℕ → ℕ → ℕ → Type 0
MarkIs t cs g l m = AtLastWrite t cs g l m ⊎ AtStart t cs g l m
