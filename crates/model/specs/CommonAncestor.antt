-- The search for the common ancestor: order 3 of document 02, "one walk will do: it compares only entries of equal depth, lowest
-- first, and tells beside the group how many pairs it compared, the smaller depth less the found group's, plus one. Same question,
-- same group". The question is `common_ancestor` of specs/Hierarchy.antt. Assumes nothing.
use Rattle.std.specs.Prelude.{ℕ, zero, suc, ◌+◌, ◌-◌, ◌≤◌, ◌<◌, min, true, false, ◌≢◌, ◌≡◌, eqb, get_or, Option, Some, None}
use Rattle.model.specs.Functions.{mapped}
use Rattle.model.specs.Tree.{Tree, parents, depths}
use Rattle.model.specs.Hierarchy.{chain, inside, common_ancestor}
use Rattle.model.specs.declared.Meeting.{Meeting}

abbrev pub meeting_of : ℕ → ℕ → Meeting
meeting_of g n = record { group = record { 0 = g }; compared = n }

abbrev pub smaller_depth : Tree → ℕ → ℕ → ℕ
smaller_depth t g h = min (depths t g) (depths t h)

-- the depth of the lowest group on both chains
abbrev pub found_depth : Tree → ℕ → ℕ → ℕ
found_depth t g h = depths t (common_ancestor (parents t) g h)

-- The answer: the lowest group on both chains, and "the smaller depth less the found group's, plus one".
abbrev pub meeting : Tree → ℕ → ℕ → Meeting
meeting t g h = meeting_of (common_ancestor (parents t) g h) (smaller_depth t g h - found_depth t g h + 1)

-- The walk. The entry of a group's chain at a depth: there is one for each depth up to the group's own, and beyond that this is the
-- group itself.
abbrev pub entry_at : Tree → ℕ → ℕ → ℕ
entry_at t g d = get_or (chain (parents t) g) (depths t g - d) 0

abbrev pub one_pair_more : Meeting → Meeting
one_pair_more m = meeting_of m.group.0 (m.compared + 1)

-- from depth d up, where x and y have the entries of the two chains
unfoldable pub walk : (ℕ → ℕ) → (ℕ → ℕ) → ℕ → Option Meeting
walk x y zero = elim (eqb (x 0) (y 0)) [ true ↦ Some (meeting_of (x 0) 1) | false ↦ None ]
walk x y (suc d) = elim (eqb (x (suc d)) (y (suc d))) [ true ↦ Some (meeting_of (x (suc d)) 1) | false ↦ mapped one_pair_more (walk x y d) ]

-- an entry is on the chain, and has the depth that it is the entry at
pub record AtDepth (t : Tree) (g d : ℕ) : Type 0 where
  pub on_chain : inside (parents t) (entry_at t g d) g ≡ true
  pub level : depths t (entry_at t g d) ≡ d

-- Pairs are of entries of equal depth, one for each depth at which both chains have an entry. No pair below the lowest group on both
-- chains is equal, and the one there is: that is what the walk finds.
pub record OneWalk (t : Tree) (g h : ℕ) : Type 0 where
  pub pairs : (d : ℕ) → d ≤ smaller_depth t g h → AtDepth t g d × AtDepth t h d
  pub all : (d : ℕ) → AtDepth t g d → AtDepth t h d → d ≤ smaller_depth t g h
  pub apart : (d : ℕ) → found_depth t g h < d → d ≤ smaller_depth t g h → entry_at t g d ≢ entry_at t h d
  pub reached : found_depth t g h ≤ smaller_depth t g h
  pub left : entry_at t g (found_depth t g h) ≡ common_ancestor (parents t) g h
  pub right : entry_at t h (found_depth t g h) ≡ common_ancestor (parents t) g h
  pub found : walk (entry_at t g) (entry_at t h) (smaller_depth t g h) ≡ Some (meeting t g h)
  pub itself : g ≡ h → meeting t g h ≡ meeting_of g 1
