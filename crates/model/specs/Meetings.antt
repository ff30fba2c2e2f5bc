-- Cases of order 3's search, which no reply shows: two groups, the group that is found, and how many pairs are compared.
-- proofs/Meetings.antt shows that all hold. Assumes nothing.
use Rattle.std.specs.Prelude.{ℕ, Bool, true, false, ◌&&◌, List, [], ◌∷◌, ◌++◌, eqb}
use Rattle.model.specs.Functions.{passes}
use Rattle.model.specs.Tree.{Tree}
use Rattle.model.specs.CommonAncestor.{smaller_depth, meeting, entry_at, walk}
use Rattle.model.specs.Calls.{Call, make}
use Rattle.model.specs.Effects.{fresh, run}
use Rattle.model.specs.Worked.{delegation, first_calls}
use Rattle.model.specs.Refusals.{descent}
use Rattle.model.specs.declared.Meeting.{Meeting}

pub record MeetingCase : Type 0 where
  pub source : ℕ
  pub target : ℕ
  pub group : ℕ
  pub compared : ℕ

abbrev pub finds : ℕ → ℕ → ℕ → ℕ → MeetingCase
finds g h a n = record { source = g; target = h; group = a; compared = n }

abbrev pub is_met : MeetingCase → Meeting → Bool
is_met s m = eqb m.group.0 s.group && eqb m.compared s.compared

-- by the walk, and by the answer's own definition
abbrev pub is_found : Tree → MeetingCase → Bool
is_found t s =
    let g : ℕ = s.source in
    let h : ℕ = s.target in
    passes (walk (entry_at t g) (entry_at t h) (smaller_depth t g h)) (is_met s) && is_met s (meeting t g h)

unfoldable pub all_found : Tree → List MeetingCase → Bool
all_found t [] = true
all_found t (s ∷ ss) = elim (is_found t s) [ true ↦ all_found t ss | false ↦ false ]

-- Three ways down from the root to the deepest level, two of them from 1, and a leaf more beside two of them:
--
--     0
--     ├ 1
--     │ ├ 2 to 15, and below that 16 and 17
--     │ └ 18 to 32
--     └ 48, 47, 46
--       ├ 45 down to 33
--       └ 49
abbrev pub three_ways : List Call
three_ways =
    descent 0 (1 ∷ 2 ∷ 3 ∷ 4 ∷ 5 ∷ 6 ∷ 7 ∷ 8 ∷ 9 ∷ 10 ∷ 11 ∷ 12 ∷ 13 ∷ 14 ∷ 15 ∷ 16 ∷ [])
    ++ make 0 15 17
    ∷ descent 1 (18 ∷ 19 ∷ 20 ∷ 21 ∷ 22 ∷ 23 ∷ 24 ∷ 25 ∷ 26 ∷ 27 ∷ 28 ∷ 29 ∷ 30 ∷ 31 ∷ 32 ∷ [])
    ++ descent 0 (48 ∷ 47 ∷ 46 ∷ 45 ∷ 44 ∷ 43 ∷ 42 ∷ 41 ∷ 40 ∷ 39 ∷ 38 ∷ 37 ∷ 36 ∷ 35 ∷ 34 ∷ 33 ∷ [])
    ++ make 0 46 49 ∷ []

unfoldable pub ways : Tree
ways = run (fresh 0) three_ways

unfoldable pub searches : List MeetingCase
searches =
    -- a group and itself
    finds 0 0 0 1 ∷ finds 1 1 1 1 ∷ finds 16 16 16 1
    -- one above the other, next to it and farther
    ∷ finds 0 16 0 1 ∷ finds 16 0 0 1 ∷ finds 15 16 15 1 ∷ finds 16 15 15 1 ∷ finds 1 32 1 1 ∷ finds 32 1 1 1
    -- of one depth, by how far above they meet
    ∷ finds 16 17 15 2 ∷ finds 17 16 15 2 ∷ finds 45 49 46 2 ∷ finds 2 18 1 2 ∷ finds 1 48 0 2 ∷ finds 48 1 0 2 ∷ finds 3 19 1 3
    ∷ finds 4 20 1 4 ∷ finds 5 21 1 5 ∷ finds 6 22 1 6 ∷ finds 7 23 1 7 ∷ finds 8 24 1 8 ∷ finds 9 25 1 9 ∷ finds 10 26 1 10
    ∷ finds 11 27 1 11 ∷ finds 12 28 1 12 ∷ finds 13 29 1 13 ∷ finds 14 30 1 14 ∷ finds 15 31 1 15 ∷ finds 16 32 1 16 ∷ finds 32 17 1 16
    ∷ finds 16 33 0 17 ∷ finds 33 32 0 17
    -- of two depths: the smaller one counts
    ∷ finds 8 32 1 8 ∷ finds 32 8 1 8 ∷ finds 2 32 1 2 ∷ finds 32 2 1 2 ∷ finds 1 33 0 2 ∷ finds 33 1 0 2 ∷ finds 9 47 0 3 ∷ finds 47 9 0 3
    ∷ finds 15 32 1 15 ∷ finds 32 15 1 15 ∷ finds 49 33 46 2 ∷ finds 33 49 46 2
    ∷ []

-- P10: C00 is 4, C01 is 6, C10 is 5; from C10 to C00, and from C01
unfoldable pub delegated : Tree
delegated = run (fresh 0) (first_calls delegation 8)

unfoldable pub delegated_searches : List MeetingCase
delegated_searches = finds 5 4 1 3 ∷ finds 6 4 2 2 ∷ []
