-- What order 5 promises beyond single calls: that a zombie's membership line stands still from its exit to its collect, whatever
-- calls come between; and when the number of a removed group is taken. Assumes nothing.
use Rattle.std.specs.Prelude.{ℕ, suc, true, false, List, ◌∷◌, ◌++◌, ◌≢◌, ◌≡◌, take, drop, Ok, Err}
use Rattle.model.specs.Checks.{Check, bar, first, Pass}
use Rattle.model.specs.Tree.{Tree, at, is_live, lives, parents, places, zombies, remains}
use Rattle.model.specs.Hierarchy.{inside, facts_of}
use Rattle.model.specs.Zombies.{is_zombie, is_removed, path_parents, group_taken}
use Rattle.model.specs.Text.{bytes, ended}
use Rattle.model.specs.Rules.{process_group}
use Rattle.model.specs.Files.{path_text, membership_line, fits}
use Rattle.model.specs.Calls.{Call, make, remove, exit, collect, membership, checks, verdict}
use Rattle.model.specs.Effects.{step, run}
use Rattle.model.specs.Replies.{reply, text_reply}
use Rattle.model.specs.Lists.{Accepted, Never, Ever}
use Rattle.model.specs.declared.Errno.TheVariants.{Eexist}

-- an accepted removal of g, and a collect of p
pub record Removes (g : ℕ) (t : Tree) (c : Call) : Type 0 where
  pub user : ℕ
  pub call : c ≡ remove user g
  pub accepted : Accepted t c

abbrev pub Collects : ℕ → Tree → Call → Type 0
Collects p t c = c ≡ collect p

-- "The membership line keeps the path and gains " (deleted)" once its group was removed." The line of p, which was live in g in tree
-- t, where the calls came after its exit.
pub record LineKept (t : Tree) (p g : ℕ) (cs : List Call) : Type 0 where
  pub before : membership_line t p ≡ ended (path_text t g)
  pub stays : Never (Removes g) (step t (exit p)) cs → membership_line (run (step t (exit p)) cs) p ≡ membership_line t p
  pub deleted : Ever (Removes g) (step t (exit p)) cs
      → membership_line (run (step t (exit p)) cs) p ≡ ended (path_text t g ++ bytes " (deleted)")
  -- and every number on its path is taken all the while
  pub taken : (x : ℕ) → inside (parents t) x g ≡ true → group_taken (run (step t (exit p)) cs) x ≡ true
  pub answered : (buffer : List ℕ) → fits (membership_line (run (step t (exit p)) cs) p) buffer ≡ true
      → reply (run (step t (exit p)) cs) (membership p buffer) ≡ text_reply (Ok tt) (membership_line (run (step t (exit p)) cs) p) buffer

-- from an exit to its collect, whatever calls come between
abbrev pub LineStands : Tree → Type 0
LineStands t =
    (p : ℕ) (cs : List Call) → is_live (places t p) ≡ true → Never (Collects p) (step t (exit p)) cs
    → LineKept t p (process_group t p) cs

-- the test for a taken number among the checks of make: its place, the checks before it and those after it
abbrev pub taken_place : ℕ
taken_place = 3

abbrev pub before_taken : Tree → ℕ → ℕ → ℕ → List Check
before_taken t user parent new = take taken_place (checks (facts_of t) (make user parent new))

abbrev pub after_taken : Tree → ℕ → ℕ → ℕ → List Check
after_taken t user parent new = drop (suc taken_place) (checks (facts_of t) (make user parent new))

-- "A removed group's number can be made again as soon as no zombie's path runs through it; until then make answers 17."
pub record Taken (t : Tree) : Type 0 where
  -- of a number that is not live: taken exactly where some zombie's path runs through it
  pub path : (g : ℕ) → lives t g ≡ false → group_taken t g ≡ true
      → (p : ℕ) × (h : ℕ) × (zombies t p ≡ at h) × (inside (path_parents t) g h ≡ true)
  pub through : (g p h : ℕ) → zombies t p ≡ at h → inside (path_parents t) g h ≡ true → group_taken t g ≡ true
  -- and exactly where something is left of a group
  pub left : (g : ℕ) → lives t g ≡ false → group_taken t g ≡ is_removed (remains t g)
  -- once the last such zombie is collected it is free
  pub freed : (g p : ℕ) → lives t g ≡ false → is_zombie (zombies t p) ≡ true
      → ((q h : ℕ) → q ≢ p → zombies t q ≡ at h → inside (path_parents t) g h ≡ false) → group_taken (step t (collect p)) g ≡ false
  -- what make makes of it: 17 where the checks before pass, else the other checks alone decide
  pub asked : (user parent new : ℕ)
      → checks (facts_of t) (make user parent new) ≡ before_taken t user parent new ++ (bar (group_taken t new) Eexist ∷ after_taken t user parent new)
  pub refused : (user parent new : ℕ) → Pass (before_taken t user parent new) → group_taken t new ≡ true
      → verdict t (make user parent new) ≡ Err Eexist
  pub decided : (user parent new : ℕ) → group_taken t new ≡ false
      → verdict t (make user parent new) ≡ first (before_taken t user parent new ++ after_taken t user parent new)
