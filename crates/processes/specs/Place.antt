-- A process's place, the running sums above it and the members of its group, changed together: what a change asks, and what it leaves.
-- Document 01, "Admit", "Fork", "Exit" and "Write cgroup.procs". Assumes nothing.
use Rattle.std.specs.Prelude.{ℕ, ◌<◌, true, false, List, ◌≡◌}
use Rattle.model.specs.Sizes.{processes}
use Rattle.model.specs.Tree.{Tree, Process, at, no_process, at_process, with_past, is_live, parents, places}
use Rattle.model.specs.Hierarchy.{common_ancestor}
use Rattle.model.specs.Zombies.{process_taken}
use Rattle.model.specs.Rules.{process_group}
use Rattle.model.specs.Effects.{past_exit}
use Rattle.tree.specs.Layout.{view}
use Rattle.tree.specs.Counters.{bottom, ChainOf}
use Rattle.tree.specs.Kept.{Settled, KeptAt}
use Rattle.tree.specs.declared.chain.Chain.{Chain}

-- a free number, for a process of g
pub record Vacant (xs : List ℕ) (p g : ℕ) : Type 0 where
  pub home : KeptAt xs g
  pub low : p < processes
  pub free : process_taken (view xs) p ≡ false

-- a live process
pub record Standing (xs : List ℕ) (p : ℕ) : Type 0 where
  pub home : KeptAt xs (process_group (view xs) p)
  pub live : is_live (places (view xs) p) ≡ true

-- a live process and a live group, and m is the lowest group on both chains, the process's group's and g's
pub record Moving (xs : List ℕ) (p g m : ℕ) : Type 0 where
  pub from : Standing xs p
  pub to : KeptAt xs g
  pub meets : m ≡ common_ancestor (parents (view xs)) (process_group (view xs) p) g

-- the same, with the chains of both groups
pub record Migratable (xs : List ℕ) (p : ℕ) (source target : Chain) (m : ℕ) : Type 0 where
  pub moving : Moving xs p (bottom target) m
  pub source_chain : ChainOf (view xs) (process_group (view xs) p) source
  pub target_chain : ChainOf (view xs) (bottom target) target

-- the words stand for the tree where process p is v
abbrev pub Seated : List ℕ → List ℕ → ℕ → Process → Type 0
Seated xs ys p v = Settled ys (at_process (view xs) p v)

-- the tree where process p has ended in its group
abbrev pub ended_tree : Tree → ℕ → Tree
ended_tree t p = with_past (past_exit t p) (at_process t p no_process)

-- the process stands in g now, and has the user that it had
abbrev pub Moved : List ℕ → List ℕ → ℕ → ℕ → Type 0
Moved xs ys p g = Seated xs ys p (record { place = at g; user = ((view xs).process p).user })
