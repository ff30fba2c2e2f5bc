-- The tests that the checks of document 01, "Calls and the order of their checks", are made of. Assumes nothing.
use Rattle.std.specs.Prelude.{ℕ, Bool, false, ◌&&◌, ◌||◌, List, eqb, leb, Option}
use Rattle.model.specs.Functions.{any, or_else}
use Rattle.model.specs.Sizes.{groups, processes}
use Rattle.model.specs.Tree.{Tree, Place, nowhere, at, group_of, cores, parents, owners, sets, places}
use Rattle.model.specs.Hierarchy.{on, child_of, common_ancestor}
use Rattle.model.specs.Text.{number_word, line_words, one_word}
use Rattle.model.specs.Control.{asked, joins, leaves}
use Rattle.model.specs.declared.Controller.{Controller}

-- numbers out of range
abbrev pub no_group_number : ℕ → Bool
no_group_number g = leb groups g

abbrev pub no_process_number : ℕ → Bool
no_process_number p = leb processes p

-- "May write G" means: is user 0 or G's owner.
abbrev pub may_write : Tree → ℕ → ℕ → Bool
may_write t user g = eqb user 0 || eqb user (owners t g)

-- "the root has all three, others what is on"; with order 1 all four
abbrev pub available : Tree → Controller → ℕ → Bool
available t c g = eqb g 0 || on t c g

-- whether a process stands in g
abbrev pub stands_in : Place → ℕ → Bool
stands_in nowhere g = false
stands_in (at h) g = eqb h g

-- the group of a live process
abbrev pub process_group : Tree → ℕ → ℕ
process_group t p = group_of (places t p)

-- a live child; a live process in g itself; a controller in a child's set
unfoldable pub has_child : Tree → ℕ → Bool
has_child t g = any groups (λ k. child_of g k (cores t k))

unfoldable pub has_process : Tree → ℕ → Bool
has_process t g = any processes (λ p. stands_in (places t p) g)

unfoldable pub held_by_child : Tree → ℕ → Controller → Bool
held_by_child t g c = any groups (λ k. child_of g k (cores t k) && sets t k c)

-- the number of a line that is one number word
abbrev pub number_line : List ℕ → Option ℕ
number_line line = one_word number_word (line_words line)

-- the process that a line of cgroup.procs names; 0 is no process
abbrev pub line_process : List ℕ → ℕ
line_process line = or_else 0 (number_line line)

-- the second 13 of cgroup.procs: "unless the user is 0, or is the process's user and may write the lowest group that is on
-- both chains, source's and target's". `may_move_below` is told that group, and `may_move` says which it is.
abbrev pub may_move_below : Tree → ℕ → ℕ → ℕ → Bool
may_move_below t user p lowest = eqb user 0 || (eqb user (t.process p).user && may_write t user lowest)

abbrev pub may_move : Tree → ℕ → ℕ → ℕ → Bool
may_move t user p g = may_move_below t user p (common_ancestor (parents t) (process_group t p) g)

-- the controllers that a line makes join the set of g, or leave it
abbrev pub joining : Tree → ℕ → List ℕ → Controller → Bool
joining t g line c = joins (sets t g c) (asked line c)

abbrev pub leaving : Tree → ℕ → List ℕ → Controller → Bool
leaving t g line c = leaves (sets t g c) (asked line c)
