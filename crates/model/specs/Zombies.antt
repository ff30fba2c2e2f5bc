-- Zombies, and the paths that they keep: order 5, "Processes that have ended but were not collected", and source document 000,
-- 2-2. A zombie keeps the number of its group and no more; a removed group on its path keeps what the membership line needs, its
-- parent and its depth. Assumes nothing.
use Rattle.std.specs.Prelude.{ℕ, Bool, true, false, ◌||◌}
use Rattle.model.specs.Functions.{pick, any}
use Rattle.model.specs.Sizes.{processes}
use Rattle.model.specs.Tree.{Tree, Place, nowhere, at, Remnant, no_remnant, remnant, is_live, group_of, lives, parents, depths, places, zombies, remains}
use Rattle.model.specs.Hierarchy.{inside}

-- whether a number is a zombie's, by where it ended
abbrev pub is_zombie : Place → Bool
is_zombie nowhere = false
is_zombie (at g) = true

-- whether anything is left of a group, and what
abbrev pub is_removed : Remnant → Bool
is_removed no_remnant = false
is_removed (remnant parent depth) = true

abbrev pub remnant_parent : Remnant → ℕ
remnant_parent no_remnant = 0
remnant_parent (remnant parent depth) = parent

abbrev pub remnant_depth : Remnant → ℕ
remnant_depth no_remnant = 0
remnant_depth (remnant parent depth) = depth

-- A group is there if it is live, or if something is left of it. What is asked of a live group, or else of what is left.
abbrev pub there_in : (ℕ → Bool) → (ℕ → Remnant) → ℕ → Bool
there_in live remains g = live g || is_removed (remains g)

abbrev pub or_remnant : (Remnant → ℕ) → (ℕ → Bool) → (ℕ → ℕ) → (ℕ → Remnant) → ℕ → ℕ
or_remnant h live f remains g = pick (live g) (f g) (h (remains g))

abbrev pub there : Tree → ℕ → Bool
there t = there_in (lives t) (remains t)

-- the parents and the depths of groups that are there: a path runs along them
abbrev pub path_parents : Tree → ℕ → ℕ
path_parents t = or_remnant remnant_parent (lives t) (parents t) (remains t)

abbrev pub path_depths : Tree → ℕ → ℕ
path_depths t = or_remnant remnant_depth (lives t) (depths t) (remains t)

-- whether the path of a zombie that ended there runs through g
abbrev pub runs_through : (ℕ → ℕ) → ℕ → Place → Bool
runs_through parent g nowhere = false
runs_through parent g (at h) = inside parent g h

-- whether some zombie's path does
unfoldable pub on_path_in : (ℕ → ℕ) → (ℕ → Place) → ℕ → Bool
on_path_in parent zombie g = any processes (λ p. runs_through parent g (zombie p))

abbrev pub on_path : Tree → ℕ → Bool
on_path t g = on_path_in (path_parents t) (zombies t) g

-- Whether a number is taken, so that no group is made with it: "A removed group's number can be made again as soon as no zombie's
-- path runs through it". And so that no process is born with it: a zombie's "number is taken".
abbrev pub group_taken : Tree → ℕ → Bool
group_taken t g = lives t g || on_path t g

abbrev pub process_taken : Tree → ℕ → Bool
process_taken t p = is_live (places t p) || is_zombie (zombies t p)

-- the group of a live process, or the group that a zombie ended in
abbrev pub last_group : Tree → ℕ → ℕ
last_group t p = pick (is_live (places t p)) (group_of (places t p)) (group_of (zombies t p))
