-- The rules that every tree keeps which calls can reach, as small records over the functions they speak of: document 01,
-- "What the host keeps", and order 5. Assumes nothing.
use Rattle.std.specs.Prelude.{ℕ, suc, ◌≤◌, ◌<◌, Bool, true, false, ◌≢◌, ◌≡◌}
use Rattle.model.specs.Sizes.{groups, processes, deepest, largest_machine}
use Rattle.model.specs.Tree.{Tree, Group, Process, Place, nowhere, at, Controls, Settings, no_group, no_process, Past, no_remnant, is_live, cores, lives, parents, depths, owners, sets, settings_at, places}
use Rattle.model.specs.Hierarchy.{on_in, usage}
use Rattle.model.specs.Zombies.{is_removed, remnant_parent, remnant_depth, there_in, or_remnant, on_path_in}
use Rattle.model.specs.Settings.{AtDefault, Allowed}
use Rattle.model.specs.declared.Controller.{Controller}

-- the live groups are a tree: parents are live, depths are one more than the parent's and at most the deepest
pub record Sound (live : ℕ → Bool) (parent depth : ℕ → ℕ) : Type 0 where
  pub root : live 0 ≡ true
  pub top : parent 0 ≡ 0
  pub level : depth 0 ≡ 0
  pub range : (g : ℕ) → live g ≡ true → g < groups
  pub above : (g : ℕ) → live g ≡ true → g ≢ 0 → live (parent g) ≡ true
  pub deeper : (g : ℕ) → live g ≡ true → g ≢ 0 → depth g ≡ suc (depth (parent g))
  pub shallow : (g : ℕ) → live g ≡ true → depth g ≤ deepest

-- live processes stand in live groups
pub record Placed (live : ℕ → Bool) (place : ℕ → Place) : Type 0 where
  pub group : (p g : ℕ) → place p ≡ at g → live g ≡ true
  pub range : (p g : ℕ) → place p ≡ at g → p < processes
  pub none : place 0 ≡ nowhere

-- every set is within what is on
pub record TopDown (live : ℕ → Bool) (parent : ℕ → ℕ) (set : ℕ → Controls) : Type 0 where
  pub within : (c : Controller) (g : ℕ) → live g ≡ true → g ≢ 0 → set g c ≡ true → set (parent g) c ≡ true

-- defaults where a controller is off
pub record Defaults (live : ℕ → Bool) (parent : ℕ → ℕ) (set : ℕ → Controls) (setting : ℕ → Settings) : Type 0 where
  pub off : (c : Controller) (g : ℕ) → live g ≡ true → on_in parent set c g ≡ false → AtDefault c (setting g)

-- the values that the settings' files show are in their ranges
pub record Ranges (live : ℕ → Bool) (setting : ℕ → Settings) : Type 0 where
  pub within : (g : ℕ) → live g ≡ true → Allowed (setting g)

-- the inner-process rule: no live process in a group other than the root that has a set
pub record NoInternalProcesses (place : ℕ → Place) (set : ℕ → Controls) : Type 0 where
  pub empty : (p g : ℕ) → place p ≡ at g → g ≢ 0 → (c : Controller) → set g c ≡ false

-- nothing is kept of a number that is not live, but what order 5 keeps of the dead
pub record Blank (group : ℕ → Group) (process : ℕ → Process) : Type 0 where
  pub free_group : (g : ℕ) → (group g).core.live ≡ false → group g ≡ no_group
  pub free_process : (p : ℕ) → is_live (process p).place ≡ false → process p ≡ no_process

-- Order 5, of the dead. On zombies' paths are only live and removed groups, with the depths that a line needs; no group is removed
-- elsewhere; and what is live is not dead.
pub record Remembered (live : ℕ → Bool) (parent depth : ℕ → ℕ) (place : ℕ → Place) (d : Past) : Type 0 where
  pub paths : Sound (there_in live d.remains) (or_remnant remnant_parent live parent d.remains) (or_remnant remnant_depth live depth d.remains)
  pub ended : Placed (there_in live d.remains) d.zombie
  pub needed : (g : ℕ) → is_removed (d.remains g) ≡ true → on_path_in (or_remnant remnant_parent live parent d.remains) d.zombie g ≡ true
  pub group : (g : ℕ) → live g ≡ true → d.remains g ≡ no_remnant
  pub process : (p : ℕ) → is_live (place p) ≡ true → d.zombie p ≡ nowhere

-- "the root's is always 0": its owner
abbrev pub RootOwned : (ℕ → ℕ) → Type 0
RootOwned owner = owner 0 ≡ 0

-- the machine has a size, and the root's usage is within it
pub record Sized (machine used : ℕ) : Type 0 where
  pub size : machine ≤ largest_machine
  pub fits : used ≤ machine

pub record WellFormed (t : Tree) : Type 0 where
  pub sound : Sound (lives t) (parents t) (depths t)
  pub placed : Placed (lives t) (places t)
  pub top_down : TopDown (lives t) (parents t) (sets t)
  pub defaults : Defaults (lives t) (parents t) (sets t) (settings_at t)
  pub ranges : Ranges (lives t) (settings_at t)
  pub quiet : NoInternalProcesses (places t) (sets t)
  pub blank : Blank t.group t.process
  pub past : Remembered (lives t) (parents t) (depths t) (places t) t.past
  pub owned : RootOwned (owners t)
  pub sized : Sized t.machine (usage (cores t) 0)
