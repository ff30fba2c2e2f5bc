-- The invariant of the words: they stand for a well-formed tree, the running sums are what the definitions say, and the words
-- that stand for nothing are 0. Assumes nothing.
use Rattle.std.specs.Prelude.{ℕ, true, List, ◌≡◌, length}
use Rattle.model.specs.Functions.{weigh, sum}
use Rattle.model.specs.Sizes.{groups, processes}
use Rattle.model.specs.Tree.{Tree, Core, Place, Past, lives, cores, places}
use Rattle.model.specs.Hierarchy.{standing, amount, child_of}
use Rattle.model.specs.Zombies.{remnant_parent, or_remnant}
use Rattle.model.specs.Rules.{stands_in}
use Rattle.model.specs.Effects.{fresh}
use Rattle.model.specs.WellFormed.{WellFormed}
use Rattle.tree.specs.Layout.{tree_words, view, sum_in, Spare}
use Rattle.tree.specs.declared.sum.Counter.{Counter}
use Rattle.tree.specs.declared.sum.Counter.TheVariants.{Of, Children, Members, Zombies}

-- the live children of a group
unfoldable pub children : (ℕ → Core) → ℕ → ℕ
children cs a = sum groups (λ k. weigh (child_of a k (cs k)) 1)

-- the live processes that stand in a group itself
unfoldable pub members : (ℕ → Place) → ℕ → ℕ
members ps a = sum processes (λ p. weigh (stands_in (ps p) a) 1)

-- the parents of groups that are there, by what is kept of them
abbrev pub path_up : (ℕ → Core) → Past → ℕ → ℕ
path_up cs d = or_remnant remnant_parent (λ g. (cs g).live) (λ g. (cs g).parent) d.remains

-- what a counter counts in a group
abbrev pub count_of : (ℕ → Core) → (ℕ → Place) → Past → Counter → ℕ → ℕ
count_of cs ps d (Of r) = amount cs ps r
count_of cs ps d Children = children cs
count_of cs ps d Members = members ps
count_of cs ps d Zombies = standing (path_up cs d) d.zombie

abbrev pub count_in : Tree → Counter → ℕ → ℕ
count_in t = count_of (cores t) (places t) t.past

-- every running sum is what its counter counts: 0 for a number that is not live, but for the zombies inside a removed group
abbrev pub Summed : List ℕ → Tree → Type 0
Summed xs t = (c : Counter) (g : ℕ) → sum_in xs c g ≡ count_in t c g

-- the words stand for t, with every sum and no other word
pub record Settled (xs : List ℕ) (t : Tree) : Type 0 where
  pub long : length xs ≡ tree_words
  pub tree : view xs ≡ t
  pub sums : Summed xs t
  pub spare : Spare xs

pub record Kept (xs : List ℕ) : Type 0 where
  pub long : length xs ≡ tree_words
  pub formed : WellFormed (view xs)
  pub sums : Summed xs (view xs)
  pub spare : Spare xs

-- words with a live group
pub record KeptAt (xs : List ℕ) (g : ℕ) : Type 0 where
  pub kept : Kept xs
  pub live : lives (view xs) g ≡ true

-- the words of a fresh tree
pub record Fresh (m : ℕ) (xs : List ℕ) : Type 0 where
  pub tree : view xs ≡ fresh m
  pub kept : Kept xs
