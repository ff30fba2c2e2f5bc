-- A zombie that is collected: what it asks, and what it leaves. Order 5, "a new call collects it and frees the number". Assumes nothing.
use Rattle.std.specs.Prelude.{ℕ, ◌+◌, ◌-◌, true, not, List, ◌≢◌, ◌≡◌, eqb, length}
use Rattle.model.specs.Tree.{Tree, with_past, zombies, remains}
use Rattle.model.specs.Zombies.{is_zombie}
use Rattle.model.specs.Effects.{kept_if, past_collect}
use Rattle.tree.specs.Layout.{tree_words, view, sum_in, Spare}
use Rattle.tree.specs.Changes.{remnant_set}
use Rattle.tree.specs.Kept.{Kept}
use Rattle.tree.specs.declared.sum.Counter.{Counter}
use Rattle.tree.specs.declared.sum.Counter.TheVariants.{Zombies}

-- a zombie
pub record Ended (xs : List ℕ) (p : ℕ) : Type 0 where
  pub kept : Kept xs
  pub zombie : is_zombie (zombies (view xs) p) ≡ true

-- one zombie less in g, and nothing left of it without one
pub record Uncounted (xs ys : List ℕ) (g : ℕ) : Type 0 where
  pub long : length ys ≡ tree_words
  pub tree : view ys ≡ remnant_set (view xs) g (kept_if (not (eqb (sum_in ys Zombies g) 0)) (remains (view xs) g))
  pub here : sum_in ys Zombies g ≡ sum_in xs Zombies g + 0 - 1
  pub elsewhere : (a : ℕ) → a ≢ g → sum_in ys Zombies a ≡ sum_in xs Zombies a
  pub other : (c : Counter) → c ≢ Zombies → (a : ℕ) → sum_in ys c a ≡ sum_in xs c a
  pub spare : Spare xs → Spare ys

-- the tree where zombie p was collected
abbrev pub collected_tree : Tree → ℕ → Tree
collected_tree t p = with_past (past_collect t p) t
