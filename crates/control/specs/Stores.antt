-- What the stores of the two calls make of a group and of the tree: document 01, "A controller that leaves resets its
-- settings in all children." Assumes nothing.
use Rattle.std.specs.Prelude.{ℕ, ◌<◌, Bool, true, List, [], ◌≡◌, length}
use Rattle.model.specs.Functions.{pick}
use Rattle.model.specs.Sizes.{groups}
use Rattle.model.specs.Tree.{Tree, Group, Controls, default_cpu, with_settings, with_cpu, with_io, with_amounts, settings_of, with_limit, at_group, lives}
use Rattle.model.specs.Effects.{reset_child}
use Rattle.model.specs.declared.Resource.{Resource}
use Rattle.model.specs.declared.Limit.TheVariants.{NoLimit}
use Rattle.tree.specs.Layout.{tree_words, view}

-- other groups, and all else as in t
abbrev pub with_groups : Tree → (ℕ → Group) → Tree
with_groups t f = record { machine = t.machine; group = f; process = t.process; past = t.past }

-- one group changed by f
abbrev pub changed_at : Tree → ℕ → (Group → Group) → Tree
changed_at t k f = at_group t k (f (t.group k))

-- a group with the settings of one controller at their defaults, where it is gone
abbrev pub cpu_reset : Bool → Group → Group
cpu_reset gone v = with_settings (with_cpu (pick gone default_cpu v.cpu) (settings_of v)) v

abbrev pub io_reset : Bool → Group → Group
io_reset gone v = with_settings (with_io (pick gone [] v.io) (settings_of v)) v

abbrev pub limit_reset : Resource → Bool → Group → Group
limit_reset r gone v =
    with_settings (with_amounts (with_limit r (pick gone NoLimit (v.core.limit r)) v.core.limit) (settings_of v)) v

-- words whose live groups have numbers in range
pub record Ranged (xs : List ℕ) : Type 0 where
  pub long : length xs ≡ tree_words
  pub range : (k : ℕ) → lives (view xs) k ≡ true → k < groups

-- the settings of what is gone from g reset in k, if that is a live child of it
abbrev pub child_reset : Tree → ℕ → Controls → ℕ → Tree
child_reset t g gone k = changed_at t k (reset_child t g gone k)

-- and in all its children
abbrev pub children_reset : Tree → ℕ → Controls → Tree
children_reset t g gone = with_groups t (λ k. reset_child t g gone k (t.group k))
