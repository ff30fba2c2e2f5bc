-- What `vet_pages` answers, and what `adjust_own` asks and leaves: pages that come and go. Document 01, "Charge" and "Release".
-- Assumes nothing.
use Rattle.std.specs.Prelude.{ℕ, ◌+◌, ◌-◌, ◌^◌, ◌≤◌, ◌<◌, List, [], ◌∷◌, eqb, ltb}
use Rattle.model.specs.Sizes.{largest_charge}
use Rattle.model.specs.Checks.{Check, bar}
use Rattle.model.specs.Tree.{Tree}
use Rattle.model.specs.declared.Errno.TheVariants.{Einval}
use Rattle.tree.specs.Layout.{view}
use Rattle.tree.specs.Changes.{own_set, GroupRow}

-- the checks of the pages that a charge or a release names
unfoldable pub pages_checks : ℕ → List Check
pages_checks n =
    bar (eqb n 0) Einval
    ∷ bar (ltb largest_charge n) Einval
    ∷ []

-- the tree with n own pages of g more, and m less
abbrev pub pages_set : Tree → ℕ → ℕ → ℕ → Tree
pages_set t g n m = own_set t g ((t.group g).core.own + n - m)

-- the own pages of a group with a row can take n more and m less
pub record OwnAdjustable (xs : List ℕ) (g n m : ℕ) : Type 0 where
  pub row : GroupRow xs g
  pub fits : ((view xs).group g).core.own + n < 2 ^ 64
  pub enough : m ≤ ((view xs).group g).core.own + n
