-- One tree has one list of words: two hosts that stand for the same tree have the same words, so that words can be compared and
-- kept for the tree. Assumes nothing.
use Rattle.std.specs.Prelude.{ℕ, List, ◌≡◌}
use Rattle.tree.specs.Layout.{view}
use Rattle.tree.specs.Kept.{Kept}

abbrev pub OneForm : Type 0
OneForm = (xs ys : List ℕ) → Kept xs → Kept ys → view xs ≡ view ys → xs ≡ ys
