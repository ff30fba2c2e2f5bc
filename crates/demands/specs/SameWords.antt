-- Two hosts that begin alike and are given the same calls have the same words, bit for bit, and have answered the same numbers. So
-- words can be compared, copied and kept in place of a tree. Assumes nothing.
use Rattle.std.specs.Prelude.{ℕ, List, ◌≡◌}
use Rattle.model.specs.Book.{Entry}
use Rattle.tree.specs.Layout.{view}
use Rattle.tree.specs.Kept.{Fresh}
use Rattle.demands.specs.Runs.{Runs, calls_of}

pub record SameWords : Type 0 where
  pub fresh : {m : ℕ} {xs us : List ℕ} → Fresh m xs → Fresh m us → xs ≡ us
  pub same : {xs ys us vs : List ℕ} {es fs : List Entry} → Runs xs es ys → Runs us fs vs → view xs ≡ view us → calls_of es ≡ calls_of fs
      → ys ≡ vs
  pub numbers : {xs ys us vs : List ℕ} {es fs : List Entry} → Runs xs es ys → Runs us fs vs → view xs ≡ view us → calls_of es ≡ calls_of fs
      → es ≡ fs
