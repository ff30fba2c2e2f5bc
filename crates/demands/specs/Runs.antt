-- Runs of the host as the public contracts promise them: words, calls and the numbers answered; and what makes one a run of the
-- definitions. Assumes nothing.
use Rattle.std.specs.Prelude.{ℕ, List, [], ◌∷◌, ◌++◌, map, ◌≡◌}
use Rattle.model.specs.Tree.{Tree}
use Rattle.model.specs.Calls.{Call}
use Rattle.model.specs.Effects.{run}
use Rattle.model.specs.Book.{Entry}
use Rattle.model.specs.Lists.{log}
use Rattle.tree.specs.Layout.{view}
use Rattle.tree.specs.Kept.{Kept}
use Rattle.tree.specs.Calling.{Answered}

-- A list of calls with the numbers answered, from words that keep the invariant, each on the words that the one before handed back.
-- What a call promises is `Answered`, as every exported call on a tree ensures it.
pub data Runs (xs : List ℕ) : List Entry → List ℕ → Type 0 where
  start : Kept xs → Runs xs [] xs
  next : {es : List Entry} {ys zs : List ℕ} {c : Call} {n : ℕ} → Runs xs es ys → Answered ys zs c n
      → Runs xs (es ++ (record { call = c; number = n } ∷ [])) zs

-- Q holds of every call of a run, with what the words before it and after it stand for
unfoldable pub Along : {xs ys : List ℕ} {es : List Entry} → (Tree → Call → Tree → Type 0) → Runs xs es ys → Type 0
Along Q (start k) = Unit {0}
Along Q (next {ys = ys} {zs = zs} {c = c} r a) = Along Q r × Q (view ys) c (view zs)

abbrev pub calls_of : List Entry → List Call
calls_of es = map (λ (e : Entry). e.call) es

-- A run of the definitions: the numbers are those that they answer, and the words stand for the tree that they come to.
pub record Followed (xs : List ℕ) (es : List Entry) (ys : List ℕ) : Type 0 where
  pub begun : Kept xs
  pub entries : es ≡ log (view xs) (calls_of es)
  pub tree : view ys ≡ run (view xs) (calls_of es)
  pub kept : Kept ys
