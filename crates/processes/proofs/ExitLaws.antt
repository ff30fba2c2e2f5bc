-- Exit by what its check and its stores say. Assumes nothing.
use Rattle.std.specs.Prelude.{Ok, [], ◌∷◌}
use Prim.Native.Nat.{ℕ}
use mathlib.Core.Bool.{true}
use mathlib.Core.List.{List}
use mathlib.Core.Path.{◌≡◌, sym}
use Rattle.model.specs.Checks.{need, first, Pass, Answer}
use Rattle.model.specs.Tree.{is_live, places}
use Rattle.model.specs.Calls.{exit, checks, verdict}
use Rattle.model.specs.Effects.{effect}
use Rattle.model.specs.declared.Errno.TheVariants.{Esrch}
use Rattle.model.proofs.CheckLaws.{first-pass}
use Rattle.model.proofs.Steps.{process-lives}
use Rattle.tree.specs.Layout.{view}
use Rattle.tree.specs.Kept.{Settled, Kept}
use Rattle.tree.specs.Calling.{Calling}
use Rattle.tree.proofs.CallLaws.{applied}
use Rattle.processes.specs.Place.{Standing, ended_tree}
use Rattle.tree.proofs.AnswerLaws.{accepted}

-- A live process.
module _ (xs : List ℕ) (k : Kept xs) (p : ℕ) (v : ◌≡◌ {A = Answer} (Ok tt) (first (need (is_live (places (view xs) p)) Esrch ∷ []))) where
  live : is_live (places (view xs) p) ≡ true
  unfolding Pass
  live = (first-pass (need (is_live (places (view xs) p)) Esrch ∷ []) (sym v)).0

  pub exit-standing : Standing xs p
  exit-standing = record { home = record { kept = k; live = process-lives (view xs) k.formed p live }; live = live }

  pub exit-done : (ys : List ℕ) → Settled ys (ended_tree (view xs) p) → Calling xs ys (exit p) (verdict (view xs) (exit p)) (Ok tt)
  unfolding verdict checks effect
  exit-done ys d = accepted xs (exit p) k ys v (applied xs k (exit p) (sym v) ys d)
