-- A release that its checks let through: what they say, and what its stores leave. Assumes nothing.
use Rattle.std.specs.Prelude.{Ok}
use Prim.Native.Nat.{ℕ, ◌+◌, ◌-◌, ◌≤◌}
use native.Mathlib.Omega.{arith}
use mathlib.Core.List.{List}
use mathlib.Core.Path.{◌≡◌, sym}
use borrow.Author.Tests.{ltb-false}
use Rattle.model.specs.Checks.{Pass, Answer}
use Rattle.model.specs.Hierarchy.{facts_of}
use Rattle.model.specs.Calls.{release, checks, verdict}
use Rattle.model.specs.Effects.{effect}
use Rattle.model.proofs.Steps.{passed}
use Rattle.tree.specs.Layout.{view}
use Rattle.tree.specs.Kept.{Kept, KeptAt}
use Rattle.tree.specs.Calling.{Calling}
use Rattle.tree.proofs.CallLaws.{call-done}
use Rattle.accounting.proofs.PagesLaws.{PagesAdjustable, PagesAdjusted, applied-pages}

module _ (xs : List ℕ) (k : Kept xs) (g n : ℕ) (d : ◌≡◌ {A = Answer} (Ok tt) (verdict (view xs) (release g n))) where
  vetted : Pass (checks (facts_of (view xs)) (release g n))
  vetted = passed (view xs) (release g n) (sym d)

  release-home : KeptAt xs g
  unfolding checks Pass
  release-home = record { kept = k; live = vetted.1.1.1.0 }

  release-enough : n ≤ ((view xs).group g).core.own
  unfolding checks Pass
  release-enough = ltb-false ((view xs).group g).core.own n vetted.1.1.1.1.0

  pub release-adjustable : PagesAdjustable xs g 0 n
  release-adjustable = record { home = release-home; few = omega arith; enough = release-enough }

  pub release-done : (ys : List ℕ) → PagesAdjusted xs ys g 0 n → Calling xs ys (release g n) (verdict (view xs) (release g n)) (Ok tt)
  unfolding effect
  release-done ys b =
      let sum : ((view xs).group g).core.own + 0 - n ≡ ((view xs).group g).core.own - n = omega arith in
      call-done xs k (release g n) (sym d) ys _ _ (applied-pages xs ys (release g n) g 0 n k (sym d) b (rw sum)) d
