-- What an accepted hand over finds, and that its store gives the definitions' tree: nothing that is counted asks for an owner.
-- Assumes nothing.
use Rattle.std.specs.Prelude.{Ok}
use Prim.Native.Nat.{ℕ, ◌<◌}
use native.Mathlib.Omega.{arith}
use mathlib.Core.List.{List}
use mathlib.Core.Path.{◌≡◌, refl, sym}
use borrow.Author.Tests.{leb-false}
use Rattle.model.specs.Sizes.{groups}
use Rattle.model.specs.Checks.{Pass, Answer}
use Rattle.model.specs.Tree.{Tree, Group, with_owner}
use Rattle.model.specs.Hierarchy.{facts_of}
use Rattle.model.specs.Calls.{hand_over, checks, verdict}
use Rattle.model.specs.Effects.{effect}
use Rattle.model.proofs.FunctionLaws.{upd-keeps}
use Rattle.model.proofs.Steps.{passed}
use Rattle.tree.specs.Layout.{view}
use Rattle.tree.specs.Changes.{Wrote, owner_set}
use Rattle.tree.specs.Kept.{Kept}
use Rattle.tree.specs.Calling.{Applied}
use Rattle.tree.proofs.CallLaws.{applied-wrote}

pub hand-over-low : (t : Tree) (user g owner : ℕ) → ◌≡◌ {A = Answer} (Ok tt) (verdict t (hand_over user g owner)) → g < groups
unfolding checks Pass
hand-over-low t user g owner v =
    let k : Pass (checks (facts_of t) (hand_over user g owner)) = passed t (hand_over user g owner) (sym v) in
    omega (arith, leb-false)

pub applied-hand-over : (xs : List ℕ) (k : Kept xs) (user g owner : ℕ) (v : ◌≡◌ {A = Answer} (Ok tt) (verdict (view xs) (hand_over user g owner))) (ys : List ℕ)
    → Wrote xs ys (owner_set (view xs) g owner) → Applied xs ys (hand_over user g owner)
unfolding effect
applied-hand-over xs k user g owner v ys w =
    let after : Group = with_owner owner ((view xs).group g) in
    applied-wrote xs k (hand_over user g owner) (sym v) ys w
    (record {
      parent = upd-keeps (λ (x : Group). x.core.parent) (view xs).group g after refl;
      live = upd-keeps (λ (x : Group). x.core.live) (view xs).group g after refl;
      own = upd-keeps (λ (x : Group). x.core.own) (view xs).group g after refl;
    })
    refl refl
