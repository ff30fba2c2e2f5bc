-- `groups::remove::vet_remove` meets its contract: its tests in their order are the definitions' checks. Assumes nothing.
use Rattle.std.specs.Prelude.{Ok, Err, eqb}
use Rattle.std.proofs.lemmas.Bool.Decides.{nat_tests}
use Prim.Native.Nat.{ℕ}
use native.Mathlib.Omega.{arith}
use mathlib.Core.Bool.{Bool, true, false, ◌||◌}
use mathlib.Core.List.{[], ◌∷◌}
use mathlib.Core.Path.{◌≡◌, sym}
use Rattle.model.specs.Checks.{bar, need, first, Pass, Answer}
use Rattle.model.specs.Tree.{Tree, lives, parents}
use Rattle.model.specs.Rules.{no_group_number, may_write, has_child, has_process}
use Rattle.model.specs.Calls.{remove, checks, verdict}
use Rattle.model.specs.declared.Errno.TheVariants.{Enoent, Ebusy, Einval}
use Rattle.model.proofs.CheckLaws.{first-pass}
use Rattle.tree.specs.Layout.{view}
use Rattle.tree.proofs.KeptLaws.{parent-low}
use Rattle.tree.proofs.AnswerLaws.{front-refused}
use Rattle.groups.proofs.remove.vet_remove.Goals as goal

-- 22, 2
pub returns-in_err-vet_live : goal.returns-in_err-vet_live
unfolding verdict checks
returns-in_err-vet_live c = front-refused _ _ _ _ c.in_err-vet_live.ensures c.from_residual.ensures.1

-- the group is live
module _ (t : Tree) (g : ℕ) (v : ◌≡◌ {A = Answer} (Ok tt) (first (bar (no_group_number g) Einval ∷ need (lives t g) Enoent ∷ []))) where
  alive : lives t g ≡ true
  unfolding Pass
  alive = (first-pass (bar (no_group_number g) Einval ∷ need (lives t g) Enoent ∷ []) (sym v)).1.0

  -- the user may write its parent, and it is in use or not
  module _ (user p : ℕ) (e : p ≡ parents t g) (w : true ≡ may_write t user p) (b : Bool) (u : b ≡ (eqb g 0 || (has_child t g || has_process t g))) where
    busy : b ≡ true → Err Ebusy ≡ verdict t (remove user g)
    unfolding verdict checks first
    busy y = grind (arith, nat_tests)

    removable : b ≡ false → Ok tt ≡ verdict t (remove user g)
    unfolding verdict checks first
    removable o = grind (arith, nat_tests)

pub may_write-requires : goal.may_write-requires
may_write-requires c =
    parent-low _ c.requires _ _ (alive (view c.args.tree.now) c.args.group.0 c.in_ok-vet_live.ensures) c.parent.ensures

pub is_in_use-requires : goal.is_in_use-requires
is_in_use-requires c = record { kept = c.requires; live = alive (view c.args.tree.now) c.args.group.0 c.in_ok-vet_live.ensures }

-- 16
pub returns-then-is_in_use : goal.returns-then-is_in_use
returns-then-is_in_use c =
    let a = c.args in
    busy (view a.tree.now) a.group.0 c.in_ok-vet_live.ensures a.user _ c.parent.ensures c.if-not-may_write.ensures _ c.is_in_use.ensures c.if-is_in_use.true

-- done
pub returns : goal.returns
returns c =
    let a = c.args in
    removable (view a.tree.now) a.group.0 c.in_ok-vet_live.ensures a.user _ c.parent.ensures c.if-not-may_write.ensures _ c.is_in_use.ensures c.if-is_in_use.false
