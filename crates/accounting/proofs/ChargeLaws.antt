-- A charge is a call that asks for room; what its checks say of its arguments, and what its stores leave. Assumes nothing.
use Rattle.std.specs.Prelude.{Result, Ok, Err}
use Prim.Native.Nat.{ℕ, ◌+◌, ◌-◌, ◌≤◌, ◌<◌}
use native.Mathlib.Omega.{arith}
use mathlib.Core.Bool.{true}
use mathlib.Core.List.{List}
use mathlib.Core.Path.{◌≡◌, refl, sym}
use borrow.Author.Tests.{ltb-false}
use Rattle.model.specs.Sizes.{largest_charge, processes}
use Rattle.model.specs.Checks.{first, Pass, Answer}
use Rattle.model.specs.Tree.{is_live, places}
use Rattle.model.specs.Hierarchy.{facts_of}
use Rattle.model.specs.Rules.{process_group}
use Rattle.model.specs.Calls.{charge, charge_checks, checks, verdict}
use Rattle.model.specs.Effects.{effect}
use Rattle.model.specs.Replies.{charge_answer}
use Rattle.model.specs.declared.NoRoom.{NoRoom}
use Rattle.model.specs.declared.Denied.{Denied}
use Rattle.model.specs.declared.Resource.TheVariants.{Pages}
use Rattle.model.proofs.CheckLaws.{first-pass}
use Rattle.model.proofs.ProcessLaws.{process-range}
use Rattle.tree.specs.Layout.{view}
use Rattle.tree.specs.Changes.{Wrote}
use Rattle.tree.specs.Counters.{ChainOf, Chargeable, ChargeTried}
use Rattle.tree.specs.Kept.{Kept, KeptAt}
use Rattle.tree.specs.Calling.{Calling}
use Rattle.tree.specs.declared.chain.Chain.{Chain}
use Rattle.tree.proofs.RoomCallLaws.{RoomCall, RoomVetted, room-call-home, room-call-chargeable, room-call-full, room-call-charged, room-call-accepted, room-call-granted}
use Rattle.accounting.specs.Pages.{OwnAdjustable, pages_set}
use Rattle.accounting.proofs.PagesLaws.{PagesAdjustable, own-adjustable, pages-adjusted, applied-pages}

pub charge-call : (xs : List ℕ) → Kept xs → (p n : ℕ)
    → RoomCall xs (charge p n) Pages n p (charge_checks (view xs) p n) (charge_answer (facts_of (view xs)) p n)
unfolding verdict checks charge_answer
charge-call xs k p n = record { kept = k; verdict = refl; answer = refl }

-- The checks before room pass.
module _ (xs : List ℕ) (k : Kept xs) (p n : ℕ) (v : ◌≡◌ {A = Answer} (Ok tt) (first (charge_checks (view xs) p n))) where
  charge-live : is_live (places (view xs) p) ≡ true
  unfolding charge_checks Pass
  charge-live = (first-pass (charge_checks (view xs) p n) (sym v)).0

  charge-few : n ≤ largest_charge
  unfolding charge_checks Pass
  charge-few = ltb-false largest_charge n (first-pass (charge_checks (view xs) p n) (sym v)).1.1.0

  pub charge-range : p < processes
  charge-range = process-range (view xs) k.formed p charge-live

-- They pass, and g is the group of the process.
pub record Charging (xs : List ℕ) (p n g : ℕ) : Type 0 where
  pub kept : Kept xs
  pub passed : ◌≡◌ {A = Answer} (Ok tt) (first (charge_checks (view xs) p n))
  pub group : g ≡ process_group (view xs) p

module _ {xs : List ℕ} {p n g : ℕ} (v : Charging xs p n g) where
  abbrev call : RoomCall xs (charge p n) Pages n p (charge_checks (view xs) p n) (charge_answer (facts_of (view xs)) p n)
  call = charge-call xs v.kept p n

  abbrev vetted : RoomVetted xs p g (charge_checks (view xs) p n)
  vetted = record { passed = sym v.passed; live = charge-live xs v.kept p n v.passed; group = v.group }

  pub charge-home : KeptAt xs g
  charge-home = room-call-home call vetted

  charge-adjustable : PagesAdjustable xs g n 0
  charge-adjustable = record { home = charge-home; few = charge-few xs v.kept p n v.passed; enough = omega arith }

  module _ {c : Chain} (h : ChainOf (view xs) g c) where
    pub charge-chargeable : Chargeable xs c n
    charge-chargeable = room-call-chargeable call vetted h (charge-few xs v.kept p n v.passed)

    -- the charge was tried
    module _ {ys : List ℕ} {x : Result ℕ NoRoom} (f : ChargeTried xs ys c Pages n x) where
      -- a group had no room
      pub charge-full : (s : NoRoom) → x ≡ Err s
          → Calling xs ys (charge p n) (charge_answer (facts_of (view xs)) p n) (Err (Denied.NoRoom s))
      charge-full s e = room-call-full call vetted h f s e

      -- all had: the group can take its own pages, and then the effect is the definition's
      module _ (i : ℕ) (e : x ≡ Ok i) where
        pub charge-own : OwnAdjustable ys g n 0
        charge-own = own-adjustable xs g n 0 charge-adjustable ys (room-call-charged call vetted h f i e)

        pub charge-granted : (zs : List ℕ) → Wrote ys zs (pages_set (view ys) g n 0)
            → Calling xs zs (charge p n) (charge_answer (facts_of (view xs)) p n) (Ok i)
        unfolding effect
        charge-granted zs w =
            let sum : ((view xs).group g).core.own + n - 0 ≡ ((view xs).group g).core.own + n = omega arith in
            room-call-granted call vetted h f i e zs
            (applied-pages xs zs (charge p n) g n 0 v.kept (room-call-accepted call vetted h f i e)
            (pages-adjusted xs g n 0 charge-adjustable ys zs (room-call-charged call vetted h f i e) w) (rw (sum, v.group)))
