-- Admit and fork by what their checks and their stores say. Assumes nothing.
use Rattle.std.specs.Prelude.{Result, Ok, Err}
use Prim.Native.Nat.{ℕ, ◌≤◌, ◌<◌}
use native.Mathlib.Omega.{arith}
use mathlib.Core.Bool.{true, false}
use mathlib.Core.List.{List}
use mathlib.Core.Path.{◌≡◌, refl, ap, sym, ◌∙◌}
use borrow.Author.Tests.{leb-false}
use Rattle.model.specs.Sizes.{groups, processes}
use Rattle.model.specs.Checks.{first, Pass, Answer}
use Rattle.model.specs.Tree.{Process, at, is_live, places, at_process}
use Rattle.model.specs.Hierarchy.{facts_of}
use Rattle.model.specs.Zombies.{process_taken}
use Rattle.model.specs.Rules.{process_group}
use Rattle.model.specs.Calls.{admit, fork, fork_checks, checks, verdict}
use Rattle.model.specs.Effects.{effect}
use Rattle.model.specs.Replies.{fork_answer}
use Rattle.model.specs.declared.NoRoom.{NoRoom}
use Rattle.model.specs.declared.Denied.{Denied}
use Rattle.model.specs.declared.Resource.TheVariants.{Processes}
use Rattle.model.proofs.CheckLaws.{first-pass}
use Rattle.model.proofs.AmountLaws.{place-live}
use Rattle.model.proofs.ProcessLaws.{process-range}
use Rattle.model.proofs.Steps.{passed}
use Rattle.tree.specs.Layout.{view}
use Rattle.tree.specs.Changes.{UnendedRow, Wrote, AdjustedAt, Adjusted}
use Rattle.tree.specs.Counters.{ChainOf, Countable, Chargeable, ChargeTried}
use Rattle.tree.specs.Kept.{Kept, KeptAt}
use Rattle.tree.specs.Calling.{Calling}
use Rattle.tree.specs.declared.chain.Chain.{Chain}
use Rattle.tree.specs.declared.sum.Counter.TheVariants.{Of, Members}
use Rattle.tree.proofs.RoomCallLaws.{RoomCall, RoomVetted, room-call-home, room-call-chargeable, room-call-full, room-call-charged, room-call-accepted, room-call-granted}
use Rattle.processes.specs.Place.{Vacant, Seated}
use Rattle.tree.proofs.AnswerLaws.{accepted}
use Rattle.processes.proofs.PlaceLaws.{applied-seated, enter-countable, enter-rows, entered}

-- An admission that the checks let through.
module _ (xs : List ℕ) (k : Kept xs) (p user : ℕ) (v : ◌≡◌ {A = Answer} (Ok tt) (verdict (view xs) (admit p user))) where
  pass : Pass (checks (facts_of (view xs)) (admit p user))
  pass = passed (view xs) (admit p user) (sym v)

  pub admit-vacant : Vacant xs p 0
  unfolding checks Pass
  admit-vacant =
      record {
        home = record { kept = k; live = k.formed.sound.root };
        low = leb-false processes p pass.1.0;
        free = pass.1.1.0;
      }

  pub admitted : (ys : List ℕ) → Seated xs ys p (record { place = at 0; user = user }) → Calling xs ys (admit p user) (verdict (view xs) (admit p user)) (Ok tt)
  unfolding effect
  admitted ys d = accepted xs (admit p user) k ys v (applied-seated xs ys (admit p user) p _ k (sym v) d refl)

-- A fork is a call that asks for room.
pub fork-call : (xs : List ℕ) → Kept xs → (p new : ℕ)
    → RoomCall xs (fork p new) Processes 1 p (fork_checks (view xs) p new) (fork_answer (facts_of (view xs)) p new)
unfolding verdict checks fork_answer
fork-call xs k p new = record { kept = k; verdict = refl; answer = refl }

-- The checks before room pass.
module _ (xs : List ℕ) (k : Kept xs) (p new : ℕ) (v : ◌≡◌ {A = Answer} (Ok tt) (first (fork_checks (view xs) p new))) where
  before-room : Pass (fork_checks (view xs) p new)
  before-room = first-pass (fork_checks (view xs) p new) (sym v)

  fork-parent : is_live (places (view xs) p) ≡ true
  unfolding fork_checks Pass
  fork-parent = before-room.0

  fork-low : new < processes
  unfolding fork_checks Pass
  fork-low = leb-false processes new before-room.1.1.0

  fork-free : process_taken (view xs) new ≡ false
  unfolding fork_checks Pass
  fork-free = before-room.1.1.1.0

  pub fork-range : p < processes
  fork-range = process-range (view xs) k.formed p fork-parent

-- They pass, and g is the group of the parent.
pub record Forking (xs : List ℕ) (p new g : ℕ) : Type 0 where
  pub kept : Kept xs
  pub passed : ◌≡◌ {A = Answer} (Ok tt) (first (fork_checks (view xs) p new))
  pub group : g ≡ process_group (view xs) p

module _ {xs : List ℕ} {p new g : ℕ} (v : Forking xs p new g) where
  abbrev call : RoomCall xs (fork p new) Processes 1 p (fork_checks (view xs) p new) (fork_answer (facts_of (view xs)) p new)
  call = fork-call xs v.kept p new

  abbrev vetted : RoomVetted xs p g (fork_checks (view xs) p new)
  vetted = record { passed = sym v.passed; live = fork-parent xs v.kept p new v.passed; group = v.group }

  pub fork-home : KeptAt xs g
  fork-home = room-call-home call vetted

  vacant : Vacant xs new g
  vacant = record { home = fork-home; low = fork-low xs v.kept p new v.passed; free = fork-free xs v.kept p new v.passed }

  module _ {c : Chain} (h : ChainOf (view xs) g c) where
    pub fork-chargeable : Chargeable xs c 1
    fork-chargeable = room-call-chargeable call vetted h (omega arith)

    -- the charge was tried
    module _ {ys : List ℕ} {x : Result ℕ NoRoom} (f : ChargeTried xs ys c Processes 1 x) where
      -- a group had no room
      pub fork-full : (s : NoRoom) → x ≡ Err s → Calling xs ys (fork p new) (fork_answer (facts_of (view xs)) p new) (Err (Denied.NoRoom s))
      fork-full s e = room-call-full call vetted h f s e

      -- all had: one member more, where the sums of the chain have one more, then the place
      module _ (i : ℕ) (e : x ≡ Ok i) where
        sums : Adjusted xs ys (Of Processes) g 1 0
        sums = room-call-charged call vetted h f i e

        pub fork-countable : (n : ℕ) → n ≤ 1 → Countable ys Members g n 0
        fork-countable n few = enter-countable xs new g vacant ys sums n few

        module _ (us : List ℕ) (j : AdjustedAt ys us Members g 1 0) where
          pub fork-rows : UnendedRow us new × (g < groups)
          fork-rows = enter-rows xs new g vacant ys us sums j

          pub fork-granted : (user : ℕ) → user ≡ ((view xs).process p).user → (zs : List ℕ)
              → Wrote us zs (at_process (view us) new (record { place = at g; user = user }))
              → Calling xs zs (fork p new) (fork_answer (facts_of (view xs)) p new) (Ok i)
          unfolding effect
          fork-granted user q zs w =
              let here : places (view xs) p ≡ at g =
              place-live (places (view xs) p) (fork-parent xs v.kept p new v.passed) ∙ ap at (sym v.group) in
              let same : ◌≡◌ {A = Process} ((view xs).process p) (record { place = at g; user = user }) = (λ i. record { place = here i; user = sym q i }) in
              room-call-granted call vetted h f i e zs
              (applied-seated xs zs (fork p new) new (record { place = at g; user = user }) v.kept (room-call-accepted call vetted h f i e)
              (entered xs new g vacant ys us zs user sums j w) (ap (at_process (view xs) new) same))
