-- Calls that ask a chain for room, and the running sums that are adjusted above a group: a running sum after an adjustment, what a
-- charge or a fork may ask of the chain, and how each of its answers keeps its promise. Once for either resource. Assumes nothing.
use Rattle.std.specs.Prelude.{Result, Ok, Err}
use Prim.Native.Nat.{ℕ, ◌+◌, ◌-◌, ◌≤◌}
use native.Mathlib.Omega.{arith}
use mathlib.Core.Bool.{Bool, true}
use mathlib.Core.List.{List, ◌++◌}
use mathlib.Core.Path.{◌≡◌, ap, sym, ◌∙◌, subst}
use Rattle.model.specs.Functions.{weigh}
use Rattle.model.specs.Sizes.{largest_charge}
use Rattle.model.specs.Checks.{Check, first, RoomAnswer}
use Rattle.model.specs.Tree.{is_live, parents, places}
use Rattle.model.specs.Hierarchy.{inside, facts_of}
use Rattle.model.specs.Rooms.{room, full, room_for, shortage}
use Rattle.model.specs.Rules.{process_group}
use Rattle.model.specs.Calls.{Call, room_check, verdict}
use Rattle.model.specs.Replies.{room_answer}
use Rattle.model.specs.declared.NoRoom.{NoRoom}
use Rattle.model.specs.declared.Denied.{Denied}
use Rattle.model.specs.declared.Resource.{Resource}
use Rattle.model.specs.declared.Errno.{Errno}
use Rattle.model.proofs.FunctionLaws.{split, weigh-yes, weigh-no}
use Rattle.model.proofs.RoomAnswerLaws.{verdict-vetted, verdict-full, verdict-room}
use Rattle.model.proofs.Steps.{process-lives}
use Rattle.tree.specs.Layout.{view, sum_in}
use Rattle.tree.specs.Changes.{Adjusted}
use Rattle.tree.specs.Counters.{bottom, ChainOf, Chargeable, room_of, ChargedBy, ChargeTried}
use Rattle.tree.specs.Kept.{Kept, KeptAt}
use Rattle.tree.specs.Calling.{Calling, Applied}
use Rattle.tree.specs.declared.chain.Chain.{Chain}
use Rattle.tree.specs.declared.sum.Counter.{Counter}
use Rattle.tree.specs.declared.sum.Counter.TheVariants.{Of}
use Rattle.tree.proofs.WalkLaws.{bottom-of}
use Rattle.tree.proofs.CallLaws.{call-refused, call-done}

-- A running sum after n more and m less in g and above.
pub sum-after-adjust : (xs ys : List ℕ) (g : ℕ) (c : Counter) (n m : ℕ) → Adjusted xs ys c g n m
    → ((a : ℕ) → inside (parents (view xs)) a g ≡ true → m ≤ sum_in xs c a + n) → (a : ℕ)
    → sum_in ys c a + weigh (inside (parents (view xs)) a g) m ≡ sum_in xs c a + weigh (inside (parents (view xs)) a g) n
sum-after-adjust xs ys g c n m d enough a =
    let b : Bool = inside (parents (view xs)) a g in
    split b
    (λ y. let z : sum_in ys c a ≡ sum_in xs c a + n - m = d.sums a ∙ rw y in omega (arith, enough a y, weigh-yes b m y, weigh-yes b n y))
    (λ o. let z : sum_in ys c a ≡ sum_in xs c a = d.sums a ∙ rw o in omega (arith, weigh-no b m o, weigh-no b n o))

-- A call on kept words whose checks are a list cs and then the room for n more in the group of process p.
pub record RoomCall (xs : List ℕ) (call : Call) (r : Resource) (n p : ℕ) (cs : List Check) (expected : RoomAnswer) : Type 0 where
  pub kept : Kept xs
  pub verdict : verdict (view xs) call ≡ first (cs ++ room_check (facts_of (view xs)) r n p)
  pub answer : expected ≡ room_answer (first cs) (room_for (facts_of (view xs)) r n (process_group (view xs) p))

-- The checks before room pass, and g is the group of the process.
pub record RoomVetted (xs : List ℕ) (p g : ℕ) (cs : List Check) : Type 0 where
  pub passed : first cs ≡ (Ok tt)
  pub live : is_live (places (view xs) p) ≡ true
  pub group : g ≡ process_group (view xs) p

module _ {xs : List ℕ} {call : Call} {r : Resource} {n p : ℕ} {cs : List Check} {expected : RoomAnswer} (o : RoomCall xs call r n p cs expected) where
  -- refused before room is asked for
  pub room-call-refused : (e : Errno) → first cs ≡ Err e → Calling xs xs call expected (Err (Denied.Refused e))
  room-call-refused e q =
      call-refused xs o.kept call expected _ e
      (o.verdict ∙ verdict-vetted cs (room_for (facts_of (view xs)) r n (process_group (view xs) p)) r e q) (sym (o.answer ∙ rw q))

  module _ {g : ℕ} (v : RoomVetted xs p g cs) where
    pub room-call-home : KeptAt xs g
    room-call-home = record { kept = o.kept; live = rw v.group (process-lives (view xs) o.kept.formed p v.live) }

    module _ {c : Chain} (h : ChainOf (view xs) g c) where
      home-is-bottom : bottom c ≡ g
      home-is-bottom = bottom-of (view xs) o.kept.formed.sound g room-call-home.live c h

      pub room-call-chargeable : n ≤ largest_charge → Chargeable xs c n
      room-call-chargeable few = record { home = rw home-is-bottom room-call-home; chain = rw home-is-bottom h; few = few }

      -- the charge was tried
      module _ {ys : List ℕ} {x : Result ℕ NoRoom} (f : ChargeTried xs ys c r n x) where
        found : room_of x ≡ room_for (facts_of (view xs)) r n (process_group (view xs) p)
        found = rw (← v.group, ← home-is-bottom) f.room

        -- a group had no room
        pub room-call-full : (s : NoRoom) → x ≡ Err s → Calling xs ys call expected (Err (Denied.NoRoom s))
        room-call-full s e =
            let y : room_for (facts_of (view xs)) r n (process_group (view xs) p) ≡ full s.group.0 s.consulted = sym found ∙ ap room_of e in
            let same : ys ≡ xs = subst (ChargedBy xs ys c r n) e f.words in
            rw same
            (call-refused xs o.kept call expected _ (shortage r) (o.verdict ∙ verdict-full cs _ r v.passed s.group.0 s.consulted y)
            (sym (o.answer ∙ rw (v.passed, y))))

        -- all had
        module _ (i : ℕ) (e : x ≡ Ok i) where
          enough : room_for (facts_of (view xs)) r n (process_group (view xs) p) ≡ room i
          enough = sym found ∙ ap room_of e

          pub room-call-charged : Adjusted xs ys (Of r) g n 0
          room-call-charged = subst (λ (a : ℕ). Adjusted xs ys (Of r) a n 0) home-is-bottom (subst (ChargedBy xs ys c r n) e f.words)

          pub room-call-accepted : verdict (view xs) call ≡ (Ok tt)
          room-call-accepted = o.verdict ∙ verdict-room cs _ r v.passed i enough

          pub room-call-granted : (zs : List ℕ) → Applied xs zs call → Calling xs zs call expected (Ok i)
          room-call-granted zs d =
              call-done xs o.kept call room-call-accepted zs expected _ d (sym (o.answer ∙ rw (v.passed, enough)))
