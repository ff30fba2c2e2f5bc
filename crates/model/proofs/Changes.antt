-- What an accepted call may do to a tree: one of eight changes, each with what the laws about all calls need to know of it. Whatever
-- is said of every call goes by these eight and not by the calls, so that a call that makes no new kind of change costs one clause,
-- that of `change` in Steps.antt. Assumes nothing.
use Prim.Native.Nat.{ℕ, suc, ◌+◌, ◌≤◌, ◌<◌}
use native.Mathlib.Omega.{arith}
use mathlib.Core.Bool.{true, false}
use mathlib.Core.List.{List}
use mathlib.Core.Logic.{◌≢◌, ◌⊎◌, inl, inr, ⊎_elim}
use mathlib.Core.Path.{◌≡◌, ap, sym, ◌∙◌}
use Rattle.model.specs.Sizes.{groups, processes, deepest}
use Rattle.model.specs.Tree.{Tree, Group, Process, nowhere, at, is_live, no_process, new_group, at_group, at_process, with_past, cores, lives, parents, depths, owners, sets, places, zombies, no_remnant, remains}
use Rattle.model.specs.Hierarchy.{inside, headcount, usage}
use Rattle.model.specs.Zombies.{is_zombie, group_taken}
use Rattle.model.specs.Rooms.{over, acting_limit}
use Rattle.model.specs.Rules.{may_write, line_process, leaving}
use Rattle.model.specs.Calls.{Call}
use Rattle.model.specs.Effects.{past_exit, past_collect, removed, new_set, controlled}
use Rattle.model.specs.WellFormed.{WellFormed}
use Rattle.model.specs.Totals.{Flow, flow}
use Rattle.model.specs.declared.Resource.{Resource}
use Rattle.model.specs.declared.Resource.TheVariants.{Pages, Processes}
use Rattle.model.specs.declared.Controller.{Controller}
use Rattle.model.proofs.FunctionLaws.{split, clash, or-false, weigh-yes, weigh-no}
use Rattle.model.proofs.RuleLaws.{NoChild}
use Rattle.model.proofs.ZombieLaws.{untaken-blank}
use Rattle.model.proofs.Preservation.{Patch, usage-after-patch}
use Rattle.model.proofs.ControlPreservation.{Control}

-- The calls that the demands single out: a write of cgroup.procs that names p, a hand over, a write of a setting.
pub record Moves (c : Call) (p g : ℕ) : Type 0 where
  pub user : ℕ
  pub line : List ℕ
  pub call : c ≡ Call.write_procs user g line
  pub process : line_process line ≡ p

pub record HandsOver (c : Call) (g owner : ℕ) : Type 0 where
  pub giver : ℕ
  pub call : c ≡ Call.hand_over giver g owner

pub record WritesSetting (c : Call) : Type 0 where
  pub user : ℕ
  pub group : ℕ
  pub file : List ℕ
  pub line : List ℕ
  pub call : c ≡ Call.write_setting user group file line

-- from a to b of a resource, as the call's flow says; n more only where there is room for them
pub data Flowed (c : Call) (s : Resource) (Fits : ℕ → Type 0) (a b : ℕ) : Type 0 where
  still : flow c ≡ Flow.none → b ≡ a → Flowed c s Fits a b
  came : (n : ℕ) → flow c ≡ Flow.into s n → b ≡ a + n → Fits n → Flowed c s Fits a b
  went : (n : ℕ) → flow c ≡ Flow.out s n → b + n ≡ a → Flowed c s Fits a b

-- a process in a live group that may have processes
pub record StandsLive (t : Tree) (v : Process) : Type 0 where
  pub group : ℕ
  pub here : v.place ≡ at group
  pub alive : lives t group ≡ true
  pub quiet : group ≢ 0 → (x : Controller) → sets t group x ≡ false

-- a process that is put nowhere, or in such a group
pub record Placing (t : Tree) (c : Call) (p : ℕ) (v : Process) : Type 0 where
  pub number : p ≢ 0
  pub low : p < processes
  pub stands : (v ≡ no_process) ⊎ StandsLive t v
  pub moved : (g h : ℕ) → places t p ≡ at g → v.place ≡ at h → (g ≡ h) ⊎ Moves c p h
  pub unended : is_live v.place ≡ true → zombies t p ≡ nowhere
  pub heads : Flowed c Processes (λ _. Unit {0}) (headcount (places t p)) (headcount v.place)

module _ {t : Tree} {c : Call} {p : ℕ} {v : Process} (k : Placing t c p v) where
  pub place-stands : (g : ℕ) → v.place ≡ at g → (lives t g ≡ true) × (g ≢ 0 → (x : Controller) → sets t g x ≡ false)
  place-stands g e =
      ⊎_elim
      (λ (n : v ≡ no_process). let m : nowhere ≡ at g = sym (ap (λ x. x.place) n) ∙ e in
      let z : ◌≡◌ {A = ℕ} 0 1 = cc in absurd (omega arith))
      (λ (s : StandsLive t v). let d : s.group ≡ g = cc s.here in rw (← d) (s.alive, s.quiet))
      k.stands

  pub place-blank : is_live v.place ≡ false → v ≡ no_process
  place-blank f = ⊎_elim (λ n. n) (λ (s : StandsLive t v). clash (is_live v.place) (rw s.here) f) k.stands

-- "would pass memory.max" of no group on the way up from g
abbrev pub RoomAbove : Tree → ℕ → ℕ → Type 0
RoomAbove t g n = (a : ℕ) → inside (parents t) a g ≡ true → over (usage (cores t) a + n) (acting_limit t Pages a) ≡ false

-- a live group that keeps its place and its set, and what may change in it
pub record Altering (t : Tree) (c : Call) (g : ℕ) (v : Group) : Type 0 where
  pub patch : Patch t g v
  pub owner : (v.owner ≡ owners t g) ⊎ HandsOver c g v.owner
  pub pages : Flowed c Pages (RoomAbove t g) (t.group g).core.own v.core.own
  pub limit : (v.core.limit Pages ≡ (t.group g).core.limit Pages) ⊎ WritesSetting c

-- no group holds more pages than before, but where it has room for what it holds
pub usage-altered : (t : Tree) → WellFormed t → {c : Call} (g : ℕ) (v : Group) → Altering t c g v → (a : ℕ)
    → (usage (cores (at_group t g v)) a ≤ usage (cores t) a) ⊎ (over (usage (cores (at_group t g v)) a) (acting_limit t Pages a) ≡ false)
usage-altered t w {c} g v k a =
    let u = usage-after-patch t w g v k.patch a in
    split (inside (parents t) a g)
    (λ i. above i k.pages (omega (arith, u, weigh-yes _ (t.group g).core.own i, weigh-yes _ v.core.own i)))
    (λ i. inl (omega (arith, u, weigh-no _ (t.group g).core.own i, weigh-no _ v.core.own i)))
  where
    above : inside (parents t) a g ≡ true → {n m : ℕ} → Flowed c Pages (RoomAbove t g) n m
        → usage (cores (at_group t g v)) a + n ≡ usage (cores t) a + m
        → (usage (cores (at_group t g v)) a ≤ usage (cores t) a) ⊎ (over (usage (cores (at_group t g v)) a) (acting_limit t Pages a) ≡ false)
    above i (still f e) h = inl (omega arith)
    above i (came x f e room) h =
        let s : usage (cores (at_group t g v)) a ≡ usage (cores t) a + x = omega arith in
        inr (rw s (room a i))
    above i (went x f e) h = inl (omega arith)

-- a group that is made with a free number, under one that its maker may write
pub record Making (t : Tree) (user parent new : ℕ) : Type 0 where
  pub above : lives t parent ≡ true
  pub free : group_taken t new ≡ false
  pub low : new < groups
  pub shallow : depths t parent < deepest
  pub may : may_write t user parent ≡ true

-- such a number is not live, and nothing is left of a group with it
module _ (t : Tree) (w : WellFormed t) {user parent new : ℕ} (k : Making t user parent new) where
  pub made-dead : lives t new ≡ false
  made-dead = (or-false (lives t new) _ k.free).0

  pub made-blank : remains t new ≡ no_remnant
  made-blank = untaken-blank t w new (or-false (lives t new) _ k.free).1

-- a group without children and processes
pub record Removing (t : Tree) (g : ℕ) : Type 0 where
  pub alive : lives t g ≡ true
  pub inner : g ≢ 0
  pub no_child : NoChild (lives t) (parents t) g
  pub no_process : (p : ℕ) → places t p ≢ at g

pub data Change (t : Tree) (c : Call) : Tree → Type 0 where
  nothing : flow c ≡ Flow.none → Change t c t
  placed : (p : ℕ) (v : Process) → Placing t c p v → is_live v.place ≡ true → Change t c (at_process t p v)
  altered : (g : ℕ) (v : Group) → Altering t c g v → Change t c (at_group t g v)
  made : (user parent new : ℕ) → flow c ≡ Flow.none → Making t user parent new
      → Change t c (at_group t new (new_group parent (suc (depths t parent)) user))
  ended : (p : ℕ) → Placing t c p no_process → is_live (places t p) ≡ true → Change t c (with_past (past_exit t p) (at_process t p no_process))
  collected : (p : ℕ) → c ≡ Call.collect p → is_zombie (zombies t p) ≡ true → Change t c (with_past (past_collect t p) t)
  removal : (user g : ℕ) → c ≡ Call.remove user g → Removing t g → Change t c (removed t g)
  control : (g : ℕ) (line : List ℕ) → flow c ≡ Flow.none → Control t g (new_set t g line) (leaving t g line)
      → Change t c (controlled t g (new_set t g line) (leaving t g line))
