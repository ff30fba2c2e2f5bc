-- Nothing is lost: what the root holds changes by what accepted calls bring and take, and by nothing else; and as many ended
-- as were collected or are zombies. By the eight changes, then over every list. Assumes nothing.
use Prim.Native.Nat.{ℕ, ◌+◌, ◌-◌, ◌≤◌, ◌<◌}
use native.Mathlib.Omega.{arith}
use mathlib.Core.Bool.{true, false}
use mathlib.Core.List.{List, [], ◌∷◌}
use mathlib.Core.Path.{◌≡◌, refl, ap, ap₂, sym, ◌∙◌}
use lib.Dec.{eqb}
use Rattle.model.specs.Functions.{upd, weigh, sum}
use Rattle.model.specs.Sizes.{processes}
use Rattle.model.specs.Tree.{Tree, Group, Process, Place, nowhere, at, group_of, no_process, at_group, at_process, cores, lives, parents, depths, places, zombies}
use Rattle.model.specs.Hierarchy.{inside, headcount, population, amount}
use Rattle.model.specs.Rules.{leaving}
use Rattle.model.specs.Calls.{Call}
use Rattle.model.specs.Effects.{new_set, step, run}
use Rattle.model.specs.Replies.{reply}
use Rattle.model.specs.WellFormed.{WellFormed}
use Rattle.model.specs.Lists.{log}
use Rattle.model.specs.Totals.{Flow, flow, of_resource, brought, taken, freed, total, Balanced, zombie_count, EndedOnce}
use Rattle.model.specs.declared.Resource.{Resource}
use Rattle.model.specs.declared.Resource.TheVariants.{Pages, Processes}
use Rattle.model.proofs.FunctionLaws.{upd_same, upd_other, upd-map, upd-keeps, weigh-yes, weigh-no, weigh-zero, sum-change}
use Rattle.model.proofs.ChainLaws.{root-inside}
use Rattle.model.proofs.AmountLaws.{place-live, population-same, population-change, amount-after-make, amount-after-remove}
use Rattle.model.proofs.ZombieLaws.{zombie-place}
use Rattle.model.proofs.Preservation.{Patch, usage-after-patch, cores-after-remove}
use Rattle.model.proofs.ControlPreservation.{amount-after-control}
use Rattle.model.proofs.Changes.{made-dead, Flowed, still, came, went, Placing, place-stands, Change, nothing, placed, altered, made, ended, collected, removal, control}
use Rattle.model.proofs.Steps.{step-accepted, step-refused, by-verdict, passed, change, well-formed-step}
use Rattle.model.proofs.Books.{number-accepted, number-refused}

-- what the root of a tree holds
abbrev held_in : Tree → Resource → ℕ
held_in t r = amount (cores t) (places t) r 0

of-resource-add : (r s : Resource) (a b : ℕ) → of_resource r s (a + b) ≡ of_resource r s a + of_resource r s b
of-resource-add Pages Pages a b = refl
of-resource-add Pages Processes a b = refl
of-resource-add Processes Pages a b = refl
of-resource-add Processes Processes a b = refl

-- from x to y, where one holding went from a to b of its resource
flow-balanced : {c : Call} {s : Resource} {Room : ℕ → Type 0} {a b : ℕ} → Flowed c s Room a b → (r : Resource) (x y : ℕ)
    → y + of_resource r s a ≡ x + of_resource r s b → x + brought r (flow c) ≡ y + taken r (flow c)
flow-balanced (still f e) r x y h = rw f (omega (arith, rw e at h))
flow-balanced {s = s} {a = a} (came n f e _) r x y h = rw f (omega (arith, rw e at h, of-resource-add r s a n))
flow-balanced {s = s} {b = b} (went n f e) r x y h = rw f (omega (arith, rw (← e) at h, of-resource-add r s b n))

-- what a flow takes is what the holding lost; it frees no number
flow-out : {c : Call} {s : Resource} {Room : ℕ → Type 0} {a b : ℕ} → Flowed c s Room a b → (r : Resource)
    → (taken r (flow c) ≡ of_resource r s a - of_resource r s b) × (freed (flow c) ≡ 0)
flow-out {s = s} {a = a} (still f e) r = rw (f, e) (omega arith, refl)
flow-out {s = s} {a = a} (came n f e _) r = rw (f, e) (omega (arith, of-resource-add r s a n), refl)
flow-out {s = s} {b = b} (went n f e) r = rw (f, ← e) (omega (arith, of-resource-add r s b n), refl)

head-at-most : (l : Place) → headcount l ≤ 1
head-at-most nowhere = omega arith
head-at-most (at g) = omega arith

-- nothing flows, and nothing is lost
still-balanced : (k : Flow) (r : Resource) (x y : ℕ) → k ≡ Flow.none → y ≡ x → x + brought r k ≡ y + taken r k
still-balanced k r x y f e = rw (f, e)

module _ (t : Tree) (w : WellFormed t) where
  -- everything live is inside the root
  in-root : (g n : ℕ) → lives t g ≡ true → weigh (inside (parents t) 0 g) n ≡ n
  in-root g n l = weigh-yes _ n (root-inside w.sound g l)

  head-in-root : (l : Place) → ((g : ℕ) → l ≡ at g → lives t g ≡ true)
      → weigh (inside (parents t) 0 (group_of l)) (headcount l) ≡ headcount l
  head-in-root nowhere h = weigh-zero _
  head-in-root (at g) h = in-root g 1 (h g refl)

  -- a process is put somewhere, or nowhere
  held-placed : {c : Call} (p : ℕ) (v : Process) → Placing t c p v → (r : Resource)
      → held_in (at_process t p v) r + of_resource r Processes (headcount (places t p))
      ≡ held_in t r + of_resource r Processes (headcount v.place)
  held-placed p v k Pages = refl
  held-placed p v k Processes =
      omega (
        arith,
        ap (λ s. population (cores t) s 0) (upd-map (λ x. x.place) t.process p v),
        population-change (cores t) (places t) p v.place 0 k.low,
        head-in-root (places t p) (w.placed.group p),
        head-in-root v.place (λ g e. (place-stands k g e).0),
      )

  -- own pages of a group
  held-altered : (g : ℕ) (v : Group) → Patch t g v → (r : Resource)
      → held_in (at_group t g v) r + of_resource r Pages (t.group g).core.own ≡ held_in t r + of_resource r Pages v.core.own
  held-altered g v k Pages =
      omega (
        arith,
        usage-after-patch t w g v k 0,
        in-root g (t.group g).core.own k.alive,
        in-root g v.core.own k.alive,
      )
  held-altered g v k Processes =
      ap (λ n. n + 0) (population-same (cores t) _ (places t) (upd-keeps (λ x. x.core.parent) t.group g v k.parent) 0)

  balanced-change : {c : Call} {u : Tree} → Change t c u → (r : Resource) → held_in t r + brought r (flow c) ≡ held_in u r + taken r (flow c)
  balanced-change (nothing f) r = still-balanced _ r _ _ f refl
  balanced-change (placed p v k l) r = flow-balanced k.heads r _ _ (held-placed p v k r)
  balanced-change (altered g v k) r = flow-balanced k.pages r _ _ (held-altered g v k.patch r)
  balanced-change (made user parent new f k) r =
      still-balanced _ r _ _ f
      (ap (λ s. amount s (places t) r 0) (upd-map (λ x. x.core) t.group new _)
      ∙ amount-after-make (cores t) (places t) (depths t) w.sound w.placed r new parent 0 (made-dead t w k))
  balanced-change (ended p k l) r = flow-balanced k.heads r _ _ (held-placed p no_process k r)
  balanced-change (collected p f z) r = rw f
  balanced-change (removal user g f k) r =
      still-balanced _ r _ _ (ap flow f)
      (ap (λ s. amount s (places t) r 0) (cores-after-remove t g)
      ∙ amount-after-remove (cores t) (places t) (depths t) w.sound w.placed g k.alive k.inner k.no_child k.no_process
      r 0 (λ e. k.inner (sym e)))
  balanced-change (control g line f k) r = still-balanced _ r _ _ f (amount-after-control t g (new_set t g line) (leaving t g line) r 0)

  -- Order 5: who ends becomes a zombie, and who is collected is none any more.
  zombies-changed : (p : ℕ) (l : Place) → p < processes
      → zombie_count t + headcount l ≡ sum processes (λ q. headcount (upd (zombies t) p l q)) + headcount (zombies t p)
  unfolding zombie_count
  zombies-changed p l low =
      omega (
        arith,
        sum-change processes p (λ q. headcount (zombies t q)) (λ q. headcount (upd (zombies t) p l q)) low
            (λ q ne. sym (ap headcount (upd_other (zombies t) p l q ne))),
        ap headcount (upd_same (zombies t) p l),
      )

  ended-change : {c : Call} {u : Tree} → Change t c u → zombie_count t + taken Processes (flow c) ≡ zombie_count u + freed (flow c)
  unfolding zombie_count
  ended-change (nothing f) = rw f
  ended-change (placed p v k l) =
      omega (arith, flow-out k.heads Processes, head-at-most (places t p), ap headcount (place-live v.place l))
  ended-change (altered g v k) = omega (arith, flow-out k.pages Processes)
  ended-change (made user parent new f k) = rw f
  ended-change (ended p k l) =
      omega (arith, flow-out k.heads Processes, zombies-changed p (places t p) k.low, ap headcount (w.past.process p l))
  ended-change (collected p f z) =
      let here : zombies t p ≡ at (group_of (zombies t p)) = zombie-place (zombies t p) z in
      rw f (omega (arith, zombies-changed p nowhere (w.past.ended.range p _ here), ap headcount here))
  ended-change (removal user g f k) = rw f
  ended-change (control g line f k) = rw f

-- What every change balances, the accepted calls of every list do.
module _ (count : Tree → ℕ) (from to : Flow → ℕ)
    (law : (t : Tree) → WellFormed t → (c : Call) (u : Tree) → Change t c u → count t + from (flow c) ≡ count u + to (flow c)) where
  count-step : (t : Tree) → WellFormed t → (c : Call)
      → count t + weigh (eqb (reply t c).number 0) (from (flow c)) ≡ count (step t c) + weigh (eqb (reply t c).number 0) (to (flow c))
  count-step t w c =
      by-verdict t c
      (λ e. rw (number-accepted t c e, step-accepted t c e)
      (ap₂ ◌+◌ refl (weigh-yes true _ refl) ∙ law t w c _ (change t c w (passed t c e)) ∙ ap₂ ◌+◌ refl (sym (weigh-yes true _ refl))))
      (λ x e. rw (number-refused t c x e, step-refused t c x e) (ap₂ ◌+◌ refl (weigh-no false _ refl ∙ sym (weigh-no false _ refl))))

  count-run : (cs : List Call) (t : Tree) → WellFormed t → count t + total from (log t cs) ≡ count (run t cs) + total to (log t cs)
  unfolding total log run
  count-run [] t w = refl
  count-run (c ∷ cs) t w = omega (arith, count-step t w c, count-run cs (step t c) (well-formed-step t c w))

pub balanced-run : (cs : List Call) (t : Tree) → WellFormed t → Balanced t (log t cs) (run t cs)
balanced-run cs t w r = count-run (λ u. held_in u r) (brought r) (taken r) (λ u x c v k. balanced-change u x k r) cs t w

pub ended-run : (cs : List Call) (t : Tree) → WellFormed t → EndedOnce t (log t cs) (run t cs)
ended-run cs t w = count-run zombie_count (taken Processes) freed (λ u x c v k. ended-change u x k) cs t w
