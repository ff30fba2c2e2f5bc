-- What an accepted make finds, and that its stores give the definitions' tree: no amount changes, and the parent counts one child
-- more. Assumes nothing.
use Rattle.std.specs.Prelude.{Ok}
use Prim.Native.Nat.{ℕ, suc, ◌+◌, ◌≤◌, ◌<◌}
use native.Mathlib.Omega.{arith}
use native.Mathlib.Numerals.{add-one}
use mathlib.Core.Bool.{true, false}
use mathlib.Core.List.{List}
use mathlib.Core.Path.{◌≡◌, ap, sym, ◌∙◌, subst}
use lib.Dec.{eqb}
use borrow.Author.Tests.{leb-false}
use Rattle.model.specs.Functions.{upd, weigh}
use Rattle.model.specs.Sizes.{groups, deepest}
use Rattle.model.specs.Checks.{Pass, Answer}
use Rattle.model.specs.Tree.{Tree, Core, Group, no_group, new_core, new_group, at_group, cores, lives, depths, places}
use Rattle.model.specs.Hierarchy.{amount, facts_of}
use Rattle.model.specs.Zombies.{group_taken}
use Rattle.model.specs.Calls.{make, checks, verdict}
use Rattle.model.specs.Effects.{effect}
use Rattle.model.specs.declared.Resource.{Resource}
use Rattle.model.proofs.FunctionLaws.{or-false, weigh-zero, upd-map}
use Rattle.model.proofs.ZombieCounts.{zombies-after-make}
use Rattle.model.proofs.AmountLaws.{amount-after-make}
use Rattle.model.proofs.Steps.{passed}
use Rattle.tree.specs.Layout.{view, sum_in}
use Rattle.tree.specs.Changes.{Wrote, AdjustedAt}
use Rattle.tree.specs.Counters.{Countable}
use Rattle.tree.specs.Kept.{children, count_in, Kept}
use Rattle.tree.specs.Calling.{Applied}
use Rattle.tree.specs.declared.sum.Counter.{Counter}
use Rattle.tree.specs.declared.sum.Counter.TheVariants.{Of, Children, Members, Zombies}
use Rattle.tree.proofs.AdjustLaws.{sum-adjusted-at}
use Rattle.tree.proofs.KeptLaws.{countable}
use Rattle.tree.proofs.CountLaws.{children-after-make}
use Rattle.tree.proofs.CallLaws.{applied}

-- what the checks say where all pass
pub record Makeable (t : Tree) (parent new : ℕ) : Type 0 where
  pub above : parent < groups
  pub home : lives t parent ≡ true
  pub low : new < groups
  pub free : group_taken t new ≡ false
  pub shallow : depths t parent < deepest

pub makeable : (t : Tree) (user parent new : ℕ) → ◌≡◌ {A = Answer} (Ok tt) (verdict t (make user parent new)) → Makeable t parent new
unfolding checks Pass
makeable t user parent new v =
    let k : Pass (checks (facts_of t) (make user parent new)) = passed t (make user parent new) (sym v) in
    record {
      above = omega (arith, leb-false);
      home = (search);
      low = omega (arith, leb-false);
      free = (search);
      shallow = omega (arith, leb-false);
    }

module _ (xs : List ℕ) (k : Kept xs) (user parent new : ℕ) (v : ◌≡◌ {A = Answer} (Ok tt) (verdict (view xs) (make user parent new))) where
  m : Makeable (view xs) parent new
  m = makeable (view xs) user parent new v

  dead : lives (view xs) new ≡ false
  dead = (or-false (lives (view xs) new) _ m.free).0

  abbrev s : ℕ → Core
  s = cores (view xs)

  abbrev made : ℕ → Tree
  made depth = at_group (view xs) new (new_group parent depth user)

  cores-after : (depth : ℕ) → cores (made depth) ≡ upd s new (new_core parent)
  cores-after depth = upd-map (λ (x : Group). x.core) (view xs).group new (new_group parent depth user)

  amount-same : (depth : ℕ) (r : Resource) (g : ℕ) → amount (cores (made depth)) (places (view xs)) r g ≡ amount s (places (view xs)) r g
  amount-same depth r g =
      ap (λ f. amount f (places (view xs)) r g) (cores-after depth)
      ∙ amount-after-make s (places (view xs)) (depths (view xs)) k.formed.sound k.formed.placed r new parent g dead

  children-made : (depth a : ℕ) → children (cores (made depth)) a ≡ children s a + weigh (eqb parent a) 1
  children-made depth a =
      ap (λ f. children f a) (cores-after depth)
      ∙ children-after-make s (places (view xs)) (depths (view xs)) k.formed.sound k.formed.placed new parent m.low dead a

  pub make-countable : (n : ℕ) → n ≤ 1 → Countable xs Children parent n 0
  make-countable n few = countable xs k parent m.home Children n 0 (omega arith) (omega arith)

  count-above : (zs : List ℕ) → AdjustedAt xs zs Children parent 1 0 → (depth a : ℕ) → sum_in zs Children a ≡ children (cores (made depth)) a
  count-above zs d depth a =
      omega (
        arith,
        sum-adjusted-at xs zs Children parent 1 0 d (omega arith) a,
        weigh-zero (eqb parent a),
        k.sums Children a,
        children-made depth a,
      )

  -- a number that is free has no group in its row
  pub new-blank : (zs : List ℕ) → AdjustedAt xs zs Children parent 1 0 → (view zs).group new ≡ no_group
  new-blank zs j = ap (λ (t : Tree). t.group new) j.tree ∙ k.formed.blank.free_group new dead

  pub applied-make : (zs ys : List ℕ) (d : ℕ) → d ≡ depths (view xs) parent → AdjustedAt xs zs Children parent 1 0
      → Wrote zs ys (at_group (view zs) new (new_group parent (d + 1) user)) → Applied xs ys (make user parent new)
  unfolding effect
  applied-make zs ys d e j p =
      let depth : ℕ = suc (depths (view xs) parent) in
      let w : Wrote zs ys (made depth) =
      subst (λ (t : Tree). Wrote zs ys (at_group t new (new_group parent depth user))) j.tree (rw (e, add-one) at p) in
      applied xs k (make user parent new) (sym v) ys
      (record { long = w.long; tree = w.tree; sums = λ c a. w.sums c a ∙ counted depth c a; spare = w.spare (j.spare k.spare) })
    where
      counted : (depth : ℕ) (c : Counter) (a : ℕ) → sum_in zs c a ≡ count_in (made depth) c a
      counted depth (Of r) a = j.other (Of r) (λ e. cc) a ∙ k.sums (Of r) a ∙ sym (amount-same depth r a)
      counted depth Children a = count-above zs j depth a
      counted depth Members a = j.other Members (λ e. cc) a ∙ k.sums Members a
      counted depth Zombies a =
          j.other Zombies (λ e. cc) a ∙ k.sums Zombies a
          ∙ sym (zombies-after-make (view xs) k.formed (new_group parent depth user) new m.free a)
