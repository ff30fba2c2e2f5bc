-- A process that moves: below the lowest group on both chains the sums have one less along the one and one more along the other, the two
-- groups a member less and more, and then the place is stored. Assumes nothing.
use Rattle.std.proofs.lemmas.Bool.Decides.{nat_tests}
use Prim.Native.Nat.{ℕ, ◌+◌, ◌-◌, ◌≤◌, ◌<◌}
use native.Mathlib.Omega.{arith}
use mathlib.Core.Bool.{Bool, true, false, not}
use mathlib.Core.List.{List}
use mathlib.Core.Logic.{◌≢◌}
use mathlib.Core.Path.{◌≡◌, refl, ap, sym, ◌∙◌, subst}
use lib.Dec.{eqb}
use Rattle.model.specs.Functions.{pick, weigh}
use Rattle.model.specs.Sizes.{groups}
use Rattle.model.specs.Tree.{Tree, at, lives, places, parents, depths, zombies, at_process}
use Rattle.model.specs.Hierarchy.{inside}
use Rattle.model.specs.Rules.{process_group}
use Rattle.model.specs.WellFormed.{Sound}
use Rattle.model.specs.declared.Resource.TheVariants.{Processes}
use Rattle.model.proofs.FunctionLaws.{split, weigh-yes, weigh-no, weigh-zero}
use Rattle.model.proofs.ChainLaws.{inside-trans}
use Rattle.model.proofs.CommonAncestorLaws.{ancestor-of-left, ancestor-of-right}
use Rattle.model.proofs.AmountLaws.{place-live}
use Rattle.tree.specs.Layout.{view, sum_in}
use Rattle.tree.specs.Changes.{UnendedRow, Wrote, AdjustedAt}
use Rattle.tree.specs.Counters.{bottom, ChainOf, Countable, Adjustable}
use Rattle.tree.specs.declared.chain.Chain.{Chain}
use Rattle.tree.specs.declared.sum.Counter.TheVariants.{Of, Members}
use Rattle.tree.proofs.AdjustLaws.{sum-adjusted-at, Rising}
use Rattle.tree.proofs.KeptLaws.{kept_low, countable, adjustable}
use Rattle.tree.proofs.WalkLaws.{bottom-of}
use Rattle.processes.specs.Place.{Migratable, Moved}
use Rattle.processes.proofs.PlaceLaws.{counted, Recounted, Mustered, mustered-more, mustered-less, mustered-then, still-countable, seated, standing-low, standing-inside, member-standing, leave-adjustable}

-- what the test of a walk says of the group that it is at
pub unmet : (g m : ℕ) → true ≡ not (eqb g m) → g ≢ m
unmet g m h = grind (arith, nat_tests)

pub met : (g m : ℕ) → false ≡ not (eqb g m) → g ≡ m
met g m h = grind (arith, nat_tests)

-- where something is taken away there is no more than before
not_more : (b : Bool) (s m : ℕ) → pick b (s + 0 - m) s ≤ s
not_more true s m = omega arith
not_more false s m = omega arith

-- the sum of a group that is not above both, by whether it is on each chain
one_each : (b c : Bool) (s u v : ℕ) → (b ≡ true → 1 ≤ s) → u ≡ pick b (s + 0 - 1) s → v ≡ pick c (u + 1 - 0) u → v + weigh b 1 ≡ s + weigh c 1
one_each true true s u v some d e = omega (arith, some refl, weigh-yes true 1 refl)
one_each true false s u v some d e = omega (arith, some refl, weigh-yes true 1 refl, weigh-no false 1 refl)
one_each false true s u v some d e = omega (arith, weigh-yes true 1 refl, weigh-no false 1 refl)
one_each false false s u v some d e = omega (arith, weigh-no false 1 refl)

module _ {xs : List ℕ} {p : ℕ} {source target : Chain} {m : ℕ} (h : Migratable xs p source target m) where
  source-home : bottom source ≡ process_group (view xs) p
  source-home = let from = h.moving.from.home in bottom-of (view xs) from.kept.formed.sound _ from.live source h.source_chain

  source-live : lives (view xs) (bottom source) ≡ true
  source-live = rw source-home h.moving.from.home.live

  pub leave-chain : ChainOf (view xs) (bottom source) source
  leave-chain = rw source-home h.source_chain

  pub leave-along : Adjustable xs (Of Processes) (bottom source) 0 1
  leave-along = leave-adjustable xs p h.moving.from (bottom source) 1 source-home (omega arith)

  -- the lowest group on both chains is on each
  pub meeting-left : inside (parents (view xs)) m (bottom source) ≡ true
  meeting-left = let from = h.moving.from.home in
      rw (h.moving.meets, source-home) (ancestor-of-left from.kept.formed.sound _ _ from.live)

  meeting-right : inside (parents (view xs)) m (bottom target) ≡ true
  meeting-right = let to = h.moving.to in rw h.moving.meets (ancestor-of-right to.kept.formed.sound _ _ to.live)

  module _ (ys : List ℕ) (d : Rising xs (Of Processes) (bottom source) 0 1 ys m) where
    -- the other chain is the same still
    pub come-chain : ChainOf (view ys) (bottom target) target
    come-chain = subst (λ (t : Tree). ChainOf t (bottom target) target) (sym d.tree) h.target_chain

    pub come-meeting : inside (parents (view ys)) m (bottom target) ≡ true
    come-meeting = subst (λ (t : Tree). inside (parents t) m (bottom target) ≡ true) (sym d.tree) meeting-right

    -- no sum has more
    fewer : (a : ℕ) → sum_in ys (Of Processes) a ≤ sum_in xs (Of Processes) a
    fewer a =
        split (inside (parents (view xs)) a m)
        (λ y. omega (arith, d.left a y))
        (λ o. omega (arith, d.done a o, not_more (inside (parents (view xs)) a (bottom source)) (sum_in xs (Of Processes) a) 1))

    pub come-along : Adjustable ys (Of Processes) (bottom target) 1 0
    come-along =
        let g : ℕ = bottom target in
        let to = h.moving.to in
        let was : Adjustable xs (Of Processes) g 1 0 = adjustable xs to.kept g to.live (Of Processes) 1 0 (omega arith) (λ a i. omega arith) in
        record {
          long = d.long;
          sound = subst (λ (t : Tree). Sound (lives t) (parents t) (depths t)) (sym d.tree) was.sound;
          live = subst (λ (t : Tree). lives t g ≡ true) (sym d.tree) was.live;
          room = λ a i. omega (arith, was.room a (subst (λ (t : Tree). inside (parents t) a g ≡ true) d.tree i), fewer a);
          enough = λ a i. omega arith;
        }

    module _ (zs : List ℕ) (e : Rising ys (Of Processes) (bottom target) 1 0 zs m) where
      -- who is inside what is as it was
      same-inside : (a g : ℕ) → inside (parents (view ys)) a g ≡ inside (parents (view xs)) a g
      same-inside a g = ap (λ (t : Tree). inside (parents t) a g) d.tree

      abbrev RecountedAt : ℕ → Type 0
      RecountedAt a = sum_in zs (Of Processes) a + counted (view xs) (at (bottom source)) a ≡ sum_in xs (Of Processes) a + counted (view xs) (at (bottom target)) a

      -- a group that is above both, and one that is not
      recounted-above : (a : ℕ) → inside (parents (view xs)) a m ≡ true → RecountedAt a
      recounted-above a y =
          let s = h.moving.to.kept.formed.sound in
          let left : inside (parents (view xs)) a (bottom source) ≡ true = inside-trans s a m (bottom source) source-live meeting-left y in
          let right : inside (parents (view xs)) a (bottom target) ≡ true = inside-trans s a m (bottom target) h.moving.to.live meeting-right y in
          omega (
            arith,
            d.left a y,
            e.left a (same-inside a m ∙ y),
            weigh-yes (inside (parents (view xs)) a (bottom source)) 1 left,
            weigh-yes (inside (parents (view xs)) a (bottom target)) 1 right,
          )

      recounted-below : (a : ℕ) → inside (parents (view xs)) a m ≡ false → RecountedAt a
      recounted-below a o =
          one_each (inside (parents (view xs)) a (bottom source)) (inside (parents (view xs)) a (bottom target))
          (sum_in xs (Of Processes) a) (sum_in ys (Of Processes) a) (sum_in zs (Of Processes) a)
          (λ i. omega (arith, standing-inside xs p h.moving.from a (rw source-home at i), h.moving.to.kept.sums (Of Processes) a))
          (d.done a o)
          (e.done a (same-inside a m ∙ o)
          ∙ ap (λ (b : Bool). pick b (sum_in ys (Of Processes) a + 1 - 0) (sum_in ys (Of Processes) a)) (same-inside a (bottom target)))

      recounted : Recounted xs zs (at (bottom source)) (at (bottom target))
      recounted =
          record {
            long = e.long;
            tree = e.tree ∙ d.tree;
            processes = λ a. split (inside (parents (view xs)) a m) (recounted-above a) (recounted-below a);
            other = λ c ne a. e.other c ne a ∙ d.other c ne a;
            spare = λ x. e.spare (d.spare x);
          }

      -- no member is counted otherwise yet
      members-still : (a : ℕ) → sum_in zs Members a ≡ sum_in xs Members a
      members-still a = e.other Members (λ x. cc) a ∙ d.other Members (λ x. cc) a

      pub move-less : (m : ℕ) → m ≤ 1 → Countable zs Members (bottom source) 0 m
      move-less m few = still-countable (member-standing xs p h.moving.from (bottom source) m source-home few) e.long (members-still (bottom source))

      module _ (us : List ℕ) (i : AdjustedAt zs us Members (bottom source) 0 1) where
        pub move-more : (n : ℕ) → n ≤ 1 → Countable us Members (bottom target) n 0
        move-more n few =
            let g : ℕ = bottom target in
            let to = h.moving.to in
            let was : Countable xs Members g n 0 = countable xs to.kept g to.live Members n 0 (omega arith) (omega arith) in
            record {
              long = i.long;
              low = was.low;
              room = omega (
                arith,
                was.room,
                members-still g,
                sum-adjusted-at zs us Members (bottom source) 0 1 i (move-less 1 (omega arith)).enough g,
                weigh-zero (eqb (bottom source) g),
              );
              enough = omega arith;
            }

        module _ (vs : List ℕ) (j : AdjustedAt us vs Members (bottom target) 1 0) where
          -- number and group have a row still
          pub move-rows : UnendedRow vs p × (bottom target < groups)
          move-rows = (
            record {
              row = record { long = j.long; low = standing-low xs p h.moving.from };
              unended =
                  ap (λ (t : Tree). zombies t p) (j.tree ∙ i.tree ∙ e.tree ∙ d.tree)
                  ∙ h.moving.to.kept.formed.past.process p h.moving.from.live;
            },
            kept_low h.moving.to,
          )

          pub moved : (ws : List ℕ) (user : ℕ) → user ≡ ((view zs).process p).user
              → Wrote vs ws (at_process (view vs) p (record { place = at (bottom target); user = user })) → Moved xs ws p (bottom target)
          moved ws user q w =
              let same : user ≡ ((view xs).process p).user = q ∙ ap (λ (t : Tree). (t.process p).user) (e.tree ∙ d.tree) in
              let was : places (view xs) p ≡ at (bottom source) = place-live (places (view xs) p) h.moving.from.live ∙ ap at (sym source-home) in
              let mustered : Mustered zs vs (at (bottom source)) (at (bottom target)) =
              mustered-then (mustered-less zs us (bottom source) (move-less 1 (omega arith)) i) (mustered-more us vs (bottom target) j) in
              seated xs zs vs h.moving.to.kept p (standing-low xs p h.moving.from)
              (record { place = at (bottom target); user = ((view xs).process p).user })
              (rw was recounted) (rw was mustered) ws (rw same at w)
