-- What an accepted remove finds, that the pages it passes on fit a word, and that its stores give the definitions' tree:
-- the pages stay inside every group above, so that no other group's amount changes, its parent has one child less, and what
-- zombies' paths need is left of the group. Assumes nothing.
use Rattle.std.specs.Prelude.{Ok}
use Prim.Native.Nat.{ℕ, ◌+◌, ◌^◌, ◌≤◌, ◌<◌}
use native.Mathlib.Omega.{arith}
use mathlib.Core.Bool.{true, not}
use mathlib.Core.List.{List}
use mathlib.Core.Logic.{◌≢◌}
use mathlib.Core.Path.{◌≡◌, refl, ap, sym, ◌∙◌, subst}
use lib.Dec.{eqb}
use borrow.Author.Tests.{eqb-false, eq-eqb, ne_eqb}
use Rattle.model.specs.Functions.{upd, weigh}
use Rattle.model.specs.Sizes.{groups}
use Rattle.model.specs.Checks.{Pass, Answer}
use Rattle.model.specs.Tree.{Tree, Core, Group, at, Remnant, no_remnant, remnant, no_core, no_group, at_group, with_past, zombies, remains, cores, lives, parents, depths, places}
use Rattle.model.specs.Hierarchy.{amount, facts_of}
use Rattle.model.specs.Zombies.{path_parents, on_path}
use Rattle.model.specs.Calls.{remove, checks, verdict}
use Rattle.model.specs.Effects.{kept_if, charged, removed, effect}
use Rattle.model.specs.WellFormed.{WellFormed}
use Rattle.model.specs.declared.Resource.{Resource}
use Rattle.model.proofs.FunctionLaws.{whether, weigh-zero, upd_same, upd-map, upd-again}
use Rattle.model.proofs.RuleLaws.{NoChild}
use Rattle.model.proofs.AmountLaws.{amount-after-remove}
use Rattle.model.proofs.ZombieCounts.{path-counted, zombies-after-remove}
use Rattle.model.proofs.Steps.{passed, no-child, no-process, well-formed-effect}
use Rattle.tree.specs.Layout.{view, sum_in}
use Rattle.tree.specs.Changes.{Wrote, Cleared, AdjustedAt, own_set, group_gone, remnant_set}
use Rattle.tree.specs.Counters.{Countable}
use Rattle.tree.specs.Kept.{children, count_in, Kept, KeptAt}
use Rattle.tree.specs.Calling.{Applied}
use Rattle.tree.specs.declared.sum.Counter.{Counter}
use Rattle.tree.specs.declared.sum.Counter.TheVariants.{Of, Children, Members, Zombies}
use Rattle.tree.proofs.AdjustLaws.{sum-adjusted-at}
use Rattle.tree.proofs.KeptLaws.{parent-low, own-small, count_small, countable}
use Rattle.tree.proofs.CountLaws.{count-dead, child-counted, children-after-remove}
use Rattle.tree.proofs.CallLaws.{applied}

-- by whether zombies are counted
by-counter : (P : Counter → Type 0) (c : Counter) → (c ≢ Zombies → P c) → P Zombies → P c
by-counter P (Of r) f z = f (λ e. cc)
by-counter P Children f z = f (λ e. cc)
by-counter P Members f z = f (λ e. cc)
by-counter P Zombies f z = z

-- what the checks say where all pass
record Removable (t : Tree) (g : ℕ) : Type 0 where
  live : lives t g ≡ true
  nonroot : g ≢ 0
  childless : NoChild (lives t) (parents t) g
  empty : (p : ℕ) → places t p ≢ at g

removable : (t : Tree) (user g : ℕ) → WellFormed t → verdict t (remove user g) ≡ (Ok tt) → Removable t g
unfolding checks Pass
removable t user g w v =
    let k : Pass (checks (facts_of t) (remove user g)) = passed t (remove user g) v in
    record {
      live = (search);
      nonroot = eqb-false g 0 (search);
      childless = no-child t w g (search);
      empty = no-process t w g (search);
    }

module _ (xs : List ℕ) (k : Kept xs) (user g : ℕ) (o : ◌≡◌ {A = Answer} (Ok tt) (verdict (view xs) (remove user g))) where
  v : verdict (view xs) (remove user g) ≡ Ok tt
  v = sym o

  here : Removable (view xs) g
  here = removable (view xs) user g k.formed v

  pub group-low : g < groups
  group-low = k.formed.sound.range g here.live

  pub group-kept : KeptAt xs g
  group-kept = record { kept = k; live = here.live }

  -- its depth fits the word of what is left
  pub left-fits : (deep : ℕ) → deep ≡ depths (view xs) g → deep < groups
  left-fits deep e = omega (arith, e, k.formed.sound.shallow g here.live)

  -- The parent, found by the code.
  module _ (p : ℕ) (a : p ≡ parents (view xs) g) where
    pub parent-found : p < groups
    parent-found = parent-low xs k g p here.live a

    pub pages-fit : (m n : ℕ) → m ≡ ((view xs).group p).core.own → n ≡ ((view xs).group g).core.own → m + n < 2 ^ 64
    pages-fit m n b d =
        let l : lives (view xs) p ≡ true = rw a (k.formed.sound.above g here.live here.nonroot) in
        omega (arith, own-small xs k p l, own-small xs k g here.live)

  -- the parent with the pages, and the groups with that parent
  abbrev s : ℕ → Core
  s = cores (view xs)

  abbrev parent-after : Group
  parent-after = charged ((view xs).group g).core.own ((view xs).group (parents (view xs) g))

  abbrev groups-after : ℕ → Group
  groups-after = upd (view xs).group (parents (view xs) g) parent-after

  cores-after : cores (removed (view xs) g) ≡ upd (upd s (parents (view xs) g) parent-after.core) g no_core
  cores-after =
      upd-map (λ (x : Group). x.core) groups-after g no_group
      ∙ ap (λ f. upd f g no_core) (upd-map (λ (x : Group). x.core) (view xs).group (parents (view xs) g) parent-after)

  home : lives (view xs) (parents (view xs) g) ≡ true
  home = k.formed.sound.above g here.live here.nonroot

  amount-same : (r : Resource) (h : ℕ) → h ≢ g → amount (cores (removed (view xs) g)) (places (view xs)) r h ≡ amount s (places (view xs)) r h
  amount-same r h ne =
      ap (λ f. amount f (places (view xs)) r h) cores-after
      ∙ amount-after-remove s (places (view xs)) (depths (view xs)) k.formed.sound k.formed.placed g
      here.live here.nonroot here.childless here.empty r h ne

  formed-after : WellFormed (removed (view xs) g)
  unfolding effect
  formed-after = well-formed-effect (view xs) (remove user g) k.formed (passed (view xs) (remove user g) v)

  -- nothing is counted in a number that is not live, but zombies, who stay where they were
  count-removed : (c : Counter) → c ≢ Zombies → count_in (removed (view xs) g) c g ≡ 0
  count-removed c ne =
      count-dead (cores (removed (view xs) g)) (places (view xs)) (depths (removed (view xs) g)) formed-after.sound formed-after.placed
      (removed (view xs) g).past c g ne
      (ap (λ (x : Group). x.core.live) (upd_same groups-after g no_group))

  zombies-same : (a : ℕ) → count_in (removed (view xs) g) Zombies a ≡ count_in (view xs) Zombies a
  zombies-same a = zombies-after-remove (view xs) k.formed g here.live a

  pub remove-countable : (p m : ℕ) → p ≡ parents (view xs) g → m ≤ 1 → Countable xs Children p 0 m
  remove-countable p m e few =
      rw e
      (countable xs k (parents (view xs) g) home Children 0 m (omega arith)
      (omega (arith, child-counted s (places (view xs)) (depths (view xs)) k.formed.sound k.formed.placed g here.live here.nonroot)))

  count-above : (us : List ℕ) → AdjustedAt xs us Children (parents (view xs) g) 0 1 → (a : ℕ) → sum_in us Children a ≡ children (cores (removed (view xs) g)) a
  count-above us d a =
      let h : ℕ = parents (view xs) g in
      let less : children (upd (upd s h parent-after.core) g no_core) a + weigh (eqb h a) 1 ≡ children s a =
      children-after-remove s (places (view xs)) (depths (view xs)) k.formed.sound k.formed.placed g parent-after.core
      here.live here.nonroot (here.childless g here.live here.nonroot) refl refl a in
      omega (
        arith,
        sum-adjusted-at xs us Children h 0 1 d (remove-countable h 1 refl (omega arith)).enough a,
        weigh-zero (eqb h a),
        k.sums Children a,
        less,
        ap (λ f. children f a) cores-after,
      )

  counted : (us : List ℕ) → AdjustedAt xs us Children (parents (view xs) g) 0 1 → (c : Counter) (a : ℕ) → a ≢ g
      → sum_in us c a ≡ count_in (removed (view xs) g) c a
  counted us d (Of r) a ne = d.other (Of r) (λ e. cc) a ∙ k.sums (Of r) a ∙ sym (amount-same r a ne)
  counted us d Children a ne = count-above us d a
  counted us d Members a ne = d.other Members (λ e. cc) a ∙ k.sums Members a
  counted us d Zombies a ne = d.other Zombies (λ e. cc) a ∙ k.sums Zombies a ∙ sym (zombies-same a)

  -- The words after the row was cleared, where x zombies are inside; then what is left of the group.
  module _ (us zs ys : List ℕ) (p m n : ℕ) (a : p ≡ parents (view xs) g) (b : m ≡ ((view xs).group p).core.own) (d : n ≡ ((view xs).group g).core.own)
      (j : AdjustedAt xs us Children p 0 1) (w : Wrote us zs (own_set (view us) p (m + n))) (q : Cleared zs ys (group_gone (view zs) g) g)
      (x : ℕ) (e : x ≡ count_in (view xs) Zombies g) where
    abbrev pages : ℕ
    pages = ((view xs).group (parents (view xs) g)).core.own + ((view xs).group g).core.own

    stored : Wrote us zs (own_set (view xs) (parents (view xs) g) pages)
    stored = subst (λ (t : Tree). Wrote us zs (own_set t (parents (view xs) g) pages)) j.tree (rw (b, d, a) at w)

    -- the tree with that left of the group
    abbrev leaving : Remnant → Tree
    leaving r = remnant_set (at_group (own_set (view xs) (parents (view xs) g) pages) g no_group) g r

    bare : view ys ≡ leaving no_remnant
    bare = q.tree ∙ ap (λ (t : Tree). group_gone t g) stored.tree

    sum-other : (c : Counter) (y : ℕ) → y ≢ g → sum_in ys c y ≡ count_in (removed (view xs) g) c y
    sum-other c y ne = q.other c y ne ∙ stored.sums c y ∙ counted us (rw a at j) c y ne

    sum-here : (c : Counter) → c ≢ Zombies → sum_in ys c g ≡ count_in (removed (view xs) g) c g
    sum-here c ne = q.here c ∙ sym (count-removed c ne)

    on-path : on_path (view xs) g ≡ not (eqb x 0)
    on-path = sym (path-counted (path_parents (view xs)) (zombies (view xs)) g) ∙ ap (λ y. not (eqb y 0)) (sym e)

    left_as : (r : Remnant) → kept_if (not (eqb x 0)) (remnant (parents (view xs) g) (depths (view xs) g)) ≡ r → leaving r ≡ removed (view xs) g
    left_as r f = ap leaving (sym f ∙ ap (λ t. kept_if t (remnant (parents (view xs) g) (depths (view xs) g))) (sym on-path))

    pub applied-blank : x ≡ 0 → Applied xs ys (remove user g)
    unfolding effect
    applied-blank z =
        applied xs k (remove user g) v ys
        (record {
          long = q.long;
          tree = bare ∙ left_as no_remnant (rw (eq-eqb x 0 z));
          sums =
              λ c y.
              whether y g
              (λ f. rw f (by-counter (λ c. sum_in ys c g ≡ count_in (removed (view xs) g) c g) c (sum-here c) (q.here Zombies ∙ sym (zombies-same g ∙ sym e ∙ z))))
              (sum-other c y);
          spare = q.spare (stored.spare (j.spare k.spare));
        })

    -- the zombies fit their sum
    pub zombies-countable : (vs : List ℕ) (r : Remnant) → Wrote ys vs (remnant_set (view ys) g r) → Countable vs Zombies g x 0
    zombies-countable vs r l =
        let none : sum_in vs Zombies g ≡ 0 = l.sums Zombies g ∙ q.here Zombies in
        record {
          long = l.long;
          low = group-low;
          room = omega (arith, none, e, count_small (view xs) k.formed Zombies g);
          enough = omega arith;
        }

    pub applied-left : x ≢ 0 → (vs ws : List ℕ) (deep : ℕ) → deep ≡ depths (view xs) g → Wrote ys vs (remnant_set (view ys) g (remnant p deep))
        → AdjustedAt vs ws Zombies g x 0 → Applied xs ws (remove user g)
    unfolding effect
    applied-left nz vs ws deep f l h =
        let r : Remnant = remnant (parents (view xs) g) (depths (view xs) g) in
        let left : view vs ≡ leaving r =
        l.tree ∙ ap (λ (t : Tree). remnant_set t g (remnant p deep)) bare
        ∙ ap (λ (t : ℕ → Remnant). with_past (record { zombie = zombies (view xs); remains = t }) (leaving no_remnant))
        (upd-again (remains (view xs)) g no_remnant (remnant p deep) ∙ ap (upd (remains (view xs)) g) (λ i. remnant (a i) (f i))) in
        applied xs k (remove user g) v ws
        (record {
          long = h.long;
          tree = h.tree ∙ left ∙ left_as r (rw (ne_eqb x 0 nz));
          sums =
              λ c y.
              whether y g
              (λ t. rw t
              (by-counter (λ c. sum_in ws c g ≡ count_in (removed (view xs) g) c g) c
              (λ ne. h.other c ne g ∙ l.sums c g ∙ sum-here c ne)
              (h.here ∙ omega (arith, l.sums Zombies g, q.here Zombies) ∙ sym (zombies-same g ∙ sym e))))
              (λ ne. by-counter (λ c. sum_in ws c y ≡ sum_in vs c y) c (λ nc. h.other c nc y) (h.elsewhere y ne) ∙ l.sums c y ∙ sum-other c y ne);
          spare = h.spare (l.spare (q.spare (stored.spare (j.spare k.spare))));
        })
