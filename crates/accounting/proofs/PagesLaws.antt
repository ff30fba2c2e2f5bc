-- Own pages and running sums changed together: after n pages more and m less in one group the sums above it are the usage.
-- Once for what comes and what goes. Assumes nothing.
use Rattle.std.specs.Prelude.{Ok}
use Prim.Native.Nat.{ℕ, ◌+◌, ◌-◌, ◌≤◌, ◌<◌}
use native.Mathlib.Omega.{arith}
use mathlib.Core.Bool.{Bool}
use mathlib.Core.List.{List}
use mathlib.Core.Path.{◌≡◌, refl, ap, sym, ◌∙◌}
use Rattle.model.specs.Functions.{upd, weigh}
use Rattle.model.specs.Sizes.{groups, largest_charge}
use Rattle.model.specs.Tree.{Tree, Core, Group, with_own, with_core, cores, parents, places}
use Rattle.model.specs.Hierarchy.{inside, usage}
use Rattle.model.specs.Calls.{Call, verdict}
use Rattle.model.specs.Effects.{effect}
use Rattle.model.specs.declared.Resource.TheVariants.{Pages, Processes}
use Rattle.model.proofs.FunctionLaws.{upd-keeps, upd-map}
use Rattle.model.proofs.AmountLaws.{usage-after-adjust, population-same, own-within-usage}
use Rattle.tree.specs.Layout.{view, sum_in}
use Rattle.tree.specs.Changes.{Wrote, Adjusted}
use Rattle.tree.specs.Counters.{Adjustable}
use Rattle.tree.specs.Kept.{count_in, Settled, Kept, KeptAt}
use Rattle.tree.specs.Calling.{Applied}
use Rattle.tree.specs.declared.sum.Counter.{Counter}
use Rattle.tree.specs.declared.sum.Counter.TheVariants.{Of, Children, Members, Zombies}
use Rattle.tree.proofs.KeptLaws.{own-small, adjustable}
use Rattle.tree.proofs.CountLaws.{children-same, zombies-same}
use Rattle.tree.proofs.RoomCallLaws.{sum-after-adjust}
use Rattle.tree.proofs.CallLaws.{applied-as}
use Rattle.accounting.specs.Pages.{pages_set, OwnAdjustable}

-- n pages more and m less fit a live group
pub record PagesAdjustable (xs : List ℕ) (g n m : ℕ) : Type 0 where
  pub home : KeptAt xs g
  pub few : n ≤ largest_charge
  pub enough : m ≤ ((view xs).group g).core.own

-- the words stand for the tree with n own pages of g more and m less
abbrev pub PagesAdjusted : List ℕ → List ℕ → ℕ → ℕ → ℕ → Type 0
PagesAdjusted xs ys g n m = Settled ys (pages_set (view xs) g n m)

module _ (xs : List ℕ) (g n m : ℕ) (p : PagesAdjustable xs g n m) where
  group-low : g < groups
  group-low = p.home.kept.formed.sound.range g p.home.live

  pub sums-adjustable : Adjustable xs (Of Pages) g n m
  sums-adjustable =
      adjustable xs p.home.kept g p.home.live (Of Pages) n m p.few
      (λ a on. omega (arith, own-within-usage (cores (view xs)) a g group-low p.home.live on, p.enough))

  -- the sums first
  module _ (ys : List ℕ) (adjusted : Adjusted xs ys (Of Pages) g n m) where
    pub own-adjustable : OwnAdjustable ys g n m
    own-adjustable =
        let same : ((view ys).group g).core.own ≡ ((view xs).group g).core.own = ap (λ (t : Tree). (t.group g).core.own) adjusted.tree in
        record {
          row = record { long = adjusted.long; low = group-low };
          fits = omega (arith, same, own-small xs p.home.kept g p.home.live, p.few);
          enough = omega (arith, same, p.enough);
        }

  -- then the own pages
  module _ (ys zs : List ℕ) (adjusted : Adjusted xs ys (Of Pages) g n m) (wrote : Wrote ys zs (pages_set (view ys) g n m)) where
    pages-tree : view zs ≡ pages_set (view xs) g n m
    pages-tree = wrote.tree ∙ ap (λ (t : Tree). pages_set t g n m) adjusted.tree

    kept_by : {A : Type 0} (F : Group → A) → F (with_core (with_own (((view xs).group g).core.own + n - m) ((view xs).group g).core) ((view xs).group g)) ≡ F ((view xs).group g)
        → (a : ℕ) → F ((pages_set (view xs) g n m).group a) ≡ F ((view xs).group a)
    kept_by F e = upd-keeps F (view xs).group g _ e

    sums-after : (c : Counter) (a : ℕ) → sum_in zs c a ≡ count_in (pages_set (view xs) g n m) c a
    sums-after (Of Pages) a =
        let s : ℕ → Core = cores (view xs) in
        let after : ℕ → Core = upd s g (with_own ((s g).own + n - m) (s g)) in
        let b : Bool = inside (parents (view xs)) a g in
        let u : usage after a + weigh b m ≡ sum_in xs (Of Pages) a + weigh b n =
        rw (p.home.kept.sums (Of Pages) a)
        (usage-after-adjust s g n m group-low p.home.live (omega (arith, p.enough)) a) in
        let same : sum_in ys (Of Pages) a ≡ usage after a =
        omega (arith, sum-after-adjust xs ys g (Of Pages) n m adjusted sums-adjustable.enough a, u) in
        wrote.sums (Of Pages) a ∙ same
        ∙ ap (λ (k : ℕ → Core). usage k a) (sym (upd-map (λ (x : Group). x.core) (view xs).group g _))
    sums-after (Of Processes) a =
        wrote.sums (Of Processes) a ∙ adjusted.other (Of Processes) (λ e. cc) a
        ∙ p.home.kept.sums (Of Processes) a
        ∙ sym (population-same (cores (view xs)) (cores (pages_set (view xs) g n m)) (places (view xs)) (kept_by (λ x. x.core.parent) refl) a)
    sums-after Members a =
        wrote.sums Members a ∙ adjusted.other Members (λ e. cc) a ∙ p.home.kept.sums Members a
    sums-after Zombies a =
        wrote.sums Zombies a ∙ adjusted.other Zombies (λ e. cc) a
        ∙ p.home.kept.sums Zombies a
        ∙ sym (zombies-same (cores (view xs)) (cores (pages_set (view xs) g n m)) (view xs).past (kept_by (λ x. x.core.parent) refl) (kept_by (λ x. x.core.live) refl) a)
    sums-after Children a =
        wrote.sums Children a ∙ adjusted.other Children (λ e. cc) a
        ∙ p.home.kept.sums Children a
        ∙ sym (children-same (cores (view xs)) (cores (pages_set (view xs) g n m)) (kept_by (λ x. x.core.parent) refl) (kept_by (λ x. x.core.live) refl) a)

    pub pages-adjusted : PagesAdjusted xs zs g n m
    pages-adjusted =
        record { long = wrote.long; tree = pages-tree; sums = sums-after; spare = wrote.spare (adjusted.spare p.home.kept.spare) }

-- An accepted call whose effect is such a change.
pub applied-pages : (xs ys : List ℕ) (c : Call) (g n m : ℕ) → Kept xs → verdict (view xs) c ≡ (Ok tt) → PagesAdjusted xs ys g n m
    → effect (view xs) c ≡ pages_set (view xs) g n m → Applied xs ys c
applied-pages xs ys c g n m k v p e =
    applied-as xs k c v ys (pages_set (view xs) g n m) e p
