-- How many zombies ended inside a group: not 0 exactly on a zombie's path, and the same along other parents that are the same on every
-- path, as after a group is made or removed and after a zombie is collected. Assumes nothing.
use Prim.Native.Nat.{ℕ, ◌+◌, ◌<◌}
use native.Mathlib.Omega.{arith}
use mathlib.Core.Bool.{true, false, not}
use mathlib.Core.Logic.{◌⊎◌, inl, inr}
use mathlib.Core.Path.{◌≡◌, refl, ap, sym, ◌∙◌}
use lib.Dec.{eqb}
use Rattle.model.specs.Functions.{pick, upd, weigh}
use Rattle.model.specs.Sizes.{processes}
use Rattle.model.specs.Tree.{Tree, Group, Place, nowhere, at, no_group, remnant, group_of, lives, parents, depths, zombies, remains, at_group, with_past, Remnant}
use Rattle.model.specs.Hierarchy.{inside, held, headcount, standing}
use Rattle.model.specs.Zombies.{is_zombie, remnant_parent, path_parents, runs_through, on_path_in, on_path, group_taken}
use Rattle.model.specs.Effects.{kept_if, charged, removed, past_collect}
use Rattle.model.specs.WellFormed.{WellFormed}
use Rattle.model.proofs.FunctionLaws.{whether, clash, or_right, any-counted, upd_same, upd_other, upd-keeps, weigh-no, weigh-zero}
use Rattle.model.proofs.ChainLaws.{inside-same}
use Rattle.model.proofs.HeldLaws.{held_same}
use Rattle.model.proofs.AmountLaws.{standing-change}
use Rattle.model.proofs.ZombieLaws.{zombie-place, or-live, path-has}

-- a zombie counts one where its path runs through
runs-weigh : (up : ℕ → ℕ) (g : ℕ) (l : Place) → weigh (inside up g (group_of l)) (headcount l) ≡ weigh (runs_through up g l) 1
runs-weigh up g nowhere = weigh-zero _ ∙ sym (weigh-no false 1 refl)
runs-weigh up g (at h) = refl

pub path-counted : (up : ℕ → ℕ) (zombie : ℕ → Place) (g : ℕ) → not (eqb (standing up zombie g) 0) ≡ on_path_in up zombie g
unfolding on_path_in held
path-counted up zombie g = any-counted processes (λ p. runs_through up g (zombie p)) _ (λ p. runs-weigh up g (zombie p))

pub standing-same : (up up' : ℕ → ℕ) (zombie : ℕ → Place) → ((x : ℕ) → on_path_in up zombie x ≡ true → up x ≡ up' x) → (a : ℕ)
    → standing up zombie a ≡ standing up' zombie a
standing-same up up' zombie k a = held_same up up' processes _ _ a (λ p l. alike (zombie p) refl l)
  where
    alike : {p : ℕ} (l : Place) → zombie p ≡ l → p < processes → (headcount l ≡ 0) ⊎ (inside up a (group_of l) ≡ inside up' a (group_of l))
    alike nowhere e low = inl refl
    alike {p} (at h) e low = inr (inside-same up up' a h (λ x i. k x (path-has up zombie x p h low e i)))

module _ (t : Tree) (w : WellFormed t) where
  -- a zombie's path is that of no group that is made
  pub zombies-after-make : (v : Group) (new : ℕ) → group_taken t new ≡ false → (a : ℕ)
      → standing (path_parents (at_group t new v)) (zombies t) a ≡ standing (path_parents t) (zombies t) a
  zombies-after-make v new free a =
      sym (standing-same (path_parents t) (path_parents (at_group t new v)) (zombies t)
      (λ x i. whether x new
      (λ e. clash (group_taken t new) (or_right (lives t new) _ (rw e at i)) free)
      (λ ne. ap (λ (u : Group). pick u.core.live u.core.parent (remnant_parent (remains t x))) (sym (upd_other t.group new v x ne))))
      a)

  -- and what is left of a group that is removed has the same parent
  module _ (g : ℕ) (l : lives t g ≡ true) where
    abbrev heir : Group
    heir = charged (t.group g).core.own (t.group (parents t g))

    abbrev groups-after : ℕ → Group
    groups-after = upd t.group (parents t g) heir

    abbrev left : Remnant
    left = kept_if (on_path t g) (remnant (parents t g) (depths t g))

    parent-left : on_path t g ≡ true → path_parents t g ≡ path_parents (removed t g) g
    parent-left i =
        let after : path_parents (removed t g) g ≡ parents t g =
        ap (λ (v : Group). pick v.core.live v.core.parent (remnant_parent (upd (remains t) g left g))) (upd_same groups-after g no_group)
        ∙ ap remnant_parent (upd_same (remains t) g left)
        ∙ ap (λ b. remnant_parent (kept_if b (remnant (parents t g) (depths t g)))) i in
        or-live (lives t) (remains t) g remnant_parent (parents t) l ∙ sym after

    pub parent-same : (x : ℕ) → on_path t x ≡ true → path_parents t x ≡ path_parents (removed t g) x
    parent-same x i =
        whether x g
        (λ e. rw e (parent-left (rw e at i)))
        (λ ne.
        let gone = upd_other groups-after g no_group x ne in
        let live = ap (λ (v : Group). v.core.live) gone ∙ upd-keeps (λ (v : Group). v.core.live) t.group (parents t g) heir refl x in
        let parent = ap (λ (v : Group). v.core.parent) gone ∙ upd-keeps (λ (v : Group). v.core.parent) t.group (parents t g) heir refl x in
        let after : path_parents (removed t g) x ≡ path_parents t x =
        (λ j. pick (live j) (parent j) (remnant_parent (upd_other (remains t) g left x ne j))) in
        sym after)

    pub zombies-after-remove : (a : ℕ) → standing (path_parents (removed t g)) (zombies t) a ≡ standing (path_parents t) (zombies t) a
    zombies-after-remove a = sym (standing-same (path_parents t) (path_parents (removed t g)) (zombies t) parent-same a)

  -- one zombie less where its path runs, and the other paths stay
  module _ (p : ℕ) (z : is_zombie (zombies t p) ≡ true) where
    abbrev others : ℕ → Place
    others = upd (zombies t) p nowhere

    pub zombies-without : (a : ℕ)
        → standing (path_parents t) others a + weigh (inside (path_parents t) a (group_of (zombies t p))) 1 ≡ standing (path_parents t) (zombies t) a
    zombies-without a =
        let e : zombies t p ≡ at (group_of (zombies t p)) = zombie-place (zombies t p) z in
        let low : p < processes = w.past.ended.range p _ e in
        omega (
          arith,
          standing-change (path_parents t) (zombies t) p nowhere a low,
          weigh-zero (inside (path_parents t) a 0),
          ap (λ (l : Place). weigh (inside (path_parents t) a (group_of (zombies t p))) (headcount l)) e,
        )

    pub zombies-after-collect : (a : ℕ)
        → standing (path_parents (with_past (past_collect t p) t)) others a ≡ standing (path_parents t) others a
    zombies-after-collect a =
        sym (standing-same (path_parents t) (path_parents (with_past (past_collect t p) t)) others
        (λ x i.
        let same : kept_if (on_path_in (path_parents t) others x) (remains t x) ≡ remains t x = ap (λ b. kept_if b (remains t x)) i in
        ap (λ (v : Remnant). pick (lives t x) (parents t x) (remnant_parent v)) (sym same))
        a)
