-- A well-formed tree stays well formed when a control set is written and its children's settings are reset. Assumes nothing.
use Prim.Native.Nat.{ℕ}
use mathlib.Core.Bool.{Bool, true, false, not, ◌&&◌}
use mathlib.Core.Logic.{◌≢◌}
use mathlib.Core.Path.{◌≡◌, refl, ap, sym, ◌∙◌, fun_ext}
use lib.Dec.{eqb}
use borrow.Author.Tests.{eqb-true, eqb-false, eq-eqb, ne_eqb, not-true}
use Rattle.model.specs.Functions.{upd}
use Rattle.model.specs.Tree.{Tree, Core, Group, at, Controls, Settings, settings_of, with_settings, with_set, cores, lives, parents, owners, sets, settings_at, places}
use Rattle.model.specs.Hierarchy.{child_of, own_pages, amount}
use Rattle.model.specs.Settings.{AtDefault, reset}
use Rattle.model.specs.WellFormed.{Defaults, WellFormed}
use Rattle.model.specs.Effects.{reset_child, controlled}
use Rattle.model.specs.declared.Resource.{Resource}
use Rattle.model.specs.declared.Resource.TheVariants.{Pages}
use Rattle.model.specs.declared.Controller.{Controller}
use Rattle.model.proofs.FunctionLaws.{split, whether, clash, and_left, and_right, upd_same, upd_other, upd-map, upd-keeps}
use Rattle.model.proofs.AmountLaws.{amount-same}
use Rattle.model.proofs.RuleLaws.{sound-eq, placed-eq, top-down-eq, defaults-eq, ranges-eq, quiet-eq, top-down-after-control, quiet-after-set, on-other}
use Rattle.model.proofs.Remembering.{remembered-eq}
use Rattle.model.proofs.PieceLaws.{default-of-reset, default-after-reset}
use Rattle.model.proofs.AllowedLaws.{allowed-after-reset}

-- A live child is live, is not the root, and has g for its parent.
module _ (g k : ℕ) (c : Core) where
  pub child-of : c.live ≡ true → k ≢ 0 → c.parent ≡ g → child_of g k c ≡ true
  child-of l nz e = rw (l, ne_eqb k 0 nz) (eq-eqb c.parent g e)

  module _ (h : child_of g k c ≡ true) where
    pub child-live : c.live ≡ true
    child-live = and_left c.live _ h

    pub child-not-root : k ≢ 0
    child-not-root = eqb-false k 0 (not-true (eqb k 0) (and_left (not (eqb k 0)) _ (and_right c.live _ h)))

    pub child-parent : c.parent ≡ g
    child-parent = eqb-true c.parent g (and_right (not (eqb k 0)) _ (and_right c.live _ h))

-- Reset is for children only.
module _ (t : Tree) (g : ℕ) (gone : Controls) (k : ℕ) (v : Group) where
  pub reset-child : child_of g k (cores t k) ≡ true → reset_child t g gone k v ≡ with_settings (reset gone (settings_of v)) v
  reset-child y = rw (y, reset_child)

  pub reset-other : child_of g k (cores t k) ≡ false → reset_child t g gone k v ≡ v
  reset-other n = rw (n, reset_child)

-- what a control line does to the set of g and the settings of its children
pub record Control (t : Tree) (g : ℕ) (set gone : Controls) : Type 0 where
  pub alive : lives t g ≡ true
  pub available : (c : Controller) → set c ≡ true → g ≢ 0 → sets t (parents t g) c ≡ true
  pub kept : (c : Controller) (k : ℕ) → lives t k ≡ true → k ≢ 0 → parents t k ≡ g → sets t k c ≡ true → set c ≡ true
  pub quiet : (p : ℕ) → places t p ≡ at g → g ≢ 0 → (c : Controller) → set c ≡ false
  pub reset : (c : Controller) → sets t g c ≡ true → set c ≡ false → gone c ≡ true

module _ (t : Tree) (g : ℕ) (set gone : Controls) where
  -- a part of a group that holds no settings
  part-controlled : {A : Type 0} (F : Group → A) → ((s : Settings) (v : Group) → F (with_settings s v) ≡ F v) → (k : ℕ)
      → F ((controlled t g set gone).group k) ≡ F (upd t.group g (with_set set (t.group g)) k)
  part-controlled F e k =
      split (child_of g k (cores t k)) (λ y. ap F (reset-child t g gone k _ y) ∙ e _ _) (λ n. ap F (reset-other t g gone k _ n))

  pub part-kept : {A : Type 0} (F : Group → A) → ((s : Settings) (v : Group) → F (with_settings s v) ≡ F v) → F (with_set set (t.group g)) ≡ F (t.group g)
      → ◌≡◌ {A = ℕ → A} (λ k. F ((controlled t g set gone).group k)) (λ k. F (t.group k))
  part-kept F e f = fun_ext (λ k. part-controlled F e k ∙ upd-keeps F t.group g _ f k)

  pub live-after-control : lives (controlled t g set gone) ≡ lives t
  live-after-control = part-kept (λ x. x.core.live) (λ _ _. refl) refl

  pub parent-after-control : parents (controlled t g set gone) ≡ parents t
  parent-after-control = part-kept (λ x. x.core.parent) (λ _ _. refl) refl

  pub owner-after-control : owners (controlled t g set gone) ≡ owners t
  owner-after-control = part-kept (λ x. x.owner) (λ _ _. refl) refl

  own-after-control : (k : ℕ) → own_pages (cores (controlled t g set gone) k) ≡ own_pages (cores t k)
  own-after-control k = ap (λ f. f k) (part-kept (λ x. own_pages x.core) (λ _ _. refl) refl)

  pub amount-after-control : (r : Resource) (a : ℕ)
      → amount (cores (controlled t g set gone)) (places t) r a ≡ amount (cores t) (places t) r a
  amount-after-control =
      amount-same (cores t) (cores (controlled t g set gone)) (places t) (λ k. ap (λ f. f k) parent-after-control) own-after-control

  pub set-after-control : sets (controlled t g set gone) ≡ upd (sets t) g set
  set-after-control = fun_ext (part-controlled (λ x. x.set) (λ _ _. refl)) ∙ upd-map (λ x. x.set) t.group g _

  -- a child's settings are reset, all others stay
  pub setting-after-control : (k : ℕ) → child_of g k (cores t k) ≡ true
      → settings_at (controlled t g set gone) k ≡ reset gone (settings_at t k)
  setting-after-control k y = ap settings_of (reset-child t g gone k _ y) ∙ ap (reset gone) (upd-keeps settings_of t.group g _ refl k)

  pub setting-after-control-other : (k : ℕ) → child_of g k (cores t k) ≡ false → settings_at (controlled t g set gone) k ≡ settings_at t k
  setting-after-control-other k n = ap settings_of (reset-other t g gone k _ n) ∙ upd-keeps settings_of t.group g _ refl k

  module _ (w : WellFormed t) (q : Control t g set gone) where
    -- by whether the controller was in the set before
    default-in-child : (c : Controller) (k : ℕ) → lives t k ≡ true → k ≢ 0 → parents t k ≡ g → set c ≡ false → AtDefault c (settings_at (controlled t g set gone) k)
    default-in-child c k l nz e o =
        rw (setting-after-control k (child-of g k (cores t k) l nz e))
        (split (sets t g c)
        (λ y. default-of-reset gone c (settings_at t k) (q.reset c y o))
        (λ n. default-after-reset gone c (settings_at t k) (w.defaults.off c k l (on-other (parents t) (sets t) c k nz ∙ rw e n))))

    defaults-after-control : Defaults (lives t) (parents t) (upd (sets t) g set) (settings_at (controlled t g set gone))
    defaults-after-control =
        record {
          off = λ c k l o.
              whether k 0
              (λ z. rw (setting-after-control-other k (rw z (root-no-child (lives t 0) (parents t 0)))) (w.defaults.off c k l (rw z)))
              (λ nz. let o' : upd (sets t) g set (parents t k) c ≡ false = sym (on-other (parents t) (upd (sets t) g set) c k nz) ∙ o in
              whether (parents t k) g
              (λ e. default-in-child c k l nz e (rw (e, upd_same) at o'))
              (λ ne. rw (setting-after-control-other k (no-child-of k l nz ne))
              (w.defaults.off c k l (on-other (parents t) (sets t) c k nz ∙ rw (upd_other (sets t) g set (parents t k) ne) at o'))));
        }
      where
        root-no-child : (l : Bool) (p : ℕ) → (l && (false && eqb p g)) ≡ false
        root-no-child true p = refl
        root-no-child false p = refl

        no-child-of : (k : ℕ) → lives t k ≡ true → k ≢ 0 → parents t k ≢ g → child_of g k (cores t k) ≡ false
        no-child-of k l nz ne = rw (l, ne_eqb k 0 nz) (ne_eqb (parents t k) g ne)

    pub well-formed-after-control : WellFormed (controlled t g set gone)
    well-formed-after-control =
        record {
          sound = sound-eq live-after-control parent-after-control (part-kept (λ x. x.depth) (λ _ _. refl) refl) w.sound;
          placed = placed-eq live-after-control refl w.placed;
          top_down =
              top-down-eq live-after-control parent-after-control set-after-control
              (top-down-after-control w.sound g set w.top_down q.available q.kept);
          defaults = defaults-eq live-after-control parent-after-control set-after-control refl defaults-after-control;
          ranges =
              ranges-eq live-after-control refl
              (record {
                within = λ k l.
                    split (child_of g k (cores t k))
                    (λ y. rw (setting-after-control k y) (allowed-after-reset gone (settings_at t k) (w.ranges.within k l)))
                    (λ n. rw (setting-after-control-other k n) (w.ranges.within k l));
              });
          quiet = quiet-eq refl set-after-control (quiet-after-set g set w.quiet q.quiet);
          blank =
              record {
                free_group = λ k d.
                    let dead : lives t k ≡ false = sym (ap (λ f. f k) live-after-control) ∙ d in
                    let n : child_of g k (cores t k) ≡ false = split (child_of g k (cores t k)) (λ y. clash (lives t k) (child-live g k (cores t k) y) dead) (λ n. n) in
                    reset-other t g gone k _ n ∙ upd_other t.group g _ k (λ e. clash (lives t k) (rw e q.alive) dead)
                    ∙ w.blank.free_group k dead;
                free_process = w.blank.free_process;
              };
          past = remembered-eq live-after-control parent-after-control (part-kept (λ x. x.depth) (λ _ _. refl) refl) refl w.past;
          owned = ap (λ f. f 0) owner-after-control ∙ w.owned;
          sized = record { size = w.sized.size; fits = rw (amount-after-control Pages 0) w.sized.fits };
        }
