-- A well-formed tree stays well formed under each kind of change that a call makes: a group changed in place, a process put
-- somewhere, what is kept of the dead changed, a group made, a group removed, a control set written. Assumes nothing.
use Prim.Native.Nat.{ℕ, suc, ◌+◌, ◌≤◌, ◌<◌}
use native.Mathlib.Omega.{arith}
use mathlib.Core.Bool.{Bool, true, false}
use mathlib.Core.Logic.{◌≢◌, inl, inr}
use mathlib.Core.Path.{◌≡◌, refl, ap, sym, ◌∙◌, fun_ext}
use Rattle.model.specs.Functions.{upd, weigh}
use Rattle.model.specs.Sizes.{groups, processes, deepest}
use Rattle.model.specs.Tree.{Tree, Group, Process, nowhere, at, settings_of, no_core, no_controls, no_group, no_process, is_live, Past, no_remnant, with_past, new_group, at_group, at_process, cores, lives, parents, depths, owners, sets, settings_at, places, zombies, remains}
use Rattle.model.specs.Hierarchy.{on_in, inside, own_pages, usage}
use Rattle.model.specs.Settings.{AtDefault, Allowed}
use Rattle.model.specs.WellFormed.{Remembered, WellFormed}
use Rattle.model.specs.Effects.{charged, removed}
use Rattle.model.specs.declared.Controller.{Controller}
use Rattle.model.specs.declared.Resource.TheVariants.{Pages}
use Rattle.model.proofs.FunctionLaws.{whether, clash, upd_same, upd_other, upd-map, upd-keeps, upd-all, weigh-yes}
use Rattle.model.proofs.AmountLaws.{usage-change, amount-after-make, amount-after-remove}
use Rattle.model.proofs.RuleLaws.{NoChild, sound-eq, placed-eq, top-down-eq, defaults-eq, ranges-eq, quiet-eq, sound-after-make, placed-after-make, top-down-after-make, sound-after-remove, placed-after-remove, top-down-after-remove, placed-after-put, quiet-after-put, quiet-after-set, ranges-after-put, ranges-live, defaults-frame, defaults-after-put}
use Rattle.model.proofs.Remembering.{remembered-eq, remembered-after-put, remembered-after-make, remembered-after-remove}

-- what may change in a live group without a change to the hierarchy
pub record Patch (t : Tree) (g : ℕ) (v : Group) : Type 0 where
  pub alive : lives t g ≡ true
  pub live : v.core.live ≡ true
  pub parent : v.core.parent ≡ parents t g
  pub depth : v.depth ≡ depths t g
  pub set : v.set ≡ sets t g
  pub owner : g ≡ 0 → v.owner ≡ 0
  pub defaults : (c : Controller) → on_in (parents t) (sets t) c g ≡ false → AtDefault c (settings_of v)
  pub ranges : Allowed (settings_of v)

-- usage after it: own pages before it and after it, in every group that it is inside
pub usage-after-patch : (t : Tree) → WellFormed t → (g : ℕ) (v : Group) → Patch t g v → (a : ℕ)
    → usage (cores (at_group t g v)) a + weigh (inside (parents t) a g) (t.group g).core.own
    ≡ usage (cores t) a + weigh (inside (parents t) a g) v.core.own
usage-after-patch t w g v k a =
    let b : Bool = inside (parents t) a g in
    let old : weigh b (own_pages (cores t g)) ≡ weigh b (t.group g).core.own = ap (weigh b) (weigh-yes _ _ k.alive) in
    let new : weigh b (own_pages v.core) ≡ weigh b v.core.own = ap (weigh b) (weigh-yes _ _ k.live) in
    omega (
      arith,
      ap (λ s. usage s a) (upd-map (λ x. x.core) t.group g v),
      usage-change (cores t) g v.core (w.sound.range g k.alive) k.parent a,
    )

pub cores-after-remove : (t : Tree) (g : ℕ)
    → cores (removed t g) ≡ upd (upd (cores t) (parents t g) (charged (t.group g).core.own (t.group (parents t g))).core) g no_core
cores-after-remove t g =
    upd-map (λ x. x.core) (upd t.group (parents t g) _) g no_group
    ∙ ap (λ f. upd f g no_core) (upd-map (λ x. x.core) t.group (parents t g) _)

-- a part of a group that holds no pages
pub part-after-remove : {A : Type 0} (t : Tree) (g : ℕ) (F : Group → A)
    → F (charged (t.group g).core.own (t.group (parents t g))) ≡ F (t.group (parents t g))
    → ◌≡◌ {A = ℕ → A} (λ j. F ((removed t g).group j)) (upd (λ j. F (t.group j)) g (F no_group))
part-after-remove t g F e =
    upd-map F (upd t.group (parents t g) _) g no_group
    ∙ ap (λ f. upd f g (F no_group)) (fun_ext (upd-keeps F t.group (parents t g) _ e))

module _ (t : Tree) (w : WellFormed t) where
  -- A group changed in place.
  module _ (g : ℕ) (v : Group) (k : Patch t g v) where
    part_same : {A : Type 0} (F : Group → A) → F v ≡ F (t.group g) → ◌≡◌ {A = ℕ → A} (λ j. F (upd t.group g v j)) (λ j. F (t.group j))
    part_same F e = fun_ext (upd-keeps F t.group g v e)

    same_live : lives (at_group t g v) ≡ lives t
    same_live = part_same (λ x. x.core.live) (k.live ∙ sym k.alive)

    same-parent : parents (at_group t g v) ≡ parents t
    same-parent = part_same (λ x. x.core.parent) k.parent

    same_set : sets (at_group t g v) ≡ sets t
    same_set = part_same (λ x. x.set) k.set

    pub well-formed-after-patch : usage (cores (at_group t g v)) 0 ≤ t.machine → WellFormed (at_group t g v)
    well-formed-after-patch fits =
        record {
          sound = sound-eq same_live same-parent (part_same (λ x. x.depth) k.depth) w.sound;
          placed = placed-eq same_live refl w.placed;
          top_down = top-down-eq same_live same-parent same_set w.top_down;
          defaults =
              defaults-eq same_live same-parent same_set (upd-map settings_of t.group g v)
              (defaults-after-put w.defaults g (settings_of v) k.defaults);
          ranges = ranges-eq same_live (upd-map settings_of t.group g v) (ranges-after-put g (settings_of v) w.ranges k.ranges);
          quiet = quiet-eq refl same_set w.quiet;
          blank =
              record {
                free_group =
                    upd-all (λ j x. x.core.live ≡ false → x ≡ no_group) t.group g v
                    (λ d. clash v.core.live k.live d) (λ j _. w.blank.free_group j);
                free_process = w.blank.free_process;
              };
          past = remembered-eq same_live same-parent (part_same (λ x. x.depth) k.depth) refl w.past;
          owned = upd-all (λ j x. j ≡ 0 → x.owner ≡ 0) t.group g v k.owner (λ j _ z. rw z w.owned) 0 refl;
          sized = record { size = w.sized.size; fits = fits };
        }

  -- A process put somewhere, or nowhere.
  pub well-formed-after-place : (p : ℕ) (v : Process) → p ≢ 0
      → ((h : ℕ) → v.place ≡ at h → (lives t h ≡ true) × (p < processes))
      → ((h : ℕ) → v.place ≡ at h → h ≢ 0 → (c : Controller) → sets t h c ≡ false)
      → (is_live v.place ≡ false → v ≡ no_process)
      → (is_live v.place ≡ true → zombies t p ≡ nowhere)
      → WellFormed (at_process t p v)
  well-formed-after-place p v pz h q n z =
      let e : places (at_process t p v) ≡ upd (places t) p v.place = upd-map (λ x. x.place) t.process p v in
      record {
        sound = w.sound;
        placed = placed-eq refl e (placed-after-put p v.place w.placed pz h);
        top_down = w.top_down;
        defaults = w.defaults;
        ranges = w.ranges;
        quiet = quiet-eq e refl (quiet-after-put p v.place w.quiet q);
        blank =
            record {
              free_group = w.blank.free_group;
              free_process = upd-all (λ j x. is_live x.place ≡ false → x ≡ no_process) t.process p v n (λ j _. w.blank.free_process j);
            };
        past = remembered-eq refl refl refl e (remembered-after-put w.sound w.past p v.place z);
        owned = w.owned;
        sized = w.sized;
      }

  -- Only the rule of the dead asks what is kept of them.
  pub well-formed-after-past : (d : Past) → Remembered (lives t) (parents t) (depths t) (places t) d → WellFormed (with_past d t)
  well-formed-after-past d m =
      record {
        sound = w.sound;
        placed = w.placed;
        top_down = w.top_down;
        defaults = w.defaults;
        ranges = w.ranges;
        quiet = w.quiet;
        blank = w.blank;
        past = m;
        owned = w.owned;
        sized = w.sized;
      }

  -- A group made.
  module _ (p new user : ℕ) (lp : lives t p ≡ true) (ln : lives t new ≡ false) (blank : remains t new ≡ no_remnant) where
    abbrev made : Group
    made = new_group p (suc (depths t p)) user

    part-made : {A : Type 0} (F : Group → A) → ◌≡◌ {A = ℕ → A} (λ j. F (upd t.group new made j)) (upd (λ j. F (t.group j)) new (F made))
    part-made F = upd-map F t.group new made

    not_new : (x : ℕ) → lives t x ≡ true → x ≢ new
    not_new x l e = clash (lives t x) l (rw e ln)

    pub well-formed-after-make : new < groups → depths t p < deepest
        → ((c : Controller) → AtDefault c (settings_of made)) → Allowed (settings_of made)
        → WellFormed (at_group t new made)
    well-formed-after-make r d at_default in-range =
        record {
          sound =
              sound-eq (part-made (λ x. x.core.live)) (part-made (λ x. x.core.parent)) (part-made (λ x. x.depth))
              (sound-after-make w.sound new p lp ln r d);
          placed = placed-eq (part-made (λ x. x.core.live)) refl (placed-after-make w.sound new p lp ln w.placed);
          top_down =
              top-down-eq (part-made (λ x. x.core.live)) (part-made (λ x. x.core.parent)) (part-made (λ x. x.set))
              (top-down-after-make w.sound new p lp ln w.top_down);
          defaults =
              defaults-eq (part-made (λ x. x.core.live)) (part-made (λ x. x.core.parent)) (part-made (λ x. x.set)) (part-made settings_of)
              (defaults-frame w.defaults _ _ _ _
              (λ c g l. whether g new
              (λ e. inl (rw (e, upd_same) (at_default c)))
              (λ ne. let k : lives t g ≡ true = rw (upd_other (lives t) new true g ne) at l in
              inr (k, (λ nz. rw (upd_other (parents t) new p g ne, upd_other (sets t) new no_controls (parents t g) (not_new _ (w.sound.above g k nz)))), upd_other (settings_at t) new (settings_of made) g ne))));
          ranges =
              ranges-eq (part-made (λ x. x.core.live)) (part-made settings_of)
              (ranges-live (ranges-after-put new (settings_of made) w.ranges in-range)
              (λ g l. whether g new
              (λ e. inr (rw (e, upd_same) in-range))
              (λ ne. inl (rw (upd_other (lives t) new true g ne) at l))));
          quiet = quiet-eq refl (part-made (λ x. x.set)) (quiet-after-set new no_controls w.quiet (λ _ _ _ _. refl));
          blank =
              record {
                free_group =
                    upd-all (λ j x. x.core.live ≡ false → x ≡ no_group) t.group new made
                    (λ h. clash true refl h) (λ j _. w.blank.free_group j);
                free_process = w.blank.free_process;
              };
          past =
              remembered-eq (part-made (λ x. x.core.live)) (part-made (λ x. x.core.parent)) (part-made (λ x. x.depth)) refl
              (remembered-after-make w.sound w.past new p lp ln blank r d);
          owned = ap (λ x. x.owner) (upd_other t.group new made 0 (not_new 0 w.sound.root)) ∙ w.owned;
          sized =
              record {
                size = w.sized.size;
                fits =
                    rw (upd-map (λ x. x.core) t.group new made, amount-after-make (cores t) (places t) (depths t) w.sound w.placed Pages new p 0 ln)
                    w.sized.fits;
              };
        }

  -- A group without children and processes removed; its own pages pass to its parent.
  module _ (g : ℕ) (lg : lives t g ≡ true) (gz : g ≢ 0) (nc : NoChild (lives t) (parents t) g) (np : (p : ℕ) → places t p ≢ at g) where
    abbrev heir : Group
    heir = charged (t.group g).core.own (t.group (parents t g))

    gone : (x : ℕ) → upd (lives t) g false x ≡ true → x ≢ g
    gone x l e = clash (upd (lives t) g false x) l (rw (e, upd_same))

    pub well-formed-after-remove : WellFormed (removed t g)
    well-formed-after-remove =
        record {
          sound =
              sound-eq (part-after-remove t g (λ x. x.core.live) refl) (part-after-remove t g (λ x. x.core.parent) refl) (part-after-remove t g (λ x. x.depth) refl)
              (sound-after-remove w.sound g gz nc);
          placed = placed-eq (part-after-remove t g (λ x. x.core.live) refl) refl (placed-after-remove w.sound g gz nc np w.placed);
          top_down =
              top-down-eq (part-after-remove t g (λ x. x.core.live) refl) (part-after-remove t g (λ x. x.core.parent) refl) (part-after-remove t g (λ x. x.set) refl)
              (top-down-after-remove w.sound g gz nc w.top_down);
          defaults =
              defaults-eq (part-after-remove t g (λ x. x.core.live) refl) (part-after-remove t g (λ x. x.core.parent) refl) (part-after-remove t g (λ x. x.set) refl) (part-after-remove t g settings_of refl)
              (defaults-frame w.defaults _ _ _ _
              (λ c h l. let ne : h ≢ g = gone h l in
              let k : lives t h ≡ true = rw (upd_other (lives t) g false h ne) at l in
              inr (k, (λ nz. rw (upd_other (parents t) g 0 h ne, upd_other (sets t) g no_controls (parents t h) (nc h k nz))), upd_other (settings_at t) g (settings_of no_group) h ne)));
          ranges =
              ranges-eq (part-after-remove t g (λ x. x.core.live) refl) (part-after-remove t g settings_of refl)
              (record {
                within = λ h l.
                    let ne : h ≢ g = gone h l in
                    rw (upd_other (settings_at t) g (settings_of no_group) h ne) (w.ranges.within h (rw (upd_other (lives t) g false h ne) at l));
              });
          quiet = quiet-eq refl (part-after-remove t g (λ x. x.set) refl) (quiet-after-set g no_controls w.quiet (λ _ _ _ _. refl));
          blank =
              record {
                free_group =
                    upd-all (λ j x. x.core.live ≡ false → x ≡ no_group) (upd t.group (parents t g) heir) g no_group (λ _. refl)
                    (λ j _. upd-all (λ i x. x.core.live ≡ false → x ≡ no_group) t.group (parents t g) heir
                    (λ d. clash (lives t (parents t g)) (w.sound.above g lg gz) d) (λ i _. w.blank.free_group i) j);
                free_process = w.blank.free_process;
              };
          past =
              remembered-eq (part-after-remove t g (λ x. x.core.live) refl) (part-after-remove t g (λ x. x.core.parent) refl) (part-after-remove t g (λ x. x.depth) refl) refl
              (remembered-after-remove w.sound w.past g lg gz nc);
          owned =
              ap (λ f. f 0) (part-after-remove t g (λ x. x.owner) refl) ∙ upd_other (owners t) g 0 0 (λ e. gz (sym e)) ∙ w.owned;
          sized =
              record {
                size = w.sized.size;
                fits =
                    rw (cores-after-remove t g, amount-after-remove (cores t) (places t) (depths t) w.sound w.placed g lg gz nc np Pages 0 (λ e. gz (sym e)))
                    w.sized.fits;
              };
        }
