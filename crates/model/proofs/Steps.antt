-- Every accepted call makes one of the changes of Changes.antt: `change` is the one place where each call's checks meet its
-- effect. So it leaves a well-formed tree well formed, and every tree that calls can reach is. Assumes nothing.
use Rattle.std.specs.Prelude.{Option, Some, None, Ok, Err}
use Prim.Native.Nat.{ℕ, ◌+◌, ◌-◌, ◌≤◌}
use native.Mathlib.Omega.{arith}
use mathlib.Core.Bool.{true, false, not, ◌&&◌}
use mathlib.Core.List.{List, [], ◌∷◌}
use mathlib.Core.Logic.{◌≢◌, inl, inr, ⊎_elim}
use mathlib.Core.Path.{◌≡◌, refl, ap, sym}
use lib.Dec.{eqb}
use borrow.Author.Tests.{eqb-false, eq-eqb, ne_eqb, leb-false, ltb-false, not-false}
use Rattle.model.specs.Functions.{passes, known}
use Rattle.model.specs.Sizes.{groups, processes}
use Rattle.model.specs.Checks.{Pass, Answer}
use Rattle.model.specs.Tree.{Tree, Process, at, is_live, group_of, no_process, with_own, with_core, with_owner, at_group, at_process, cores, lives, parents, sets, settings_at, places}
use Rattle.model.specs.Hierarchy.{on, on_in, child_of, headcount, usage, facts_of}
use Rattle.model.specs.Control.{asked, is_wanted, any_controller}
use Rattle.model.specs.Settings.{setting_controller, in_range, has_room, value_of}
use Rattle.model.specs.Text.{line_words}
use Rattle.model.specs.Names.{setting_named}
use Rattle.model.specs.Rules.{available, stands_in, process_group, has_child, has_process, held_by_child, line_process, joining, leaving}
use Rattle.model.specs.Calls.{Call, setting_value, line_value, charge_checks, fork_checks, setting_checks, checks, verdict}
use Rattle.model.specs.Effects.{past_exit, past_collect, new_set, written, effect, step, run}
use Rattle.model.specs.WellFormed.{WellFormed}
use Rattle.model.specs.declared.Resource.TheVariants.{Pages}
use Rattle.model.specs.declared.Controller.{Controller}
use Rattle.model.specs.declared.Setting.{Setting}
use Rattle.model.specs.declared.SettingValue.{SettingValue}
use Rattle.model.specs.declared.Errno.{Errno}
use Rattle.model.proofs.FunctionLaws.{split, clash, and-false, any_none, upd-map}
use Rattle.model.proofs.CheckLaws.{first-pass}
use Rattle.model.proofs.AmountLaws.{place-live, place-free}
use Rattle.model.proofs.ControlLaws.{any-controller-none, set-after-true, join-none, leave-true}
use Rattle.model.proofs.PieceLaws.{default-new, default-after-assign}
use Rattle.model.proofs.AllowedLaws.{allowed-new, allowed-after-assign}
use Rattle.model.proofs.RoomLaws.{room-on-chain, over-figure, machine-acts}
use Rattle.model.proofs.RuleLaws.{NoChild}
use Rattle.model.proofs.ZombieLaws.{untaken-process}
use Rattle.model.proofs.Remembering.{remembered-after-exit, remembered-after-collect, remembered-eq}
use Rattle.model.proofs.Preservation.{Patch, well-formed-after-patch, well-formed-after-place, well-formed-after-past, well-formed-after-make, well-formed-after-remove}
use Rattle.model.proofs.ControlPreservation.{child-of, Control, well-formed-after-control}
use Rattle.model.proofs.SettingPreservation.{part-written}
use Rattle.model.proofs.Changes.{still, came, went, place-stands, place-blank, usage-altered, made-dead, made-blank, Placing, Change, nothing, placed, altered, made, ended, collected, removal, control}

-- A step by its verdict.
pub step-accepted : (t : Tree) (c : Call) → verdict t c ≡ Ok tt → step t c ≡ effect t c
unfolding step
step-accepted t c e = rw (e, step)

pub step-refused : (t : Tree) (c : Call) (x : Errno) → verdict t c ≡ Err x → step t c ≡ t
unfolding step
step-refused t c x e = rw (e, step)

-- by cases on the verdict
pub by-verdict : {A : Type 0} (t : Tree) (c : Call) → (verdict t c ≡ Ok tt → A) → ((e : Errno) → verdict t c ≡ Err e → A) → A
by-verdict {A} t c f g = go (verdict t c) refl
  where
    go : (a : Answer) → verdict t c ≡ a → A
    go (Ok tt) e = f e
    go (Err x) e = g x e

pub passed : (t : Tree) (c : Call) → verdict t c ≡ Ok tt → Pass (checks (facts_of t) c)
unfolding verdict
passed t c e = first-pass (checks (facts_of t) c) e

-- What the tests say.
module _ (t : Tree) (w : WellFormed t) where
  pub no-child : (g : ℕ) → has_child t g ≡ false → NoChild (lives t) (parents t) g
  unfolding has_child
  no-child g h c l nz e =
      clash (child_of g c (cores t c)) (child-of g c (cores t c) l nz e)
      (any_none groups (λ k. child_of g k (cores t k)) h c (w.sound.range c l))

  pub no-process : (g : ℕ) → has_process t g ≡ false → (p : ℕ) → places t p ≢ at g
  unfolding has_process
  no-process g h p e =
      clash (stands_in (places t p) g) (rw (e, stands_in) (eq-eqb g g refl))
      (any_none processes (λ q. stands_in (places t q) g) h p (w.placed.range p g e))

  pub process-lives : (p : ℕ) → is_live (places t p) ≡ true → lives t (process_group t p) ≡ true
  process-lives p l = w.placed.group p (process_group t p) (place-live (places t p) l)

  -- the group of a process that is not live is the root
  pub group-lives : (p : ℕ) → lives t (process_group t p) ≡ true
  group-lives p = split (is_live (places t p)) (process-lives p) (λ n. rw (ap group_of (place-free (places t p) n)) w.sound.root)

  pub process-number : (p : ℕ) → is_live (places t p) ≡ true → p ≢ 0
  process-number p l e = clash (is_live (places t p)) l (rw e (ap is_live w.placed.none))

  -- a group with another owner or other own pages
  patch-same : (g o n : ℕ) → lives t g ≡ true → (g ≡ 0 → o ≡ 0) → Patch t g (with_owner o (with_core (with_own n (cores t g)) (t.group g)))
  patch-same g o n l z =
      record {
        alive = l;
        live = l;
        parent = refl;
        depth = refl;
        set = refl;
        owner = z;
        defaults = λ x h. w.defaults.off x g l h;
        ranges = w.ranges.within g l;
      }

  root-owner : (g : ℕ) → g ≡ 0 → (t.group g).owner ≡ 0
  root-owner g e = rw e w.owned

  -- a controller that is off, where a setting's controller is on
  controller-apart : (s : Setting) (c : Controller) (g : ℕ) → on_in (parents t) (sets t) (setting_controller s) g ≡ true
      → on_in (parents t) (sets t) c g ≡ false → setting_controller s ≢ c
  controller-apart s c g y n e = clash (on_in (parents t) (sets t) c g) (rw e at y) n

  -- a setting written
  kept-value : (g : ℕ) (s : Setting) (ws : List (List ℕ)) (v : Option SettingValue) → value_of s ws ≡ v → lives t g ≡ true
      → on t (setting_controller s) g ≡ true → known v ≡ true → passes v in_range ≡ true → passes v (has_room (settings_at t g)) ≡ true
      → Patch t g (written v (t.group g))
  kept-value g s ws None e l o k r m = clash false k refl
  kept-value g s ws (Some v) e l o k r m =
      record {
        alive = l;
        live = l;
        parent = refl;
        depth = refl;
        set = refl;
        owner = root-owner g;
        defaults =
            λ c h. default-after-assign s ws v c (settings_at t g) e (controller-apart s c g o h) (w.defaults.off c g l h);
        ranges = allowed-after-assign v (settings_at t g) r m (w.ranges.within g l);
      }

  kept-setting : (g : ℕ) (named : Option Setting) (line : List ℕ) → lives t g ≡ true → passes named (λ s. on t (setting_controller s) g) ≡ true
      → known (setting_value named line) ≡ true → passes (setting_value named line) in_range ≡ true
      → passes (setting_value named line) (has_room (settings_at t g)) ≡ true
      → Patch t g (written (setting_value named line) (t.group g))
  kept-setting g None line l o k r m = clash false k refl
  kept-setting g (Some s) line l o k r m = kept-value g s (line_words line) (value_of s (line_words line)) refl l o k r m

  -- a control line's set and what leaves it
  module _ (g : ℕ) (line : List ℕ) (l : lives t g ≡ true)
      (want : any_controller (λ c. is_wanted (asked line c) && not (available t c g)) ≡ false)
      (held : any_controller (λ c. leaving t g line c && held_by_child t g c) ≡ false)
      (join : (not (eqb g 0) && (has_process t g && any_controller (joining t g line))) ≡ false) where
    set-available : (c : Controller) → new_set t g line c ≡ true → g ≢ 0 → sets t (parents t g) c ≡ true
    set-available c h nz =
        set-after-true (sets t g c) (asked line c) h
        (λ old. w.top_down.within c g l nz old)
        (λ a. let q : (is_wanted (asked line c) && not (available t c g)) ≡ false = any-controller-none _ want c in
        let y : available t c g ≡ true = not-false (available t c g) (and-false (is_wanted (asked line c)) _ q (rw a)) in
        rw (ne_eqb g 0 nz) at y)

    set-kept : (c : Controller) (k : ℕ) → lives t k ≡ true → k ≢ 0 → parents t k ≡ g → sets t k c ≡ true → new_set t g line c ≡ true
    unfolding held_by_child
    set-kept c k lk nz e h =
        split (new_set t g line c)
        (λ y. y)
        (λ n. let old : sets t g c ≡ true = rw e at (w.top_down.within c k lk nz h) in
        let q : (leaving t g line c && held_by_child t g c) ≡ false = any-controller-none _ held c in
        let None : held_by_child t g c ≡ false = and-false (leaving t g line c) _ q (leave-true (sets t g c) (asked line c) old n) in
        let z : (child_of g k (cores t k) && sets t k c) ≡ false = any_none groups (λ j. child_of g j (cores t j) && sets t j c) None k (w.sound.range k lk) in
        clash (sets t k c) h (and-false (child_of g k (cores t k)) _ z (child-of g k (cores t k) lk nz e)))

    set-quiet : (p : ℕ) → places t p ≡ at g → g ≢ 0 → (c : Controller) → new_set t g line c ≡ false
    set-quiet p e nz c =
        split (has_process t g)
        (λ y. join-none (sets t g c) (asked line c) (w.quiet.empty p g e nz c)
        (any-controller-none (joining t g line)
        (and-false (has_process t g) _ (and-false (not (eqb g 0)) _ join (rw (ne_eqb g 0 nz))) y) c))
        (λ n. absurd (no-process g n p e))

    kept-control : Control t g (new_set t g line) (leaving t g line)
    kept-control =
        record {
          alive = l;
          available = set-available;
          kept = set-kept;
          quiet = set-quiet;
          reset = λ c y n. leave-true (sets t g c) (asked line c) y n;
        }

-- Every accepted call makes one of the eight changes.
pub change : (t : Tree) (c : Call) → WellFormed t → Pass (checks (facts_of t) c) → Change t c (effect t c)
unfolding effect checks Pass charge_checks fork_checks setting_checks
change t (Call.make user parent new) w k =
    made user parent new refl
    (record {
      above = (search);
      free = (search);
      low = omega (arith, leb-false);
      shallow = omega (arith, leb-false);
      may = (search);
    })
change t (Call.remove user g) w k =
    removal user g refl
    (record { alive = (search); inner = eqb-false g 0 (search); no_child = no-child t w g (search); no_process = no-process t w g (search) })
change t (Call.hand_over user g owner) w k =
    let l : lives t g ≡ true = (search) in
    altered g _
    (record {
      patch = patch-same t w g owner _ l (λ e. absurd (eqb-false g 0 (search) e));
      owner = inr (record { giver = user; call = refl });
      pages = still refl refl;
      limit = inl refl;
    })
change t (Call.write_procs user g line) w k =
    let p : ℕ = line_process line in
    let unset : (g ≢ 0 → any_controller (sets t g) ≡ false) = (λ nz. and-false (not (eqb g 0)) _ (search) (rw (ne_eqb g 0 nz))) in
    placed p (record { place = at g; user = (t.process p).user })
    (record {
      number = eqb-false p 0 (search);
      low = omega (arith, leb-false);
      stands = inr (record { group = g; here = refl; alive = (search); quiet = λ nz. any-controller-none (sets t g) (unset nz) });
      moved = λ h i was e.
          let d : g ≡ i = cc in
          inr (record { user = user; line = line; call = ap (λ x. Call.write_procs user x line) d; process = refl });
      unended = λ _. w.past.process p (search);
      heads = still refl (sym (ap headcount (place-live (places t p) (search))));
    })
    refl
change t (Call.write_control user g line) w k = control g line refl (kept-control t w g line (search) (search) (search) (search))
change t (Call.write_setting user g file line) w k =
    altered g _
    (record {
      patch = kept-setting t w g (setting_named file) line (search) (search) (search) (search) (search);
      owner = inl (part-written (λ v. v.owner) (λ _ _. refl) (line_value file line) (t.group g));
      pages = still refl (part-written (λ v. v.core.own) (λ _ _. refl) (line_value file line) (t.group g));
      limit = inr (record { user = user; group = g; file = file; line = line; call = refl });
    })
change t (Call.admit p user) w k =
    let untaken = untaken-process t p (search) in
    let free : is_live (places t p) ≡ false = untaken.0 in
    placed p (record { place = at 0; user = user })
    (record {
      number = eqb-false p 0 (search);
      low = omega (arith, leb-false);
      stands = inr (record { group = 0; here = refl; alive = w.sound.root; quiet = λ nz. absurd (nz refl) });
      moved = λ g h was e. clash (is_live (places t p)) (rw was) free;
      unended = λ _. untaken.1;
      heads = came 1 refl (rw (place-free (places t p) free) (omega arith)) tt;
    })
    refl
change t (Call.fork p new) w k =
    let untaken = untaken-process t new (search) in
    let free : is_live (places t new) ≡ false = untaken.0 in
    let here : places t p ≡ at (process_group t p) = place-live (places t p) (search) in
    placed new (t.process p)
    (record {
      number = eqb-false new 0 (search);
      low = omega (arith, leb-false);
      stands = inr (record { group = _; here = here; alive = process-lives t w p (search); quiet = w.quiet.empty p _ here });
      moved = λ g h was e. clash (is_live (places t new)) (rw was) free;
      unended = λ _. untaken.1;
      heads = came 1 refl (rw (place-free (places t new) free, here) (omega arith)) tt;
    })
    (search)
change t (Call.exit p) w k =
    let here : places t p ≡ at (process_group t p) = place-live (places t p) (search) in
    ended p
    (record {
      number = process-number t w p (search);
      low = w.placed.range p _ here;
      stands = inl refl;
      moved = λ g h was e. let z : ◌≡◌ {A = ℕ} 0 1 = cc in absurd (omega arith);
      unended = λ a. clash false a refl;
      heads = went 1 refl (sym (ap headcount here));
    })
    (search)
change t (Call.collect p) w k = collected p refl (search)
change t (Call.charge p n) w k =
    let g : ℕ = process_group t p in
    let l : lives t g ≡ true = process-lives t w p (search) in
    altered g _
    (record {
      patch = patch-same t w g _ _ l (root-owner t w g);
      owner = inl refl;
      pages = came n refl refl (room-on-chain (facts_of t) Pages n g (search));
      limit = inl refl;
    })
change t (Call.release g n) w k =
    let l : lives t g ≡ true = (search) in
    let h : (t.group g).core.own - n + n ≡ (t.group g).core.own = omega (arith, ltb-false) in
    altered g _
    (record { patch = patch-same t w g _ _ l (root-owner t w g); owner = inl refl; pages = went n refl h; limit = inl refl })
change t (Call.read g file buffer) w k = nothing refl
change t (Call.membership p buffer) w k = nothing refl

well-formed-placed : (t : Tree) {c : Call} → WellFormed t → (p : ℕ) (v : Process) → Placing t c p v → WellFormed (at_process t p v)
well-formed-placed t w p v k =
    well-formed-after-place t w p v k.number (λ h e. ((place-stands k h e).0, k.low)) (λ h e. (place-stands k h e).1) (place-blank k) k.unended

well-formed-change : (t : Tree) {c : Call} {u : Tree} → WellFormed t → Change t c u → WellFormed u
well-formed-change t w (nothing f) = w
well-formed-change t w (placed p v k l) = well-formed-placed t w p v k
well-formed-change t w (ended p k l) =
    let here : places t p ≡ at (process_group t p) = place-live (places t p) l in
    well-formed-after-past (at_process t p no_process) (well-formed-placed t w p no_process k) (past_exit t p)
    (remembered-eq refl refl refl (upd-map (λ x. x.place) t.process p no_process)
    (remembered-after-exit w.sound w.past p _ k.number k.low here (process-lives t w p l)))
well-formed-change t w (collected p f z) = well-formed-after-past t w (past_collect t p) (remembered-after-collect w.sound w.past p)
well-formed-change t w (altered g v k) =
    well-formed-after-patch t w g v k.patch
    (⊎_elim
    (λ (x : usage (cores (at_group t g v)) 0 ≤ usage (cores t) 0). omega (arith, w.sized.fits))
    (λ x. over-figure _ t.machine _ x (machine-acts t))
    (usage-altered t w g v k 0))
well-formed-change t w (made user parent new f k) =
    well-formed-after-make t w parent new user k.above (made-dead t w k) (made-blank t w k) k.low k.shallow default-new allowed-new
well-formed-change t w (removal user g f k) = well-formed-after-remove t w g k.alive k.inner k.no_child k.no_process
well-formed-change t w (control g line f k) = well-formed-after-control t g _ _ w k

pub well-formed-effect : (t : Tree) (c : Call) → WellFormed t → Pass (checks (facts_of t) c) → WellFormed (effect t c)
well-formed-effect t c w k = well-formed-change t w (change t c w k)

pub well-formed-step : (t : Tree) (c : Call) → WellFormed t → WellFormed (step t c)
well-formed-step t c w =
    by-verdict t c
    (λ e. rw (step-accepted t c e) (well-formed-effect t c w (passed t c e)))
    (λ x e. rw (step-refused t c x e) w)

pub well-formed-run : (cs : List Call) (t : Tree) → WellFormed t → WellFormed (run t cs)
unfolding run
well-formed-run [] t w = w
well-formed-run (c ∷ cs) t w = well-formed-run cs (step t c) (well-formed-step t c w)
