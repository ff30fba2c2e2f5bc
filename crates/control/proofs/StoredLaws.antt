-- The stores of the two calls leave what the definitions say: neither changes what is counted. Assumes nothing.
use Rattle.std.specs.Prelude.{Option, Some, Result, Ok, Err}
use Prim.Native.Nat.{ℕ, ◌<◌}
use mathlib.Core.Bool.{Bool, true, false}
use mathlib.Core.List.{List, [], ◌∷◌}
use mathlib.Core.Path.{◌≡◌, refl, ap, ap₂, sym, ◌∙◌, subst}
use borrow.Author.Tests.{lt-leb}
use Rattle.model.specs.Sizes.{groups}
use Rattle.model.specs.Tree.{Tree, Controls, lives, parents, settings_at}
use Rattle.model.specs.Rules.{may_write, leaving}
use Rattle.model.specs.Checks.{Check, bar, need, first, Pass, Answer}
use Rattle.model.specs.Functions.{known, passes}
use Rattle.model.specs.Hierarchy.{on}
use Rattle.model.specs.Text.{too_long, line_words}
use Rattle.model.specs.Names.{setting_named}
use Rattle.model.specs.Settings.{setting_controller, value_of, in_range, has_room}
use Rattle.model.specs.Calls.{Call, write_control, write_setting, setting_value, line_value, setting_checks, device_check, checks, verdict}
use Rattle.model.specs.Effects.{new_set, controlled, written, effect}
use Rattle.model.specs.declared.Setting.{Setting}
use Rattle.model.specs.declared.SettingValue.{SettingValue}
use Rattle.model.specs.declared.Errno.{Errno}
use Rattle.model.specs.declared.Errno.TheVariants.{Einval, Enospc, Erange}
use Rattle.model.proofs.FunctionLaws.{split}
use Rattle.model.proofs.CheckLaws.{first-pass, and_then, first-append}
use Rattle.model.proofs.Steps.{passed}
use Rattle.model.proofs.ControlPreservation.{part-kept}
use Rattle.model.proofs.SettingPreservation.{part-after-setting}
use Rattle.tree.specs.Layout.{view}
use Rattle.tree.specs.Changes.{GroupRow, Wrote}
use Rattle.tree.specs.Kept.{Kept}
use Rattle.tree.specs.Calling.{Called}
use Rattle.tree.proofs.CallLaws.{call_stays, call-done, applied-wrote}
use Rattle.control.specs.Stores.{changed_at}
use Rattle.control.specs.Values.{Settable, Stored, store_answer, value_checks, Gives}
use Rattle.control.proofs.WroteLaws.{wrote_as}

-- ---- a setting

-- what a write is given, found another way
gives_as : {a b : Answer} {o p : Option SettingValue} → a ≡ b → o ≡ p → (r : Result SettingValue Errno) → Gives a o r → Gives b p r
gives_as e f (Ok v) g = (g.0 ∙ e, sym f ∙ g.1)
gives_as e f (Err x) g = g ∙ e

-- the checks of the line are those that are left, once the others pass
pub gives-setting : (t : Tree) (user g : ℕ) (file line : List ℕ) (s : Setting) → setting_named file ≡ Some s → g < groups → true ≡ lives t g
    → true ≡ on t (setting_controller s) g → true ≡ may_write t user (parents t g)
    → (r : Result SettingValue Errno) → Gives (first (value_checks s line)) (value_of s (line_words line)) r
    → Gives (first (setting_checks t user g file line)) (line_value file line) r
unfolding setting_checks value_checks first
gives-setting t user g file line s e n l o m r h =
    let v : setting_value (Some s) line ≡ line_value file line = ap (λ x. setting_value x line) (sym e) in
    let p : passes (setting_named file) (λ x. on t (setting_controller x) g) ≡ true =
    ap (λ x. passes x (λ y. on t (setting_controller y) g)) e ∙ sym o in
    let left : first (setting_checks t user g file line) ≡ first (checks_of (line_value file line)) =
    rw (lt-leb groups g n, sym l, ap known e, p, sym m) in
    gives_as (ap (λ x. first (checks_of x)) v ∙ sym left) v r h
  where
    -- the checks of a line by its value
    checks_of : Option SettingValue → List Check
    checks_of x = bar (too_long line) Einval ∷ need (known x) Einval ∷ need (passes x in_range) Erange ∷ []

-- the check for a device too many comes last
module _ (t : Tree) (user g : ℕ) (file line : List ℕ) where
  verdict-in-two : verdict t (write_setting user g file line) ≡ and_then (first (setting_checks t user g file line)) (first (device_check t g file line))
  unfolding verdict checks
  verdict-in-two = first-append (setting_checks t user g file line) (device_check t g file line)

  pub verdict-before : (e : Errno) → Err e ≡ first (setting_checks t user g file line) → Err e ≡ verdict t (write_setting user g file line)
  verdict-before e h = sym (verdict-in-two ∙ ap (λ a. and_then a (first (device_check t g file line))) (sym h))

  verdict-last : (v : SettingValue) → Ok tt ≡ first (setting_checks t user g file line) → line_value file line ≡ Some v
      → verdict t (write_setting user g file line) ≡ first (need (has_room (settings_at t g) v) Enospc ∷ [])
  verdict-last v h e =
      verdict-in-two
      ∙ ap (λ a. and_then a (first (device_check t g file line))) (sym h)
      ∙ ap (λ o. first (need (passes o (has_room (settings_at t g))) Enospc ∷ [])) e

module _ (xs : List ℕ) (k : Kept xs) (user g : ℕ) (file line : List ℕ) (value : SettingValue)
    (given : Gives (first (setting_checks (view xs) user g file line)) (line_value file line) (Ok value)) where
  setting-live : lives (view xs) g ≡ true
  unfolding setting_checks Pass
  setting-live = let c = first-pass (setting_checks (view xs) user g file line) (sym given.0) in (search)

  setting-range : passes (line_value file line) in_range ≡ true
  unfolding setting_checks Pass
  setting-range = let c = first-pass (setting_checks (view xs) user g file line) (sym given.0) in (search)

  pub settable : Settable xs g value
  settable =
      record { at = record { kept = k; live = setting-live }; within = ap (λ o. passes o in_range) (sym given.1) ∙ setting-range }

  abbrev call : Call
  call = write_setting user g file line

  -- by whether there is room
  pub setting-stored : (ys : List ℕ) (r : Answer) → Stored xs ys g value r → Called xs ys call r
  unfolding effect first
  setting-stored ys r stored = split (has_room (settings_at (view xs) g) value) done full
    where
      checked : (b : Bool) → store_answer b ≡ first (need b Enospc ∷ [])
      checked true = refl
      checked false = refl

      answer : r ≡ verdict (view xs) call
      answer =
          stored.room ∙ checked (has_room (settings_at (view xs) g) value)
          ∙ sym (verdict-last (view xs) user g file line value given.0 given.1)

      full : has_room (settings_at (view xs) g) value ≡ false → Called xs ys call r
      full n =
          let e : r ≡ Err Enospc = stored.room ∙ ap store_answer n in
          subst (λ (zs : List ℕ). Called xs zs call r) (sym (stored.same e)) (call_stays xs k call r Enospc answer e)

      done : has_room (settings_at (view xs) g) value ≡ true → Called xs ys call r
      done y =
          let o = line_value file line in
          let e : r ≡ Ok tt = stored.room ∙ ap store_answer y in
          let v : verdict (view xs) call ≡ Ok tt = sym answer ∙ e in
          call-done xs k call v ys _ _
          (applied-wrote xs k call v ys
          (wrote_as (ap (λ x. changed_at (view xs) g (written x)) (sym given.1)) (stored.done e))
          (record {
            parent = part-after-setting (view xs) g o (λ x. x.core.parent) (λ _ _. refl);
            live = part-after-setting (view xs) g o (λ x. x.core.live) (λ _ _. refl);
            own = part-after-setting (view xs) g o (λ x. x.core.own) (λ _ _. refl);
          })
          refl refl)
          answer

-- ---- a control line

module _ (xs : List ℕ) (k : Kept xs) (user g : ℕ) (line : List ℕ) (v : verdict (view xs) (write_control user g line) ≡ Ok tt) where
  control-live : lives (view xs) g ≡ true
  unfolding checks Pass
  control-live = let c = passed (view xs) (write_control user g line) v in (search)

  pub control-row : GroupRow xs g
  control-row = record { long = k.long; low = k.formed.sound.range g control-live }

  pub control-done : (ys : List ℕ) (set gone : Controls) → set ≡ new_set (view xs) g line → gone ≡ leaving (view xs) g line
      → Wrote xs ys (controlled (view xs) g set gone)
      → Called xs ys (write_control user g line) (Ok tt)
  unfolding effect
  control-done ys set gone e f w =
      let new = new_set (view xs) g line in
      let left = leaving (view xs) g line in
      call-done xs k (write_control user g line) v ys _ _
      (applied-wrote xs k (write_control user g line) v ys
      (wrote_as (ap₂ (controlled (view xs) g) e f) w)
      (record {
        parent = λ h. ap (λ f. f h) (part-kept (view xs) g new left (λ x. x.core.parent) (λ _ _. refl) refl);
        live = λ h. ap (λ f. f h) (part-kept (view xs) g new left (λ x. x.core.live) (λ _ _. refl) refl);
        own = λ h. ap (λ f. f h) (part-kept (view xs) g new left (λ x. x.core.own) (λ _ _. refl) refl);
      })
      refl refl)
      (sym v)
