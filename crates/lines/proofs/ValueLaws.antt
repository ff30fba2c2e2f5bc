-- Laws of values: a limit of a line, and what an answer of `parse_value` says. Assumes nothing.
use Rattle.std.specs.Prelude.{Option, Some, None}
use Prim.Native.Nat.{ℕ}
use mathlib.Core.Bool.{true, false}
use mathlib.Core.Path.{◌≡◌, refl, ap, sym, ◌∙◌}
use native.Mathlib.Omega.{arith}
use Rattle.model.specs.Functions.{known, passes, mapped}
use Rattle.model.specs.Settings.{in_range}
use Rattle.model.specs.declared.Resource.{Resource}
use Rattle.model.specs.declared.Limit.{Limit}
use Rattle.model.specs.declared.SettingValue.{SettingValue}
use Rattle.model.specs.declared.SettingValue.TheVariants.{Maximum}
use Rattle.text.specs.Limit.{clipped_limit}
use Rattle.lines.specs.Value.{clipped}
use Rattle.lines.proofs.RangeLaws.{range-of-clipped, clipped-in-range}

pub maximum-clipped : (r : Resource) (o : Option Limit) → mapped clipped (mapped (Maximum r) o) ≡ mapped (Maximum r) (mapped clipped_limit o)
maximum-clipped r None = refl
maximum-clipped r (Some l) = refl

-- ---- what an answer says of the value

pub is-malformed : (o : Option SettingValue) → None ≡ mapped clipped o → known o ≡ false
is-malformed None e = refl
is-malformed (Some v) e = let z : ◌≡◌ {A = ℕ} 0 1 = cc in absurd (omega arith)

module _ (o : Option SettingValue) (v : SettingValue) (e : Some v ≡ mapped clipped o) where
  clipping : (w : SettingValue) × (o ≡ Some w) × (v ≡ clipped w)
  clipping = go o e
    where
      go : (x : Option SettingValue) → Some v ≡ mapped clipped x → (w : SettingValue) × (x ≡ Some w) × (v ≡ clipped w)
      go None f = let z : ◌≡◌ {A = ℕ} 0 1 = cc in absurd (omega arith)
      go (Some w) f = (w, refl, cc)

  pub is_known : known o ≡ true
  is_known = ap known clipping.1

  -- the range of what was read is that of the value
  pub is-ranged : in_range v ≡ passes o in_range
  is-ranged = ap in_range clipping.2 ∙ range-of-clipped clipping.0 ∙ ap (λ x. passes x in_range) (sym clipping.1)

  -- and a value in its range is the very value
  pub is-value : in_range v ≡ true → o ≡ Some v
  is-value h =
      let w = clipping.0 in
      let r : in_range w ≡ true = sym (range-of-clipped w) ∙ ap in_range (sym clipping.2) ∙ h in
      clipping.1 ∙ ap Some (sym (clipping.2 ∙ clipped-in-range w r))
