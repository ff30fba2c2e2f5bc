-- What is particular to a controller: its piece of the settings, after a reset and after a value for another one's setting. Then defaults,
-- for any controller. Assumes nothing.
use Rattle.std.specs.Prelude.{Some}
use Prim.Native.Nat.{ℕ}
use mathlib.Core.Bool.{Bool, true, false}
use mathlib.Core.List.{List}
use mathlib.Core.Logic.{◌≢◌}
use mathlib.Core.Path.{◌≡◌, refl, ◌∙◌}
use Rattle.model.specs.Functions.{pick}
use Rattle.model.specs.Devices.{DeviceLimits}
use Rattle.model.specs.Tree.{CpuSettings, Settings, new_settings, with_cpu, with_io, with_amounts, with_limit, controller_of}
use Rattle.model.specs.Settings.{setting_controller, value_of, assign, piece, AtDefault, reset}
use Rattle.model.specs.declared.Resource.{Resource}
use Rattle.model.specs.declared.Resource.TheVariants.{Pages, Processes}
use Rattle.model.specs.declared.Limit.{Limit}
use Rattle.model.specs.declared.Controller.{Controller}
use Rattle.model.specs.declared.Controller.TheVariants.{Cpu, Io, Memory, Pids}
use Rattle.model.specs.declared.Setting.{Setting}
use Rattle.model.specs.declared.SettingValue.{SettingValue}
use Rattle.model.specs.declared.SettingValue.TheVariants.{Weight, Quota, Bandwidth, Device, Maximum}
use Rattle.model.proofs.FunctionLaws.{split}
use Rattle.model.proofs.SettingLaws.{setting_of, setting_of-value_of}

-- The piece of a controller, after a reset and after a value for another one's setting.
pub piece-after-reset : (gone : Controller → Bool) (st : Settings) (c : Controller)
    → piece c (reset gone st) ≡ pick (gone c) (piece c new_settings) (piece c st)
unfolding reset
piece-after-reset gone st Cpu = refl
piece-after-reset gone st Io = refl
piece-after-reset gone st Memory = refl
piece-after-reset gone st Pids = refl

piece-with-cpu : (x : CpuSettings) (st : Settings) (c : Controller) → Cpu ≢ c → piece c (with_cpu x st) ≡ piece c st
piece-with-cpu x st Cpu ne = absurd (ne refl)
piece-with-cpu x st Io ne = refl
piece-with-cpu x st Memory ne = refl
piece-with-cpu x st Pids ne = refl

piece-with-io : (xs : List DeviceLimits) (st : Settings) (c : Controller) → Io ≢ c → piece c (with_io xs st) ≡ piece c st
piece-with-io xs st Cpu ne = refl
piece-with-io xs st Io ne = absurd (ne refl)
piece-with-io xs st Memory ne = refl
piece-with-io xs st Pids ne = refl

piece-with-limit : (r : Resource) (l : Limit) (st : Settings) (c : Controller) → controller_of r ≢ c
    → piece c (with_amounts (with_limit r l st.limit) st) ≡ piece c st
piece-with-limit r l st Cpu ne = refl
piece-with-limit r l st Io ne = refl
piece-with-limit Pages l st Memory ne = absurd (ne refl)
piece-with-limit Processes l st Memory ne = refl
piece-with-limit Pages l st Pids ne = refl
piece-with-limit Processes l st Pids ne = absurd (ne refl)

piece-after-assign-other : (v : SettingValue) (st : Settings) (c : Controller) → setting_controller (setting_of v) ≢ c → piece c (assign v st) ≡ piece c st
unfolding assign
piece-after-assign-other (Weight n) st c ne = piece-with-cpu _ st c ne
piece-after-assign-other (Quota q) st c ne = piece-with-cpu _ st c ne
piece-after-assign-other (Bandwidth q p) st c ne = piece-with-cpu _ st c ne
piece-after-assign-other (Device a b p) st c ne = piece-with-io _ st c ne
piece-after-assign-other (Maximum r l) st c ne = piece-with-limit r _ st c ne

-- Defaults, for any controller.
pub default-new : (c : Controller) → AtDefault c new_settings
unfolding AtDefault
default-new c = refl

module _ (gone : Controller → Bool) (c : Controller) (st : Settings) where
  pub piece-reset : gone c ≡ true → piece c (reset gone st) ≡ piece c new_settings
  piece-reset y = piece-after-reset gone st c ∙ rw y

  pub piece-kept : gone c ≡ false → piece c (reset gone st) ≡ piece c st
  piece-kept n = piece-after-reset gone st c ∙ rw n

  pub default-of-reset : gone c ≡ true → AtDefault c (reset gone st)
  unfolding AtDefault
  default-of-reset y = piece-reset y

  pub default-after-reset : AtDefault c st → AtDefault c (reset gone st)
  unfolding AtDefault
  default-after-reset h = split (gone c) (λ y. piece-reset y) (λ n. piece-kept n ∙ h)

-- a value for a setting of another controller
pub default-after-assign : (s : Setting) (ws : List (List ℕ)) (v : SettingValue) (c : Controller) (st : Settings)
    → value_of s ws ≡ Some v → setting_controller s ≢ c → AtDefault c st → AtDefault c (assign v st)
unfolding AtDefault
default-after-assign s ws v c st e ne h = piece-after-assign-other v st c (rw (setting_of-value_of s ws v e) ne) ∙ h
