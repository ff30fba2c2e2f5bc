-- Laws of the settings: ranges; rounding; values shown and assigned again; which setting a value is for. What a reset and a value do
-- to a controller's piece is in PieceLaws, to what is allowed in AllowedLaws; how values read as text is in SettingTextLaws. Assumes
-- nothing.
use Rattle.std.specs.Prelude.{Option, Some, None}
use Prim.Native.Nat.{ℕ}
use native.Mathlib.Omega.{arith}
use mathlib.Core.Bool.{true}
use mathlib.Core.List.{List, [], ◌∷◌}
use mathlib.Core.Path.{◌≡◌, refl, ap, ◌∙◌, fun_ext, subst}
use Rattle.model.specs.Functions.{mapped, All}
use Rattle.model.specs.Devices.{device_of, major_of, minor_of, DeviceLimits, limits_at, with_device, Table, Pairs}
use Rattle.model.specs.Tree.{Settings, with_io, with_amounts, with_limit}
use Rattle.model.specs.Text.{one_word, number_word}
use Rattle.model.specs.Figures.{limit_word}
use Rattle.model.specs.DeviceLines.{colon, before, after, no_pairs, pairs_from, device_value, device_words}
use Rattle.model.specs.Settings.{bandwidth_of, bandwidth_words, value_of, between, quota_in, in_range, to_amount, to_figure, RoundedDown, map_limit, assign, shown_device, shown}
use Rattle.model.specs.declared.Resource.{Resource}
use Rattle.model.specs.declared.Resource.TheVariants.{Pages, Processes}
use Rattle.model.specs.declared.Limit.{Limit}
use Rattle.model.specs.declared.Limit.TheVariants.{NoLimit, Figure}
use Rattle.model.specs.declared.Key.{Key}
use Rattle.model.specs.declared.Setting.{Setting}
use Rattle.model.specs.declared.Setting.TheVariants.{CpuWeight, CpuMax, IoMax, Max}
use Rattle.model.specs.declared.SettingValue.{SettingValue}
use Rattle.model.specs.declared.SettingValue.TheVariants.{Weight, Quota, Bandwidth, Device, Maximum}
use Rattle.model.proofs.FunctionLaws.{and_left, and_right, all_map, all-images}
use Rattle.model.proofs.DeviceLaws.{changed-all, each_stands}

-- Ranges.
module _ (q : Limit) (p : ℕ) (e : in_range (Bandwidth q p) ≡ true) where
  pub range-of-quota : quota_in q ≡ true
  unfolding in_range
  range-of-quota = and_left (quota_in q) (between 1000 1000000 p) e

  pub range-of-period : between 1000 1000000 p ≡ true
  unfolding in_range
  range-of-period = and_right (quota_in q) (between 1000 1000000 p) e

-- Rounding.
pub rounded-down : (r : Resource) (n : ℕ) → RoundedDown r n (to_amount r n)
rounded-down Pages n = record { no_more = omega arith; next = omega arith }
rounded-down Processes n = record { no_more = omega arith; next = omega arith }

-- Shown and assigned again.
-- what a file shows of an amount is rounded to that amount
pub to_amount-to_figure : (r : Resource) (n : ℕ) → to_amount r (to_figure r n) ≡ n
to_amount-to_figure Pages n = omega arith
to_amount-to_figure Processes n = refl

map_limit-back : (r : Resource) (l : Limit) → map_limit (to_amount r) (map_limit (to_figure r) l) ≡ l
map_limit-back r NoLimit = refl
map_limit-back r (Figure n) = ap Figure (to_amount-to_figure r n)

-- what holds of the limit that is changed and of those that were
pub with_limit-all : (P : Resource → Limit → Type 0) (r : Resource) (l : Limit) (f : Resource → Limit)
    → P r l → ((x : Resource) → P x (f x)) → (x : Resource) → P x (with_limit r l f x)
with_limit-all P Pages l f p q Pages = p
with_limit-all P Pages l f p q Processes = q Processes
with_limit-all P Processes l f p q Pages = q Pages
with_limit-all P Processes l f p q Processes = p

-- a device as it is shown is that device
pub device_of-shown : (d : ℕ) → device_of (major_of d) (minor_of d) ≡ d
device_of-shown d = omega arith

abbrev Restores : Settings → SettingValue → Type 0
Restores st v = assign v st ≡ st

assign-shown-device : (st : Settings) (x : DeviceLimits) → with_device x.device x.limit st.io ≡ st.io → Restores st (shown_device x)
unfolding assign
assign-shown-device st x e = rw device_of-shown (ap (λ (xs : List DeviceLimits). with_io xs st) (ap (λ (l : Key → Limit). with_device x.device l st.io) (changed-all x.limit (limits_at x.device st.io)) ∙ e))

pub assign-shown : (s : Setting) (st : Settings) → Table st.io → All (Restores st) (shown s st)
unfolding assign shown All
assign-shown CpuWeight st t = (refl, tt)
assign-shown CpuMax st t = (refl, tt)
assign-shown IoMax st t =
    all-images (Restores st) shown_device st.io
    (all_map _ _ st.io (assign-shown-device st) (each_stands 0 st.io t.ascending t.limited))
assign-shown (Max r) st t = (
  ap (λ (f : Resource → Limit). with_amounts f st)
      (fun_ext (with_limit-all (λ x l. l ≡ st.limit x) r _ st.limit (map_limit-back r (st.limit r)) (λ x. refl))),
  tt,
)

-- Which setting a value is for.
abbrev pub setting_of : SettingValue → Setting
setting_of (Weight n) = CpuWeight
setting_of (Quota q) = CpuMax
setting_of (Bandwidth q p) = CpuMax
setting_of (Device a b p) = IoMax
setting_of (Maximum r l) = Max r

abbrev IsFor : Setting → Option SettingValue → Type 0
IsFor s None = Unit {0}
IsFor s (Some v) = setting_of v ≡ s

mapped-is-for : {A : Type 0} (s : Setting) (f : A → SettingValue) (a : Option A) → ((x : A) → setting_of (f x) ≡ s)
    → IsFor s (mapped f a)
mapped-is-for s f None h = tt
mapped-is-for s f (Some x) h = h x

bandwidth_of-is-for : (q : Option Limit) (p : Option ℕ) → IsFor CpuMax (bandwidth_of q p)
bandwidth_of-is-for None p = tt
bandwidth_of-is-for (Some q) None = tt
bandwidth_of-is-for (Some q) (Some p) = refl

bandwidth_words-is-for : (ws : List (List ℕ)) → IsFor CpuMax (bandwidth_words ws)
bandwidth_words-is-for [] = tt
bandwidth_words-is-for (w ∷ []) = mapped-is-for CpuMax Quota (limit_word w) (λ q. refl)
bandwidth_words-is-for (w ∷ v ∷ []) = bandwidth_of-is-for (limit_word w) (number_word v)
bandwidth_words-is-for (w ∷ v ∷ u ∷ us) = tt

device_value-is-for : (a b : Option ℕ) (p : Option Pairs) → IsFor IoMax (device_value a b p)
device_value-is-for None b p = tt
device_value-is-for (Some a) None p = tt
device_value-is-for (Some a) (Some b) None = tt
device_value-is-for (Some a) (Some b) (Some p) = refl

device_words-is-for : (ws : List (List ℕ)) → IsFor IoMax (device_words ws)
device_words-is-for [] = tt
device_words-is-for (w ∷ ws) = device_value-is-for (number_word (before colon w)) (number_word (after colon w)) (pairs_from no_pairs ws)

value_of-is-for : (s : Setting) (ws : List (List ℕ)) → IsFor s (value_of s ws)
unfolding value_of
value_of-is-for CpuWeight ws = mapped-is-for CpuWeight Weight (one_word number_word ws) (λ n. refl)
value_of-is-for CpuMax ws = bandwidth_words-is-for ws
value_of-is-for IoMax ws = device_words-is-for ws
value_of-is-for (Max r) ws = mapped-is-for (Max r) (Maximum r) (one_word limit_word ws) (λ l. refl)

pub setting_of-value_of : (s : Setting) (ws : List (List ℕ)) (v : SettingValue) → value_of s ws ≡ Some v → setting_of v ≡ s
setting_of-value_of s ws v e = subst (IsFor s) e (value_of-is-for s ws)
