-- Laws of the settings' text: what a file shows of a value is read as that value, has no newline in it, and is short enough for a
-- line. Assumes nothing.
use Rattle.std.specs.Prelude.{Some}
use Prim.Native.Nat.{ℕ, ◌^◌, ◌≤◌, ◌<◌}
use native.Mathlib.Omega.{arith}
use mathlib.Core.Bool.{true}
use mathlib.Core.List.{◌∷◌}
use mathlib.Core.Logic.{◌≢◌}
use mathlib.Core.Path.{◌≡◌, refl}
use lib.Dec.{ltb}
use lib.ListN.{length, length-append}
use borrow.Author.Tests.{ltb-true}
use Rattle.model.specs.Functions.{All}
use Rattle.model.specs.Sizes.{device_numbers, longest_shown}
use Rattle.model.specs.Devices.{major_of, minor_of, DeviceLimits}
use Rattle.model.specs.Tree.{Settings}
use Rattle.model.specs.Text.{newline, space, words, one_word, decimal}
use Rattle.model.specs.Figures.{limit_text}
use Rattle.model.specs.DeviceLines.{device_in, pairs_in}
use Rattle.model.specs.Settings.{value_of, largest, in_range, to_figure, map_limit, shown_device, shown, value_text}
use Rattle.model.specs.declared.Resource.{Resource}
use Rattle.model.specs.declared.Resource.TheVariants.{Pages, Processes}
use Rattle.model.specs.declared.Limit.{Limit}
use Rattle.model.specs.declared.Setting.{Setting}
use Rattle.model.specs.declared.Setting.TheVariants.{CpuWeight, CpuMax, IoMax, Max}
use Rattle.model.specs.declared.SettingValue.{SettingValue}
use Rattle.model.specs.declared.SettingValue.TheVariants.{Weight, Quota, Bandwidth, Device, Maximum}
use Rattle.model.proofs.FunctionLaws.{and_left, and_right, all_of, all_map, all_append, all-images, all-of-images}
use Rattle.model.proofs.TextLaws.{Unbroken, words-one, words-two}
use Rattle.model.proofs.DecimalLaws.{decimal-without, word-of-decimal, number_word-decimal}
use Rattle.model.proofs.FigureLaws.{limit_word-limit_text, word-of-limit_text, limit_text-without, length-figure, length-limit_text}
use Rattle.model.proofs.DeviceLineLaws.{given-all, major-back, minor-back, pairs-back, words-of-line, unbroken-line, length-of-line}
use Rattle.model.proofs.SettingLaws.{range-of-quota, range-of-period}
use Rattle.model.proofs.AllowedLaws.{limits-in-range}

-- Reading back.
abbrev pub ReadsBack : Setting → SettingValue → Type 0
ReadsBack s v = value_of s (words (value_text v)) ≡ Some v

device-reads-back : (x : DeviceLimits) → ReadsBack IoMax (shown_device x)
unfolding value_of value_text
device-reads-back x = rw (words-of-line, major-back, minor-back, pairs-back x.limit)

pub shown-reads-back : (s : Setting) (st : Settings) → All (ReadsBack s) (shown s st)
unfolding one_word value_of shown value_text All
shown-reads-back CpuWeight st = (rw (words-one, word-of-decimal, number_word-decimal), tt)
shown-reads-back CpuMax st = (rw (words-two, word-of-limit_text, word-of-decimal, limit_word-limit_text, number_word-decimal), tt)
shown-reads-back IoMax st = all-images (ReadsBack IoMax) shown_device st.io (all_of _ device-reads-back st.io)
shown-reads-back (Max r) st = (rw (words-one, word-of-limit_text, limit_word-limit_text), tt)

-- No newline.
unbroken-limit : (l : Limit) → Unbroken (limit_text l)
unfolding All
unbroken-limit l = limit_text-without newline l refl (omega arith)

pub unbroken-value : (v : SettingValue) → Unbroken (value_text v)
unfolding value_text All
unbroken-value (Weight n) = decimal-without newline n refl
unbroken-value (Quota q) = unbroken-limit q
unbroken-value (Bandwidth q p) =
    all_append (λ b. b ≢ newline) (limit_text q) (space ∷ decimal p) (unbroken-limit q) ((λ e. omega arith), decimal-without newline p refl)
unbroken-value (Device a b p) = unbroken-line a b p
unbroken-value (Maximum r l) = unbroken-limit l

-- Lengths.
length-quota : (q : Limit) (p : ℕ) → in_range (Bandwidth q p) ≡ true → length (limit_text q) ≤ 16
length-quota q p e = length-limit_text 1000 1000000000 q (omega arith) (range-of-quota q p e)

largest-lt : (r : Resource) → largest r < 10 ^ 16
largest-lt Pages = omega arith
largest-lt Processes = omega arith

-- the value of a setting is shown in at most so many bytes, without its newline
abbrev Short : SettingValue → Type 0
Short v = length (value_text v) < longest_shown

device-short : (x : DeviceLimits) → in_range (shown_device x) ≡ true → Short (shown_device x)
unfolding in_range value_text
device-short x e =
    let a : ℕ = major_of x.device in
    let b : ℕ = minor_of x.device in
    let d : device_in a b ≡ true = and_left (device_in a b) (pairs_in (given-all x.limit)) e in
    omega (
      arith,
      length-of-line a b x.limit (ltb-true a device_numbers (and_left (ltb a device_numbers) (ltb b device_numbers) d))
          (ltb-true b device_numbers (and_right (ltb a device_numbers) (ltb b device_numbers) d)) (limits-in-range x e),
    )

pub shown-short : (s : Setting) (st : Settings) → All (λ v. in_range v ≡ true) (shown s st) → All Short (shown s st)
unfolding in_range shown value_text All
shown-short CpuWeight st h = (omega (arith, length-figure 1 10000 st.cpu.weight (omega arith) h.0), tt)
shown-short CpuMax st h =
    let q : Limit = st.cpu.quota in
    let p : ℕ = st.cpu.period in
    let k = length-figure 1000 1000000 p (omega arith) (range-of-period q p h.0) in
    (simp length-append (omega (arith, length-quota q p h.0)), tt)
shown-short IoMax st h =
    all-images Short shown_device st.io (all_map _ _ st.io device-short (all-of-images (λ v. in_range v ≡ true) shown_device st.io h))
shown-short (Max r) st h =
    (omega (arith, length-limit_text 0 (largest r) (map_limit (to_figure r) (st.limit r)) (largest-lt r) h.0), tt)
