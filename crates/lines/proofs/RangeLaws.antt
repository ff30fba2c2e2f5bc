-- Laws of ranges: clipping. Assumes nothing.
use Rattle.std.specs.Prelude.{Option, Some, None}
use Prim.Native.Nat.{ℕ, ◌-◌, ◌^◌, ◌<◌}
use mathlib.Core.Bool.{Bool, true, false, ◌&&◌}
use mathlib.Core.Path.{◌≡◌, refl, ap, ap₂, sym, ◌∙◌}
use native.Mathlib.Omega.{arith}
use lib.Dec.{leb, ltb}
use borrow.Author.Tests.{lt-leb, ltb-true, ltb-false, lt-ltb, le-ltb}
use Rattle.model.specs.Sizes.{device_numbers, largest_rate}
use Rattle.model.specs.Devices.{pair_of, Pairs}
use Rattle.model.specs.DeviceLines.{device_in, pair_in, pairs_in}
use Rattle.model.specs.Settings.{between, figure_in, largest, in_range}
use Rattle.model.specs.declared.Resource.{Resource}
use Rattle.model.specs.declared.Resource.TheVariants.{Pages, Processes}
use Rattle.model.specs.declared.Limit.{Limit}
use Rattle.model.specs.declared.Limit.TheVariants.{NoLimit, Figure}
use Rattle.model.specs.declared.Key.{Key}
use Rattle.model.specs.declared.Key.TheVariants.{Rbps, Wbps, Riops, Wiops}
use Rattle.model.specs.declared.SettingValue.{SettingValue}
use Rattle.model.specs.declared.SettingValue.TheVariants.{Weight, Quota, Bandwidth, Device, Maximum}
use Rattle.model.proofs.FunctionLaws.{split, and_left, and_right}
use Rattle.model.proofs.FigureLaws.{between_le}
use Rattle.model.proofs.DeviceLaws.{of-keys}
use Rattle.model.proofs.SettingLaws.{range-of-quota, range-of-period}
use Rattle.text.specs.Number.{clip}
use Rattle.text.specs.Limit.{clipped_limit}
use Rattle.lines.specs.Pair.{clipped_pair, clipped_pairs}
use Rattle.lines.specs.Value.{clipped}

-- ---- a range

module _ (low high n : ℕ) where
  above-range : high < n → between low high n ≡ false
  above-range h = rw (lt-leb n high h) (go (leb low n))
    where
      go : (t : Bool) → t && false ≡ false
      go true = refl
      go false = refl

-- ---- clipping: it does not change whether a value is in its range, and leaves a value that is

module _ (low high : ℕ) (fits : high < 2 ^ 64 - 1) where
  between-clip : (n : ℕ) → between low high (clip n) ≡ between low high n
  between-clip n =
      split (ltb n (2 ^ 64))
      (λ y. let e : clip n ≡ n = omega (arith, ltb-true n (2 ^ 64) y) in ap (between low high) e)
      (λ x. let h = ltb-false n (2 ^ 64) x in above-range low high (clip n) (omega arith) ∙ sym (above-range low high n (omega arith)))

  clip-between : (n : ℕ) → between low high n ≡ true → clip n ≡ n
  clip-between n h = omega (arith, between_le low high n h)

  figure_in-clip : (l : Limit) → figure_in low high (clipped_limit l) ≡ figure_in low high l
  figure_in-clip NoLimit = refl
  figure_in-clip (Figure n) = between-clip n

  clip-figure_in : (l : Limit) → figure_in low high l ≡ true → clipped_limit l ≡ l
  clip-figure_in NoLimit h = refl
  clip-figure_in (Figure n) h = ap Figure (clip-between n h)

largest-fits : (r : Resource) → largest r < 2 ^ 64 - 1
largest-fits Pages = omega arith
largest-fits Processes = omega arith

below-clip : (n : ℕ) → ltb (clip n) device_numbers ≡ ltb n device_numbers
below-clip n =
    split (ltb n device_numbers)
    (λ y. rw y (lt-ltb (clip n) device_numbers (omega (arith, ltb-true n device_numbers y))))
    (λ x. rw x (le-ltb (clip n) device_numbers (omega (arith, ltb-false n device_numbers x))))

clip-below : (n : ℕ) → ltb n device_numbers ≡ true → clip n ≡ n
clip-below n h = omega (arith, ltb-true n device_numbers h)

pair_in-clip : (x : Option Limit) → pair_in (clipped_pair x) ≡ pair_in x
pair_in-clip None = refl
pair_in-clip (Some l) = figure_in-clip 1 largest_rate (omega arith) l

clip-pair_in : (x : Option Limit) → pair_in x ≡ true → clipped_pair x ≡ x
clip-pair_in None h = refl
clip-pair_in (Some l) h = ap Some (clip-figure_in 1 largest_rate (omega arith) l h)

pairs_in-clip : (p : Pairs) → pairs_in (clipped_pairs p) ≡ pairs_in p
pairs_in-clip p = simp pair_in-clip

clip-pairs_in : (p : Pairs) → pairs_in p ≡ true → clipped_pairs p ≡ p
clip-pairs_in p h =
    let same : (k : Key) → clipped_pair (pair_of p k) ≡ pair_of p k = (λ k. clip-pair_in (pair_of p k) (of-keys (λ j. pair_in (pair_of p j)) h k)) in
    λ i. record { rbps = same Rbps i; wbps = same Wbps i; riops = same Riops i; wiops = same Wiops i }

pub range-of-clipped : (v : SettingValue) → in_range (clipped v) ≡ in_range v
unfolding in_range
range-of-clipped (Weight n) = between-clip 1 10000 (omega arith) n
range-of-clipped (Quota q) = figure_in-clip 1000 1000000000 (omega arith) q
range-of-clipped (Bandwidth q p) =
    ap₂ ◌&&◌ (figure_in-clip 1000 1000000000 (omega arith) q) (between-clip 1000 1000000 (omega arith) p)
range-of-clipped (Device a b p) = ap₂ ◌&&◌ (ap₂ ◌&&◌ (below-clip a) (below-clip b)) (pairs_in-clip p)
range-of-clipped (Maximum r l) = figure_in-clip 0 (largest r) (largest-fits r) l

pub clipped-in-range : (v : SettingValue) → in_range v ≡ true → clipped v ≡ v
unfolding in_range
clipped-in-range (Weight n) h = ap Weight (clip-between 1 10000 (omega arith) n h)
clipped-in-range (Quota q) h = ap Quota (clip-figure_in 1000 1000000000 (omega arith) q h)
clipped-in-range (Bandwidth q p) h =
    ap₂ Bandwidth (clip-figure_in 1000 1000000000 (omega arith) q (range-of-quota q p h))
    (clip-between 1000 1000000 (omega arith) p (range-of-period q p h))
clipped-in-range (Device a b p) h =
    let d = and_left (device_in a b) _ h in
    let x = clip-below a (and_left (ltb a device_numbers) _ d) in
    let y = clip-below b (and_right (ltb a device_numbers) _ d) in
    let z = clip-pairs_in p (and_right (device_in a b) _ h) in
    λ i. Device (x i) (y i) (z i)
clipped-in-range (Maximum r l) h = ap (Maximum r) (clip-figure_in 0 (largest r) (largest-fits r) l h)
