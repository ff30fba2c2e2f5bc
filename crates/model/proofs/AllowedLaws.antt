-- What is allowed of settings, in a group when it is made, after a reset, and after a value: ranges, and the table of io.max.
-- Assumes nothing.
use Rattle.std.specs.Prelude.{Option, Some, None}
use Prim.Native.Nat.{ℕ, ◌<◌}
use native.Mathlib.Omega.{arith}
use mathlib.Core.Bool.{Bool, true, false}
use mathlib.Core.List.{List, [], ◌∷◌, map}
use mathlib.Core.Path.{◌≡◌, refl, ap, sym, subst}
use lib.Dec.{leb, ltb}
use lib.ListN.{length}
use borrow.Author.Tests.{leb-true, le-leb, ltb-true, lt-ltb}
use Rattle.model.specs.Functions.{All}
use Rattle.model.specs.Sizes.{device_numbers, most_devices}
use Rattle.model.specs.Devices.{device_of, major_of, minor_of, pair_of, or_before, all_max, DeviceLimits, Ascending, limits_at, changed, with_device, Table, Pairs}
use Rattle.model.specs.Tree.{CpuSettings, Settings, new_settings}
use Rattle.model.specs.Figures.{figure_in}
use Rattle.model.specs.DeviceLines.{device_in, rate_in, pair_in, pairs_in}
use Rattle.model.specs.Settings.{setting_controller, largest, in_range, to_amount, to_figure, map_limit, assign, has_room, shown_device, shown, piece, reset, Allowed}
use Rattle.model.specs.declared.Resource.{Resource}
use Rattle.model.specs.declared.Resource.TheVariants.{Pages, Processes}
use Rattle.model.specs.declared.Limit.{Limit}
use Rattle.model.specs.declared.Limit.TheVariants.{NoLimit, Figure}
use Rattle.model.specs.declared.Controller.{Controller}
use Rattle.model.specs.declared.Controller.TheVariants.{Io}
use Rattle.model.specs.declared.Key.{Key}
use Rattle.model.specs.declared.Setting.{Setting}
use Rattle.model.specs.declared.Setting.TheVariants.{CpuWeight, CpuMax, IoMax, Max}
use Rattle.model.specs.declared.SettingValue.{SettingValue}
use Rattle.model.specs.declared.SettingValue.TheVariants.{Weight, Quota, Bandwidth, Device, Maximum}
use Rattle.model.proofs.FunctionLaws.{split, and_left, and_right, all_map, all-images, all-of-images}
use Rattle.model.proofs.FigureLaws.{between_le}
use Rattle.model.proofs.DeviceLaws.{of-keys, every-key, all-with-device, of-limits-at, ascending-with-device}
use Rattle.model.proofs.SettingLaws.{rounded-down, with_limit-all, range-of-period}
use Rattle.model.proofs.PieceLaws.{piece-reset, piece-kept}

-- What is allowed, after a change.
abbrev InRange : SettingValue → Type 0
InRange v = in_range v ≡ true

table-new : Table []
unfolding Ascending All
table-new = record { ascending = tt; limited = tt; few = omega arith }

pub allowed-new : Allowed new_settings
unfolding in_range shown All
allowed-new = record { values = values; table = table-new }
  where
    values : (s : Setting) → All InRange (shown s new_settings)
    values CpuWeight = (refl, tt)
    values CpuMax = (refl, tt)
    values IoMax = tt
    values (Max r) = (refl, tt)

-- what a setting shows is its controller's part alone
shown-of-piece : (s : Setting) (st su : Settings) → piece (setting_controller s) st ≡ piece (setting_controller s) su → shown s st ≡ shown s su
unfolding shown
shown-of-piece CpuWeight st su e = ap (λ (x : CpuSettings). Weight x.weight ∷ []) e
shown-of-piece CpuMax st su e = ap (λ (x : CpuSettings). Bandwidth x.quota x.period ∷ []) e
shown-of-piece IoMax st su e = ap (map shown_device) e
shown-of-piece (Max Pages) st su e = ap (λ (l : Limit). Maximum Pages (map_limit (to_figure Pages) l) ∷ []) e
shown-of-piece (Max Processes) st su e = ap (λ (l : Limit). Maximum Processes (map_limit (to_figure Processes) l) ∷ []) e

pub allowed-after-reset : (gone : Controller → Bool) (st : Settings) → Allowed st → Allowed (reset gone st)
allowed-after-reset gone st h =
    record {
      values = λ s.
          let c : Controller = setting_controller s in
          split (gone c)
          (λ y. rw (shown-of-piece s (reset gone st) new_settings (piece-reset gone c st y)) (allowed-new.values s))
          (λ n. rw (shown-of-piece s (reset gone st) st (piece-kept gone c st n)) (h.values s));
      table =
          split (gone Io)
          (λ y. subst Table (sym (piece-reset gone Io st y)) table-new)
          (λ n. subst Table (sym (piece-kept gone Io st n)) h.table);
    }

-- rounding does not leave the range
figure_in-rounded : (r : Resource) (l : Limit) → figure_in 0 (largest r) l ≡ true
    → figure_in 0 (largest r) (map_limit (to_figure r) (map_limit (to_amount r) l)) ≡ true
figure_in-rounded r NoLimit e = refl
figure_in-rounded r (Figure n) e =
    let m = to_figure r (to_amount r n) in
    rw (le-leb 0 m (omega arith), le-leb m (largest r) (omega (arith, (rounded-down r n).no_more, between_le 0 (largest r) n e)))

-- a device and its limits, in range: shown, given, and after a line
device-in-range : (d : ℕ) (l : Key → Limit) → major_of d < device_numbers → ((k : Key) → rate_in (l k) ≡ true)
    → InRange (shown_device (record { device = d; limit = l }))
unfolding in_range
device-in-range d l h f =
    rw (lt-ltb (major_of d) device_numbers h, lt-ltb (minor_of d) device_numbers (omega arith)) (every-key (λ k. rate_in (l k)) f)

pub limits-in-range : (x : DeviceLimits) → InRange (shown_device x) → (k : Key) → rate_in (x.limit k) ≡ true
unfolding in_range
limits-in-range x h = of-keys (λ k. rate_in (x.limit k)) (and_right (device_in (major_of x.device) (minor_of x.device)) _ h)

given-or-before : (o : Option Limit) (l : Limit) → pair_in o ≡ true → rate_in l ≡ true → rate_in (or_before l o) ≡ true
given-or-before None l g h = h
given-or-before (Some m) l g h = g

-- a device written
module _ (a b : ℕ) (p : Pairs) (st : Settings) (e : InRange (Device a b p)) (h : Allowed st) where
  abbrev written-limits : Key → Limit
  written-limits = changed p (limits_at (device_of a b) st.io)

  abbrev written-table : List DeviceLimits
  written-table = with_device (device_of a b) written-limits st.io

  before-in-range : All (λ x. InRange (shown_device x)) st.io
  unfolding shown
  before-in-range = all-of-images InRange shown_device st.io (h.values IoMax)

  written-in-range : (k : Key) → rate_in (written-limits k) ≡ true
  unfolding in_range
  written-in-range k =
      given-or-before (pair_of p k) _ (of-keys (λ j. pair_in (pair_of p j)) (and_right (device_in a b) _ e) k)
      (of-limits-at (λ l. rate_in l ≡ true) (device_of a b) st.io refl
      (all_map _ _ st.io limits-in-range before-in-range) k)

  number-in-range : major_of (device_of a b) < device_numbers
  unfolding in_range
  number-in-range =
      let d : device_in a b ≡ true = and_left (device_in a b) (pairs_in p) e in
      let x : a < device_numbers = ltb-true a device_numbers (and_left (ltb a device_numbers) (ltb b device_numbers) d) in
      let y : b < device_numbers = ltb-true b device_numbers (and_right (ltb a device_numbers) (ltb b device_numbers) d) in
      omega arith

  devices-in-range : All InRange (map shown_device written-table)
  devices-in-range =
      all-images InRange shown_device written-table
      (all-with-device (λ x. InRange (shown_device x)) (device_of a b) written-limits
      (λ _. device-in-range (device_of a b) written-limits number-in-range written-in-range) st.io before-in-range)

  table-after-write : leb (length written-table) most_devices ≡ true → Table written-table
  table-after-write room =
      record {
        ascending = ascending-with-device (device_of a b) written-limits 0 st.io (omega arith) h.table.ascending;
        limited =
            all-with-device (λ x. all_max x.limit ≡ false) (device_of a b) written-limits (λ n. n) st.io h.table.limited;
        few = leb-true (length written-table) most_devices room;
      }

values-after-assign : (v : SettingValue) (st : Settings) → InRange v → Allowed st → (s : Setting) → All InRange (shown s (assign v st))
unfolding in_range shown assign All
values-after-assign (Weight n) st e h CpuWeight = (e, tt)
values-after-assign (Weight n) st e h CpuMax = h.values CpuMax
values-after-assign (Weight n) st e h IoMax = h.values IoMax
values-after-assign (Weight n) st e h (Max r) = h.values (Max r)
values-after-assign (Quota q) st e h CpuWeight = h.values CpuWeight
values-after-assign (Quota q) st e h CpuMax =
    (rw e (range-of-period st.cpu.quota st.cpu.period (h.values CpuMax).0), tt)
values-after-assign (Quota q) st e h IoMax = h.values IoMax
values-after-assign (Quota q) st e h (Max r) = h.values (Max r)
values-after-assign (Bandwidth q p) st e h CpuWeight = h.values CpuWeight
values-after-assign (Bandwidth q p) st e h CpuMax = (e, tt)
values-after-assign (Bandwidth q p) st e h IoMax = h.values IoMax
values-after-assign (Bandwidth q p) st e h (Max r) = h.values (Max r)
values-after-assign (Device a b p) st e h CpuWeight = h.values CpuWeight
values-after-assign (Device a b p) st e h CpuMax = h.values CpuMax
values-after-assign (Device a b p) st e h IoMax = devices-in-range a b p st e h
values-after-assign (Device a b p) st e h (Max r) = h.values (Max r)
values-after-assign (Maximum r l) st e h CpuWeight = h.values CpuWeight
values-after-assign (Maximum r l) st e h CpuMax = h.values CpuMax
values-after-assign (Maximum r l) st e h IoMax = h.values IoMax
values-after-assign (Maximum r l) st e h (Max x) = (
  with_limit-all (λ y m. figure_in 0 (largest y) (map_limit (to_figure y) m) ≡ true) r _ st.limit
      (figure_in-rounded r l e) (λ y. (h.values (Max y)).0) x,
  tt,
)

table-after-assign : (v : SettingValue) (st : Settings) → InRange v → has_room st v ≡ true → Allowed st → Table (assign v st).io
unfolding assign has_room
table-after-assign (Weight n) st e r h = h.table
table-after-assign (Quota q) st e r h = h.table
table-after-assign (Bandwidth q p) st e r h = h.table
table-after-assign (Device a b p) st e r h = table-after-write a b p st e h r
table-after-assign (Maximum x l) st e r h = h.table

pub allowed-after-assign : (v : SettingValue) (st : Settings) → in_range v ≡ true → has_room st v ≡ true → Allowed st → Allowed (assign v st)
allowed-after-assign v st e r h = record { values = values-after-assign v st e h; table = table-after-assign v st e r h }
