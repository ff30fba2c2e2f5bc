-- A line for a device: the table after it, which is stored where there is room. Assumes nothing.
use Rattle.std.specs.Prelude.{Option, Some, None, Ok, Err}
use Prim.Native.Nat.{ℕ, ◌*◌, ◌<◌}
use native.Mathlib.Omega.{arith}
use mathlib.Core.Bool.{true}
use mathlib.Core.List.{List}
use mathlib.Core.Path.{◌≡◌, refl, ap, sym, ◌∙◌}
use lib.Dec.{ltb, leb}
use lib.ListN.{length}
use borrow.Author.Tests.{ltb-true, le-leb, lt-leb}
use Rattle.model.specs.Sizes.{device_numbers, most_devices, largest_rate}
use Rattle.model.specs.Devices.{DeviceLimits, device_of, pair_of, after_line, Pairs}
use Rattle.model.specs.DeviceLines.{device_in, pair_in, pairs_in}
use Rattle.model.specs.Tree.{Settings, with_io, with_settings, settings_at}
use Rattle.model.specs.Settings.{in_range, assign, has_room}
use Rattle.model.specs.Effects.{written}
use Rattle.model.specs.declared.Limit.{Limit}
use Rattle.model.specs.declared.Limit.TheVariants.{NoLimit, Figure}
use Rattle.model.specs.declared.Key.{Key}
use Rattle.model.specs.declared.Errno.TheVariants.{Enospc}
use Rattle.model.specs.declared.SettingValue.TheVariants.{Device}
use Rattle.model.proofs.FunctionLaws.{and_left, and_right}
use Rattle.model.proofs.FigureLaws.{between_le}
use Rattle.model.proofs.DeviceLaws.{of-keys}
use Rattle.devices.specs.LimitWords.{StorablePair, StorablePairs}
use Rattle.devices.specs.Slots.{table_of, InOrder, Held}
use Rattle.devices.specs.declared.slot.Slot.{Slot}
use Rattle.tree.specs.Layout.{view}
use Rattle.tree.specs.Changes.{Slotted, Wrote, io_set}
use Rattle.tree.proofs.SlotLaws.{in_order}
use Rattle.control.specs.Values.{Settable, Stored, store_answer}
use Rattle.control.proofs.WroteLaws.{wrote-group-as}

-- a pair in its range has a word
storable-pair : (p : Option Limit) → pair_in p ≡ true → StorablePair p
storable-pair None e = tt
storable-pair (Some NoLimit) e = tt
storable-pair (Some (Figure n)) e = omega (arith, between_le 1 largest_rate n e)

module _ (xs : List ℕ) (g a b : ℕ) (p : Pairs) (k : Settable xs g (Device a b p)) where
  abbrev settings : Settings
  settings = settings_at (view xs) g

  numbers : device_in a b ≡ true
  unfolding in_range
  numbers = and_left (device_in a b) (pairs_in p) k.within

  pub numbers-low : (a < device_numbers) × (b < device_numbers)
  numbers-low =
      (ltb-true a device_numbers (and_left (ltb a device_numbers) _ numbers), ltb-true b device_numbers (and_right (ltb a device_numbers) _ numbers))

  rates : (key : Key) → pair_in (pair_of p key) ≡ true
  unfolding in_range
  rates = of-keys (λ key. pair_in (pair_of p key)) (and_right (device_in a b) (pairs_in p) k.within)

  module _ {s : List Slot} {d : ℕ} (h : Slotted xs g s) (e : d ≡ device_of a b) where
    pub line-ready : InOrder s × ((d < device_numbers * device_numbers) × StorablePairs p)
    line-ready = (in_order xs g s k.at h, (omega (arith, numbers-low.0, numbers-low.1), (λ key. storable-pair (pair_of p key) (rates key))))

    -- the table after the line is that of the definitions
    abbrev table : List DeviceLimits
    table = after_line d p (table_of s)

    table_same : table ≡ (assign (Device a b p) settings).io
    unfolding assign
    table_same = ap (λ (n : ℕ). after_line n p (table_of s)) e ∙ ap (after_line (device_of a b) p) h.table

    room-same : leb (length table) most_devices ≡ has_room settings (Device a b p)
    unfolding has_room
    room-same = ap (λ (l : List DeviceLimits). leb (length l) most_devices) table_same

    pub stored-none : most_devices < length table → Stored xs xs g (Device a b p) (Err Enospc)
    stored-none n = record { room = sym (ap store_answer (sym room-same ∙ lt-leb (length table) most_devices n)); done = λ y. cc; same = λ _. refl }

    pub stored-device : {r : List Slot} → Held table r → (ys : List ℕ) → Wrote xs ys (io_set (view xs) g (table_of r)) → Stored xs ys g (Device a b p) (Ok tt)
    unfolding assign
    stored-device {r} w ys o =
        record {
          room = sym (ap store_answer (sym room-same ∙ le-leb (length table) most_devices w.few));
          done = λ _. wrote-group-as xs g group-after o;
          same = λ n. cc;
        }
      where
        group-after : with_settings (with_io (table_of r) settings) ((view xs).group g) ≡ written (Some (Device a b p)) ((view xs).group g)
        group-after = ap (λ (l : List DeviceLimits). with_settings (with_io l settings) ((view xs).group g)) (w.table ∙ table_same)
