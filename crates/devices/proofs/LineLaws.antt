-- A line for a device: its slot written, either way, and what that makes of the table. Assumes nothing.
use Rattle.std.specs.Prelude.{Option, Some}
use Prim.Native.Nat.{ℕ, ◌+◌, ◌-◌}
use native.Mathlib.Omega.{arith}
use mathlib.Core.Bool.{true, false}
use mathlib.Core.List.{List}
use mathlib.Core.Logic.{◌≢◌}
use mathlib.Core.Path.{◌≡◌, ap, sym, ◌∙◌, subst, fun_ext}
use lib.ListN.{length}
use Rattle.model.specs.Sizes.{most_devices}
use Rattle.model.specs.Devices.{DeviceLimits, all_max, limits_at, changed, with_device, Pairs}
use Rattle.model.specs.declared.Limit.{Limit}
use Rattle.model.specs.declared.Key.{Key}
use Rattle.devices.specs.Slots.{limits_of, table_of, Packed, kept, carried, put_in, without, slot_of, InOrder, Holds, SlotChanged, Written, LineWritten}
use Rattle.devices.specs.declared.slot.Slot.{Slot}
use Rattle.devices.proofs.SlotLaws.{slot-device}
use Rattle.devices.proofs.TableLaws.{slot-limits, table-few, held-in}
use Rattle.devices.proofs.PassLaws.{kept-long, pass-with-device, packed-passed}
use Rattle.devices.proofs.WithoutLaws.{packed-without, without-with-device}

-- a slot written, either way
module _ (s : List Slot) (x : Slot) (k : InOrder s) (l : length s ≡ most_devices) (h : x.device ≢ 0) where
  pub written_out : (r : List Slot) → length r ≡ most_devices → all_max (limits_of x) ≡ true → r ≡ without x.device s → Written s x (Some r)
  written_out r long m e =
      let same : table_of r ≡ with_device (x.device - 1) (limits_of x) (table_of s) =
      ap table_of e ∙ without-with-device x.device h (limits_of x) m 0 s k.ascending in
      record { few = omega (arith, table-few r, ap length same, long); table = same; packed = subst Packed (sym e) (packed-without x.device h s k.packed) }

  pub written_in : (r : Option (List Slot)) → all_max (limits_of x) ≡ false → r ≡ put_in x s → Written s x r
  written_in r m e =
      rw e
      (held-in _ (kept x s) (carried x s) (pass-with-device 0 x s h m k.packed k.ascending) (packed-passed x s (λ z. absurd (h z)) k.packed) (kept-long x s ∙ l))

-- A line for a device.
module _ (s : List Slot) (d : ℕ) (p : Pairs) (x : Slot) (k : Packed s) (e : SlotChanged (slot_of (d + 1) s) p x) where
  number : x.device - 1 ≡ d
  number =
      let f : x.device ≡ d + 1 = e.device ∙ slot-device (d + 1) s in
      omega arith

  limits : limits_of x ≡ changed p (limits_at d (table_of s))
  limits = e.limits ∙ ap (changed p) (fun_ext (slot-limits d s k))

  pub line-written : (r : Option (List Slot)) → Written s x r → LineWritten s d p r
  line-written r w =
      subst (λ (t : List DeviceLimits). Holds t r)
      (ap (λ (n : ℕ). with_device n (limits_of x) (table_of s)) number
      ∙ ap (λ (l : Key → Limit). with_device d l (table_of s)) limits)
      w
