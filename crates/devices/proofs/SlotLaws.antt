-- A slot after a line, and the slot of a device. Assumes nothing.
use Prim.Native.Nat.{ℕ, suc, ◌≤◌, ◌<◌}
use mathlib.Core.List.{List, [], ◌∷◌}
use mathlib.Core.Logic.{◌≢◌}
use mathlib.Core.Path.{◌≡◌, refl, ap, sym, ◌∙◌, fun_ext}
use lib.Dec.{eqb}
use lib.ListN.{length, get_or, drop, drop_of_length-le}
use lib.Seq.{drop-cons}
use borrow.Author.Tests.{eqb-true, eq-eqb, ne_eqb}
use Rattle.model.specs.Functions.{All}
use Rattle.model.specs.Devices.{changed, Pairs}
use Rattle.model.specs.declared.Key.{Key}
use Rattle.model.specs.declared.Key.TheVariants.{Rbps, Wbps, Riops, Wiops}
use Rattle.model.proofs.FunctionLaws.{split}
use Rattle.devices.specs.LimitWords.{limit_in}
use Rattle.devices.specs.Slots.{unlimited, free_slot, limits_of, slot_of, SlotChanged}
use Rattle.devices.specs.declared.slot.Slot.{Slot}

-- A slot after a line.
pub slot-changed : (x : Slot) (p : Pairs) (a b c d : ℕ) → limit_in a ≡ changed p (limits_of x) Rbps → limit_in b ≡ changed p (limits_of x) Wbps
    → limit_in c ≡ changed p (limits_of x) Riops → limit_in d ≡ changed p (limits_of x) Wiops
    → SlotChanged x p (record { device = x.device; limits = record { rbps = a; wbps = b; riops = c; wiops = d } })
slot-changed x p a b c d e f g h = record { device = refl; limits = fun_ext same }
  where
    same : (k : Key) → limits_of (record { device = x.device; limits = record { rbps = a; wbps = b; riops = c; wiops = d } }) k ≡ changed p (limits_of x) k
    same Rbps = e
    same Wbps = f
    same Riops = g
    same Wiops = h

-- The slot of a device.
module _ (w : ℕ) (x : Slot) (xs : List Slot) where
  pub slot-here : x.device ≡ w → slot_of w (x ∷ xs) ≡ x
  slot-here h = rw (eq-eqb x.device w h)

  pub slot-later : x.device ≢ w → slot_of w (x ∷ xs) ≡ slot_of w xs
  slot-later h = rw (ne_eqb x.device w h)

-- among the slots from a place on
module _ (w : ℕ) (xs : List Slot) where
  pub slot-of-none : (k : ℕ) (x : Slot) → length xs ≤ k → x ≡ unlimited w → x ≡ slot_of w (drop k xs)
  slot-of-none k x h e = rw (drop_of_length-le xs {i = k} h) e

  module _ (k : ℕ) (l : k < length xs) where
    first : drop k xs ≡ get_or xs k free_slot ∷ drop (suc k) xs
    first = drop-cons xs k free_slot l

    pub slot-at : (get_or xs k free_slot).device ≡ w → get_or xs k free_slot ≡ slot_of w (drop k xs)
    slot-at h = rw first (sym (slot-here w (get_or xs k free_slot) (drop (suc k) xs) h))

    pub slot-past : (get_or xs k free_slot).device ≢ w → (m : ℕ) (x : Slot) → m ≡ suc k → x ≡ slot_of w (drop m xs) → x ≡ slot_of w (drop k xs)
    slot-past h m x e f = f ∙ ap (λ j. slot_of w (drop j xs)) e ∙ rw first (sym (slot-later w (get_or xs k free_slot) (drop (suc k) xs) h))

pub slot-device : (w : ℕ) (xs : List Slot) → (slot_of w xs).device ≡ w
slot-device w [] = refl
slot-device w (x ∷ xs) =
    split (eqb x.device w) (λ y. rw y (eqb-true x.device w y)) (λ n. rw n (slot-device w xs))

-- among free slots there is none
pub slot-of-free : (w : ℕ) (xs : List Slot) → w ≢ 0 → All (λ x. x ≡ free_slot) xs → slot_of w xs ≡ unlimited w
unfolding All
slot-of-free w [] h f = refl
slot-of-free w (x ∷ xs) h f =
    let z : x.device ≡ 0 = ap (λ (s : Slot). s.device) f.0 in
    rw (ne_eqb x.device w (λ e. h (sym e ∙ z))) (slot-of-free w xs h f.1)
