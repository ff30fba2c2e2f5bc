-- Slots without a device are `with_device` of the table where the device is all "max", and are packed. Assumes nothing.
use Prim.Native.Nat.{ℕ, zero, suc, ◌+◌, ◌-◌, ◌≤◌, ◌<◌}
use native.Mathlib.Omega.{arith}
use mathlib.Core.Bool.{true, false}
use mathlib.Core.List.{List, [], ◌∷◌, ◌++◌}
use mathlib.Core.Logic.{◌≢◌}
use mathlib.Core.Path.{◌≡◌, refl, ap, sym, ◌∙◌}
use lib.Dec.{eqb}
use lib.ListN.{length, get_or}
use Rattle.std.specs.Prelude.{Some, None}
use Rattle.std.specs.List.{remove, position, position_from}
use Rattle.std.proofs.lemmas.Option.{none-some}
use Rattle.std.proofs.lemmas.List.Quantifiers.{position-Some}
use Rattle.std.proofs.lemmas.Iterator.Adapters.{position_from-zero}
use borrow.Author.Tests.{eq-eqb, ne_eqb}
use Rattle.model.specs.Functions.{All}
use Rattle.model.specs.Sizes.{most_devices}
use Rattle.model.specs.Devices.{DeviceLimits, all_max, with_device, Ascending}
use Rattle.model.specs.declared.Limit.{Limit}
use Rattle.model.specs.declared.Key.{Key}
use Rattle.model.proofs.FunctionLaws.{split}
use Rattle.devices.specs.Slots.{free_slot, line_of, table_of, Packed, without, is_of}
use Rattle.devices.specs.declared.slot.Slot.{Slot}
use Rattle.devices.proofs.TableLaws.{taken-or-free, table-free, table_taken, ascending-first, ascending-rest, table-front}
use Rattle.devices.proofs.WithLaws.{compare, entered-max, with_none, with-below, with-same, with-above}

-- a free slot more
all-free-more : (xs : List Slot) → All (λ x. x ≡ free_slot) xs → All (λ x. x ≡ free_slot) (xs ++ (free_slot ∷ []))
unfolding All
all-free-more [] h = (refl, tt)
all-free-more (x ∷ xs) h = (h.0, all-free-more xs h.1)

pub packed_more : (xs : List Slot) → Packed xs → Packed (xs ++ (free_slot ∷ []))
unfolding Packed All
packed_more [] p = ((λ y. (refl, tt)), tt)
packed_more (x ∷ xs) p = ((λ y. ((p.0 y).0, all-free-more xs (p.0 y).1)), packed_more xs p.1)

module _ (w : ℕ) (some : w ≢ 0) where
  all-free-without : (xs : List Slot) → All (λ x. x ≡ free_slot) xs → All (λ x. x ≡ free_slot) (without w xs)
  unfolding without All
  all-free-without [] h = tt
  all-free-without (x ∷ xs) h =
      rw (ne_eqb x.device w (λ e. some (sym e ∙ ap (λ (s : Slot). s.device) h.0))) (h.0, all-free-without xs h.1)

  pub packed-without : (xs : List Slot) → Packed xs → Packed (without w xs)
  unfolding without Packed All
  packed-without [] p = tt
  packed-without (x ∷ xs) p =
      split (eqb x.device w)
      (λ y. rw y (packed_more xs p.1))
      (λ n. rw n ((λ y. ((p.0 y).0, all-free-without xs (p.0 y).1)), packed-without xs p.1))

  -- one that is not there
  without-below : (n : ℕ) (xs : List Slot) → w ≤ n → Ascending n (table_of xs) → table_of (without w xs) ≡ table_of xs
  unfolding without
  without-below n [] h a = refl
  without-below n (x ∷ xs) h a =
      taken-or-free x
      (λ e. rw (ne_eqb x.device w (λ z. some (sym z ∙ e))) (table-free x (without w xs) e ∙ sym (table-free x xs e)))
      (λ t. let k : n < x.device = ascending-first n x xs t a in
      rw (ne_eqb x.device w (λ z. omega arith))
      (table_taken x (without w xs) t
      ∙ ap (λ (l : List DeviceLimits). line_of x ∷ l) (without-below (suc (x.device - 1)) xs (omega arith) (ascending-rest n x xs t a))
      ∙ sym (table_taken x xs t)))

  module _ (l : Key → Limit) (max : all_max l ≡ true) where
    none-left : table_of (without w []) ≡ with_device (w - 1) l (table_of [])
    unfolding without table_of
    none-left = sym (with_none (w - 1) l ∙ entered-max (w - 1) l [] max)

    pub without-with-device : (n : ℕ) (xs : List Slot) → Ascending n (table_of xs) → table_of (without w xs) ≡ with_device (w - 1) l (table_of xs)
    unfolding without
    without-with-device n [] a = none-left
    without-with-device n (x ∷ xs) a =
        taken-or-free x
        (λ e. rw (ne_eqb x.device w (λ z. some (sym z ∙ e)))
        (table-free x (without w xs) e ∙ sym (ap (with_device (w - 1) l) (table-free x xs e) ∙ with_none (w - 1) l ∙ entered-max (w - 1) l [] max)))
        (λ t.
        let old : with_device (w - 1) l (table_of (x ∷ xs)) ≡ with_device (w - 1) l (line_of x ∷ table_of xs) = ap (with_device (w - 1) l) (table_taken x xs t) in
        compare x.device w
        (λ less. rw (ne_eqb x.device w (λ z. omega arith))
        (table_taken x (without w xs) t
        ∙ ap (λ (m : List DeviceLimits). line_of x ∷ m) (without-with-device (suc (x.device - 1)) xs (ascending-rest n x xs t a))
        ∙ sym (old ∙ with-above (w - 1) l (line_of x) (table_of xs) (omega arith))))
        (λ same. rw (eq-eqb x.device w same)
        (table-front xs free_slot refl ∙ sym (old ∙ with-same (w - 1) l (line_of x) (table_of xs) (omega arith) ∙ entered-max (w - 1) l (table_of xs) max)))
        (λ more. rw (ne_eqb x.device w (λ z. omega arith))
        (table_taken x (without w xs) t
        ∙ ap (λ (m : List DeviceLimits). line_of x ∷ m) (without-below (suc (x.device - 1)) xs (omega arith) (ascending-rest n x xs t a))
        ∙ sym (old ∙ with-below (w - 1) l (line_of x) (table_of xs) (omega arith) ∙ entered-max (w - 1) l (line_of x ∷ table_of xs) max))))

-- each place of four taken out
moved : (xs : List Slot) (f : Slot) → length xs ≡ most_devices
    → (get_or xs 1 free_slot ∷ get_or xs 2 free_slot ∷ get_or xs 3 free_slot ∷ f ∷ [] ≡ remove xs 0 ++ (f ∷ []))
    × (get_or xs 0 free_slot ∷ get_or xs 2 free_slot ∷ get_or xs 3 free_slot ∷ f ∷ [] ≡ remove xs 1 ++ (f ∷ []))
    × (get_or xs 0 free_slot ∷ get_or xs 1 free_slot ∷ get_or xs 3 free_slot ∷ f ∷ [] ≡ remove xs 2 ++ (f ∷ []))
    × (get_or xs 0 free_slot ∷ get_or xs 1 free_slot ∷ get_or xs 2 free_slot ∷ f ∷ [] ≡ remove xs 3 ++ (f ∷ []))
moved (a ∷ b ∷ c ∷ d ∷ []) f h = (refl, refl, refl, refl)
moved [] f h = absurd (omega arith)
moved (a ∷ []) f h = absurd (omega arith)
moved (a ∷ b ∷ []) f h = absurd (omega arith)
moved (a ∷ b ∷ c ∷ []) f h = absurd (omega arith)
moved (a ∷ b ∷ c ∷ d ∷ e ∷ xs) f h = absurd (omega arith)

-- by where its slot stands
module _ (w : ℕ) where
  nowhere : (n : ℕ) (xs : List Slot) → position_from (is_of w) n xs ≡ None → xs ≡ without w xs
  unfolding without
  nowhere n [] e = refl
  nowhere n (x ∷ xs) e =
      split (eqb x.device w)
      (λ y. absurd (none-some n (sym (rw y at e))))
      (λ o. rw o (ap (λ (l : List Slot). x ∷ l) (nowhere (n + 1) xs (rw o at e))))

  pub without-none : (xs : List Slot) → position (is_of w) xs ≡ None → xs ≡ without w xs
  without-none xs e = nowhere 0 xs (sym (position_from-zero (is_of w) xs) ∙ e)

  somewhere : (xs : List Slot) (i : ℕ) → i < length xs → is_of w (get_or xs i free_slot) ≡ true → ((k : ℕ) → k < i → is_of w (get_or xs k free_slot) ≡ false)
      → remove xs i ++ (free_slot ∷ []) ≡ without w xs
  unfolding without
  somewhere [] i l y n = absurd (omega arith)
  somewhere (x ∷ xs) zero l y n = rw y
  somewhere (x ∷ xs) (suc i) l y n =
      rw (n 0 (omega arith)) (ap (λ (l : List Slot). x ∷ l) (somewhere xs i (omega arith) y (λ k h. n (suc k) (omega arith))))

  -- the slots but that one, and a free slot behind them
  module _ (xs : List Slot) (i : ℕ) (f : Slot) (long : length xs ≡ most_devices) (e : position (is_of w) xs ≡ Some i) (z : f ≡ free_slot) where
    abbrev at : ℕ → Slot
    at k = get_or xs k free_slot

    found : (i < length xs) × (is_of w (at i) ≡ true) × ((k : ℕ) → k < i → is_of w (at k) ≡ false)
    found = position-Some (is_of w) xs i free_slot e

    taken : (k : ℕ) → i ≡ k → remove xs k ++ (f ∷ []) ≡ without w xs
    taken k h = rw (z, ← h) (somewhere xs i found.0 found.1 found.2)

    pub first-out : i ≡ 0 → at 1 ∷ at 2 ∷ at 3 ∷ f ∷ [] ≡ without w xs
    first-out h = (moved xs f long).0 ∙ taken 0 h

    pub second-out : i ≡ 1 → at 0 ∷ at 2 ∷ at 3 ∷ f ∷ [] ≡ without w xs
    second-out h = (moved xs f long).1 ∙ taken 1 h

    pub third-out : i ≡ 2 → at 0 ∷ at 1 ∷ at 3 ∷ f ∷ [] ≡ without w xs
    third-out h = (moved xs f long).2 ∙ taken 2 h

    pub fourth-out : i ≢ 0 → i ≢ 1 → i ≢ 2 → at 0 ∷ at 1 ∷ at 2 ∷ f ∷ [] ≡ without w xs
    fourth-out m n o = (moved xs f long).3 ∙ taken 3 (omega (arith, found.0, long))
