-- Slots read off a row, stored in it one after another, and what the tree is after all four; and the slots of a live group. Assumes nothing.
use Prim.Native.Nat.{ℕ, ◌+◌, ◌≤◌, ◌<◌}
use native.Mathlib.Omega.{arith}
use mathlib.Core.List.{List}
use mathlib.Core.Path.{◌≡◌, refl, ap, sym, ◌∙◌, subst}
use lib.Dec.{ltb}
use lib.ListN.{length, get_or}
use borrow.Author.Tests.{ltb-true}
use Rattle.std.proofs.lemmas.List.FromFn.{fill_by_all}
use Rattle.model.specs.Functions.{pick}
use Rattle.model.specs.Sizes.{groups, most_devices}
use Rattle.model.specs.Devices.{Ascending}
use Rattle.model.specs.Tree.{Group, with_io, with_settings, settings_of, at_group}
use Rattle.model.proofs.FunctionLaws.{split, whether}
use Rattle.devices.specs.Slots.{free_slot, table_of, Packed, InOrder}
use Rattle.devices.specs.declared.slot.Slot.{Slot}
use Rattle.tree.specs.Layout.{slots_end, row_words, first_word, first_slot, slot_words, slot_field, word, slot_in, slots_in, group_row, view}
use Rattle.tree.specs.Changes.{GroupRow, SlotPut, Slotted, Wrote, io_set}
use Rattle.tree.specs.Kept.{KeptAt}
use Rattle.tree.proofs.RowLaws.{RowPut, group-ext, wrote-slots}

-- the four slots are those of the row
pub slotted : (xs : List ℕ) (g : ℕ) (s : List Slot) → g < groups → s ≡ slots_in (word xs g) → Slotted xs g s
slotted xs g s low e = record { table = ap table_of e; packed = λ p. subst Packed (sym e) (p.rows g low).packed }

-- All four.
slot-ext : (v w : ℕ → ℕ) (j : ℕ) → ((k : ℕ) → j ≤ k → k < j + slot_words → v k ≡ w k) → slot_in v j ≡ slot_in w j
slot-ext v w j e =
    λ i.
    record {
      device = e j (omega arith) (omega arith) i;
      limits =
          record {
            rbps = e (j + 1) (omega arith) (omega arith) i;
            wbps = e (j + 2) (omega arith) (omega arith) i;
            riops = e (j + 3) (omega arith) (omega arith) i;
            wiops = e (j + 4) (omega arith) (omega arith) i;
          };
    }

-- a slot before the one that is stored stays
slot-stays : {xs ys : List ℕ} {g j : ℕ} {x : Slot} → SlotPut xs ys g j x → (i : ℕ) → i + slot_words ≤ j → j < row_words → slot_in (word ys g) i ≡ slot_in (word xs g) i
slot-stays {xs} {ys} {g} p i l m = slot-ext (word ys g) (word xs g) i (λ k from to. p.below g k (omega arith) (omega arith))

-- a row with other slots
row-with-slots : (v w : ℕ → ℕ) → ((k : ℕ) → k < first_slot → w k ≡ v k)
    → group_row w ≡ with_settings (with_io (table_of (slots_in w)) (settings_of (group_row v))) (group_row v)
row-with-slots v w e = group-ext w joined same
  where
    joined : ℕ → ℕ
    joined k = pick (ltb k first_slot) (v k) (w k)

    same : (k : ℕ) → first_word ≤ k → k < slots_end → w k ≡ joined k
    same k _ l = split (ltb k first_slot) (λ y. rw y (e k (ltb-true k first_slot y))) (λ n. rw n)

-- In the loop: the first n slots of s are stored, and nothing else in the row or outside it is changed.
pub record Storing (xs ys : List ℕ) (g : ℕ) (s : List Slot) (n : ℕ) : Type 0 where
  pub put : RowPut first_slot slots_end xs ys g (word ys g)
  pub done : (i : ℕ) → i < n → get_or s i free_slot ≡ slot_in (word ys g) (slot_field i)

pub storing-next : {xs ys zs : List ℕ} {g n : ℕ} {s : List Slot} → Storing xs ys g s n → n < most_devices
    → SlotPut ys zs g (slot_field n) (get_or s n free_slot) → Storing xs zs g s (n + 1)
storing-next {n = n} p l q =
    record {
      put =
          record {
            long = q.long;
            here = λ j _. refl;
            other = λ h j ne b. q.other h j ne b ∙ p.put.other h j ne b;
            below = λ h j b c. q.below h j (omega arith) c ∙ p.put.below h j b c;
            above = λ h j b c. q.above h j (omega arith) c ∙ p.put.above h j b c;
            ahead = λ i b. q.ahead i b ∙ p.put.ahead i b;
          };
      done = λ i h.
          whether i n
          (λ e. rw e (sym q.here))
          (λ ne. p.done i (omega arith) ∙ sym (slot-stays q (slot_field i) (omega arith) (omega arith)));
    }

pub wrote-table : {xs ys : List ℕ} {g : ℕ} {s : List Slot} → GroupRow xs g → Packed s → length s ≡ most_devices → {n : ℕ} → Storing xs ys g s n
    → most_devices ≤ n → Wrote xs ys (io_set (view xs) g (table_of s))
wrote-table {xs} {ys} {g} {s} k q l p m =
    let same : s ≡ slots_in (word ys g) = fill_by_all (λ i. slot_in (word ys g) (slot_field i)) s most_devices free_slot l (λ i h. p.done i (omega arith)) in
    subst (λ (v : Group). Wrote xs ys (at_group (view xs) g v))
    (row-with-slots (word xs g) (word ys g) (λ j l. p.put.below g j l (omega arith))
    ∙ ap (λ (l : List Slot). with_settings (with_io (table_of l) (settings_of (group_row (word xs g)))) (group_row (word xs g))) (sym same))
    (wrote-slots k.low p.put (subst Packed same q))

-- The slots of a live group: ascending too, as its table is allowed.
pub in_order : (xs : List ℕ) (g : ℕ) (s : List Slot) → KeptAt xs g → Slotted xs g s → InOrder s
in_order xs g s k h =
    record {
      packed = h.packed k.kept.spare;
      ascending = subst (Ascending 0) (sym h.table) (k.kept.formed.ranges.within g k.live).table.ascending;
    }
