-- Slots and the table that they stand for: a slot and those after it, the limits of a device, packed slots, whether there is room,
-- and that one table has one list of slots. Assumes nothing.
use Rattle.std.specs.Prelude.{Some, None}
use Prim.Native.Nat.{ℕ, suc, ◌+◌, ◌-◌, ◌≤◌, ◌<◌}
use native.Mathlib.Omega.{arith}
use mathlib.Core.Bool.{true}
use mathlib.Core.List.{List, [], ◌∷◌, ◌++◌}
use mathlib.Core.Logic.{◌≢◌}
use mathlib.Core.Path.{◌≡◌, refl, ap, sym, ◌∙◌}
use lib.Dec.{eqb}
use lib.ListN.{length}
use borrow.Author.Tests.{eqb-true, eqb-false, eq-eqb, ne_eqb}
use Rattle.model.specs.Functions.{pick, All}
use Rattle.model.specs.Sizes.{most_devices}
use Rattle.model.specs.Devices.{DeviceLimits, limits_at, Ascending}
use Rattle.model.specs.declared.Limit.TheVariants.{NoLimit}
use Rattle.model.specs.declared.Key.{Key}
use Rattle.model.specs.declared.Key.TheVariants.{Rbps, Wbps, Riops, Wiops}
use Rattle.model.proofs.FunctionLaws.{split}
use Rattle.devices.specs.Slots.{unlimited, free_slot, is_free, limits_of, line_of, table_of, Packed, no_slots, slot_of, Holds}
use Rattle.devices.specs.declared.slot.Slot.{Slot}
use Rattle.devices.proofs.LimitWordLaws.{limit-word-is}
use Rattle.devices.proofs.SlotLaws.{slot-here, slot-later, slot-of-free}

-- by cases on a slot
pub taken-or-free : {A : Type 0} (s : Slot) → (s.device ≡ 0 → A) → (s.device ≢ 0 → A) → A
taken-or-free s f g = split (is_free s) (λ y. f (eqb-true s.device 0 y)) (λ n. g (eqb-false s.device 0 n))

-- The table of a slot and those after it.
module _ (s : Slot) (ss : List Slot) where
  pub table-free : s.device ≡ 0 → table_of (s ∷ ss) ≡ []
  unfolding table_of
  table-free h = rw (eq-eqb s.device 0 h)

  pub table_taken : s.device ≢ 0 → table_of (s ∷ ss) ≡ line_of s ∷ table_of ss
  unfolding table_of
  table_taken h = rw (ne_eqb s.device 0 h)

pub rest-free : (x : Slot) (xs : List Slot) → Packed (x ∷ xs) → x.device ≡ 0 → table_of xs ≡ []
unfolding Packed All table_of
rest-free x [] p h = refl
rest-free x (y ∷ ys) p h = table-free y ys (ap (λ (s : Slot). s.device) (p.0 (eq-eqb x.device 0 h)).1.0)

pub packed-rest : (x : Slot) (xs : List Slot) → Packed (x ∷ xs) → Packed xs
unfolding Packed
packed-rest x xs p = p.1

-- what ascends from a slot on
pub ascending-first : (n : ℕ) (x : Slot) (xs : List Slot) → x.device ≢ 0 → Ascending n (table_of (x ∷ xs)) → n < x.device
unfolding Ascending
ascending-first n x xs h a = let k : Ascending n (line_of x ∷ table_of xs) = rw (table_taken x xs h) at a in omega (arith, k.0)

pub ascending-rest : (n : ℕ) (x : Slot) (xs : List Slot) → x.device ≢ 0 → Ascending n (table_of (x ∷ xs)) → Ascending (suc (x.device - 1)) (table_of xs)
unfolding Ascending
ascending-rest n x xs h a = let k : Ascending n (line_of x ∷ table_of xs) = rw (table_taken x xs h) at a in k.1

-- a taken slot before packed ones
pub packed-taken : (x : Slot) (xs : List Slot) → x.device ≢ 0 → Packed xs → Packed (x ∷ xs)
unfolding Packed
packed-taken x xs h p = ((λ y. absurd (h (eqb-true x.device 0 y))), p)

-- The limits of a device's slot are what the table says.
no-limits : (w : ℕ) (k : Key) → limits_of (unlimited w) k ≡ NoLimit
no-limits w Rbps = refl
no-limits w Wbps = refl
no-limits w Riops = refl
no-limits w Wiops = refl

module _ (d : ℕ) where
  at_head : (x : Slot) (xs : List DeviceLimits) (k : Key) → x.device ≡ d + 1 → limits_at d (line_of x ∷ xs) k ≡ limits_of x k
  unfolding limits_at
  at_head x xs k e = rw (eq-eqb (x.device - 1) d (omega arith))

  at_tail : (x : Slot) (xs : List DeviceLimits) (k : Key) → x.device ≢ 0 → x.device ≢ d + 1 → limits_at d (line_of x ∷ xs) k ≡ limits_at d xs k
  unfolding limits_at
  at_tail x xs k h e = rw (ne_eqb (x.device - 1) d (λ z. e (omega arith)))

  at-free : (x : Slot) (xs : List Slot) (k : Key) → x.device ≡ 0 → limits_at d (table_of (x ∷ xs)) k ≡ NoLimit
  unfolding limits_at table_of
  at-free x xs k h = rw (eq-eqb x.device 0 h)

  pub slot-limits : (xs : List Slot) → Packed xs → (k : Key) → limits_of (slot_of (d + 1) xs) k ≡ limits_at d (table_of xs) k
  unfolding Packed All table_of limits_at
  slot-limits [] p k = no-limits (d + 1) k
  slot-limits (x ∷ xs) p k =
      split (eqb x.device 0)
      (λ y. ap (λ (s : Slot). limits_of s k) (slot-of-free (d + 1) (x ∷ xs) (λ e. omega arith) (p.0 y))
      ∙ no-limits (d + 1) k
      ∙ sym (at-free x xs k (eqb-true x.device 0 y)))
      (λ n. let taken : x.device ≢ 0 = eqb-false x.device 0 n in
      let table : limits_at d (table_of (x ∷ xs)) k ≡ limits_at d (line_of x ∷ table_of xs) k =
      ap (λ (l : List DeviceLimits). limits_at d l k) (table_taken x xs taken) in
      split (eqb x.device (d + 1))
      (λ e. let same : x.device ≡ d + 1 = eqb-true x.device (d + 1) e in
      ap (λ (s : Slot). limits_of s k) (slot-here (d + 1) x xs same) ∙ sym (table ∙ at_head x (table_of xs) k same))
      (λ e. let ne : x.device ≢ d + 1 = eqb-false x.device (d + 1) e in
      ap (λ (s : Slot). limits_of s k) (slot-later (d + 1) x xs ne)
      ∙ slot-limits xs p.1 k
      ∙ sym (table ∙ at_tail x (table_of xs) k taken ne)))

-- Four free slots are packed.
pub packed_none : Packed no_slots
unfolding Packed All
packed_none =
    let one : All (λ x. x ≡ free_slot) (free_slot ∷ []) = (refl, tt) in
    let two : All (λ x. x ≡ free_slot) (free_slot ∷ free_slot ∷ []) = (refl, one) in
    let three : All (λ x. x ≡ free_slot) (free_slot ∷ free_slot ∷ free_slot ∷ []) = (refl, two) in
    ((λ _. (refl, three)), ((λ _. three), ((λ _. two), ((λ _. one), tt))))

-- A free slot at the end says nothing.
pub table-front : (xs : List Slot) (e : Slot) → is_free e ≡ true → table_of (xs ++ (e ∷ [])) ≡ table_of xs
unfolding table_of
table-front [] e h = rw h
table-front (x ∷ xs) e h = ap (λ (l : List DeviceLimits). pick (is_free x) [] (line_of x ∷ l)) (table-front xs e h)

all-front : {A : Type 0} (P : A → Type 0) (xs ys : List A) → All P (xs ++ ys) → All P xs × All P ys
unfolding All
all-front P [] ys h = (tt, h)
all-front P (x ∷ xs) ys h = let r = all-front P xs ys h.1 in ((h.0, r.0), r.1)

pub packed-front : (xs : List Slot) (e : Slot) → Packed (xs ++ (e ∷ [])) → Packed xs
unfolding Packed All
packed-front [] e p = tt
packed-front (x ∷ xs) e p = ((λ y. ((p.0 y).0, (all-front (λ s. s ≡ free_slot) xs (e ∷ []) (p.0 y).1).0)), packed-front xs e p.1)

-- Whether there is room: a slot more at the end is a device too many where it is taken.
pub table-few : (xs : List Slot) → length (table_of xs) ≤ length xs
unfolding table_of
table-few [] = omega arith
table-few (x ∷ xs) = split (is_free x) (λ y. rw y (omega arith)) (λ n. rw n (omega (arith, table-few xs)))

full-where-taken : (xs : List Slot) (e : Slot) → Packed (xs ++ (e ∷ [])) → e.device ≢ 0 → length (table_of (xs ++ (e ∷ []))) ≡ suc (length xs)
unfolding Packed All table_of
full-where-taken [] e p h = ap length (table_taken e [] h)
full-where-taken (x ∷ xs) e p h =
    taken-or-free x
    (λ z. absurd (h (ap (λ (s : Slot). s.device) (all-front (λ s. s ≡ free_slot) xs (e ∷ []) (p.0 (eq-eqb x.device 0 z)).1).1.0)))
    (λ n. ap length (table_taken x (xs ++ (e ∷ [])) n) ∙ ap suc (full-where-taken xs e p.1 h))

pub held-in : (t : List DeviceLimits) (xs : List Slot) (e : Slot) → table_of (xs ++ (e ∷ [])) ≡ t → Packed (xs ++ (e ∷ [])) → length xs ≡ most_devices
    → Holds t (pick (is_free e) (Some xs) None)
held-in t xs e h p l =
    split (is_free e)
    (λ y. let same : table_of xs ≡ t = sym (table-front xs e y) ∙ h in
    rw y (record { few = omega (arith, table-few xs, ap length same, l); table = same; packed = packed-front xs e p }))
    (λ n. rw n (omega (arith, full-where-taken xs e p (eqb-false e.device 0 n), ap length h, l)))

-- Slots of one table are the same.
same-slot : (x y : Slot) → x.device ≢ 0 → y.device ≢ 0 → line_of x ≡ line_of y → x ≡ y
same-slot x y h k e =
    let limit : (j : Key) → limits_of x j ≡ limits_of y j = (λ j. ap (λ (z : DeviceLimits). z.limit j) e) in
    let less : x.device - 1 ≡ y.device - 1 = ap (λ (z : DeviceLimits). z.device) e in
    let number : x.device ≡ y.device = omega arith in
    let rbps : x.limits.rbps ≡ y.limits.rbps = limit-word-is x.limits.rbps y.limits.rbps (limit Rbps) in
    let wbps : x.limits.wbps ≡ y.limits.wbps = limit-word-is x.limits.wbps y.limits.wbps (limit Wbps) in
    let riops : x.limits.riops ≡ y.limits.riops = limit-word-is x.limits.riops y.limits.riops (limit Riops) in
    let wiops : x.limits.wiops ≡ y.limits.wiops = limit-word-is x.limits.wiops y.limits.wiops (limit Wiops) in
    λ i. record { device = number i; limits = record { rbps = rbps i; wbps = wbps i; riops = riops i; wiops = wiops i } }

all-free-same : (xs ys : List Slot) → length xs ≡ length ys → All (λ x. x ≡ free_slot) xs → All (λ x. x ≡ free_slot) ys → xs ≡ ys
unfolding All
all-free-same [] [] e h k = refl
all-free-same [] (y ∷ ys) e h k = absurd (omega arith)
all-free-same (x ∷ xs) [] e h k = absurd (omega arith)
all-free-same (x ∷ xs) (y ∷ ys) e h k =
    let rest : xs ≡ ys = all-free-same xs ys (omega arith) h.1 k.1 in
    rw (h.0, k.0, rest)

abbrev head_of : List DeviceLimits → DeviceLimits → DeviceLimits
head_of [] d = d
head_of (x ∷ xs) d = x

abbrev tail_of : List DeviceLimits → List DeviceLimits
tail_of [] = []
tail_of (x ∷ xs) = xs

apart : {A : Type 0} (x : DeviceLimits) (xs : List DeviceLimits) → x ∷ xs ≡ [] → A
apart x xs e = let n : suc (length xs) ≡ 0 = ap length e in absurd (omega arith)

pub same-slots : (xs ys : List Slot) → length xs ≡ length ys → Packed xs → Packed ys → table_of xs ≡ table_of ys → xs ≡ ys
unfolding Packed
same-slots [] [] n p q e = refl
same-slots [] (y ∷ ys) n p q e = absurd (omega arith)
same-slots (x ∷ xs) [] n p q e = absurd (omega arith)
same-slots (x ∷ xs) (y ∷ ys) n p q e =
    taken-or-free x
    (λ h. taken-or-free y
    (λ k. all-free-same (x ∷ xs) (y ∷ ys) n (p.0 (eq-eqb x.device 0 h)) (q.0 (eq-eqb y.device 0 k)))
    (λ k. apart (line_of y) (table_of ys) (sym (table_taken y ys k) ∙ sym e ∙ table-free x xs h)))
    (λ h. taken-or-free y
    (λ k. apart (line_of x) (table_of xs) (sym (table_taken x xs h) ∙ e ∙ table-free y ys k))
    (λ k. let both : line_of x ∷ table_of xs ≡ line_of y ∷ table_of ys = sym (table_taken x xs h) ∙ e ∙ table_taken y ys k in
    let first : x ≡ y = same-slot x y h k (ap (λ (l : List DeviceLimits). head_of l (line_of x)) both) in
    let rest : xs ≡ ys = same-slots xs ys (omega arith) p.1 q.1 (ap tail_of both) in
    rw (first, rest)))
