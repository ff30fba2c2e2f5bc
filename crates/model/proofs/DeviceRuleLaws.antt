-- What order 1 says of io.max holds: look-ups after a write, tables told apart by their look-ups, and the number of devices.
-- Assumes nothing.
use Prim.Native.Nat.{ℕ, suc, ◌+◌, ◌<◌}
use native.Mathlib.Omega.{arith}
use mathlib.Core.Bool.{true, false}
use mathlib.Core.List.{List, [], ◌∷◌}
use mathlib.Core.Logic.{◌≢◌, inl, inr}
use mathlib.Core.Path.{◌≡◌, refl, ap, sym, ◌∙◌, fun_ext}
use lib.Dec.{eqb, ltb}
use lib.ListN.{length}
use borrow.Author.Tests.{eqb-true, eqb-false, eq-eqb, ne_eqb, ltb-true, ltb-false, leb-false, lt-leb}
use Rattle.model.specs.Functions.{pick, All}
use Rattle.model.specs.Sizes.{device_numbers, most_devices}
use Rattle.model.specs.Devices.{device_of, is_max, all_max, DeviceLimits, limits_at, changed, entered, with_device, Ascending, Table, Pairs}
use Rattle.model.specs.Tree.{Settings, with_io}
use Rattle.model.specs.DeviceLines.{no_pairs}
use Rattle.model.specs.Settings.{assign, has_room}
use Rattle.model.specs.DeviceRules.{Numbered, Written, Fifth, DeviceRules}
use Rattle.model.specs.declared.Limit.{Limit}
use Rattle.model.specs.declared.Limit.TheVariants.{NoLimit, Figure}
use Rattle.model.specs.declared.Key.{Key}
use Rattle.model.specs.declared.SettingValue.TheVariants.{Device}
use Rattle.model.proofs.FunctionLaws.{split, whether, clash}
use Rattle.model.proofs.DeviceLaws.{of-keys, every-key, changed-none, all-with-device, ascending-from, ascending-with-device}

-- All "max".
max_none : (l : Limit) → is_max l ≡ true → l ≡ NoLimit
max_none NoLimit h = refl
max_none (Figure n) h = clash false h refl

all-max-none : (l : Key → Limit) → all_max l ≡ true → (k : Key) → l k ≡ NoLimit
all-max-none l h k = max_none (l k) (of-keys (λ j. is_max (l j)) h k)

pub none-all-max : (l : Key → Limit) → ((k : Key) → l k ≡ NoLimit) → all_max l ≡ true
none-all-max l h = every-key (λ j. is_max (l j)) (λ k. rw (h k))

-- Look-ups.
module _ (d : ℕ) (x : DeviceLimits) (xs : List DeviceLimits) (k : Key) where
  pub at_first : x.device ≡ d → limits_at d (x ∷ xs) k ≡ x.limit k
  unfolding limits_at
  at_first e = rw (eq-eqb x.device d e)

  pub at-later : x.device ≢ d → limits_at d (x ∷ xs) k ≡ limits_at d xs k
  unfolding limits_at
  at-later ne = rw (ne_eqb x.device d ne)

-- a device before all of a table
pub at_before : (d : ℕ) (xs : List DeviceLimits) → Ascending (suc d) xs → (k : Key) → limits_at d xs k ≡ NoLimit
unfolding Ascending limits_at
at_before d [] a k = refl
at_before d (x ∷ xs) a k =
    at-later d x xs k (λ e. omega (arith, a.0)) ∙ at_before d xs (ascending-from (suc d) (suc x.device) xs (omega (arith, a.0)) a.1) k

module _ (d : ℕ) (l : Key → Limit) where
  -- at the device that is written
  at-entered : (xs : List DeviceLimits) → Ascending (suc d) xs → (k : Key) → limits_at d (entered d l xs) k ≡ l k
  at-entered xs a k =
      split (all_max l)
      (λ y. rw y (at_before d xs a k ∙ sym (all-max-none l y k)))
      (λ n. rw n (at_first d (record { device = d; limit = l }) xs k refl))

  at-written : (n : ℕ) (xs : List DeviceLimits) → Ascending n xs → (k : Key) → limits_at d (with_device d l xs) k ≡ l k
  unfolding with_device Ascending
  at-written n [] a k = at-entered [] tt k
  at-written n (x ∷ xs) a k =
      split (ltb x.device d)
      (λ y. rw y (at-later d x (with_device d l xs) k (λ e. omega (arith, ltb-true x.device d y)) ∙ at-written (suc x.device) xs a.1 k))
      (λ y. rw y
      (split (eqb x.device d)
      (λ e. rw e (at-entered xs (ascending-from (suc d) (suc x.device) xs (omega (arith, eqb-true x.device d e)) a.1) k))
      (λ e. rw e (at-entered (x ∷ xs) (omega (arith, ltb-false x.device d y, eqb-false x.device d e), a.1) k))))

  -- and at any other
  module _ (e : ℕ) (ne : e ≢ d) where
    at-entered-other : (xs : List DeviceLimits) (k : Key) → limits_at e (entered d l xs) k ≡ limits_at e xs k
    at-entered-other xs k =
        split (all_max l) (λ y. rw y) (λ n. rw n (at-later e (record { device = d; limit = l }) xs k (λ z. ne (sym z))))

    at-written-other : (xs : List DeviceLimits) (k : Key) → limits_at e (with_device d l xs) k ≡ limits_at e xs k
    unfolding with_device
    at-written-other [] k = at-entered-other [] k
    at-written-other (x ∷ xs) k =
        split (ltb x.device d)
        (λ y. rw y
        (whether x.device e
        (λ z. at_first e x (with_device d l xs) k z ∙ sym (at_first e x xs k z))
        (λ z. at-later e x (with_device d l xs) k z ∙ at-written-other xs k ∙ sym (at-later e x xs k z))))
        (λ y. rw y
        (split (eqb x.device d)
        (λ z. rw z (at-entered-other xs k ∙ sym (at-later e x xs k (λ w. ne (sym w ∙ eqb-true x.device d z)))))
        (λ z. rw z (at-entered-other (x ∷ xs) k))))

-- Tables told apart by their look-ups.
abbrev Limited : List DeviceLimits → Type 0
Limited xs = All (λ x. all_max x.limit ≡ false) xs

-- a device of one table is not before all of another with the same look-ups
not-before : {A : Type 0} (x : DeviceLimits) (xs ys : List DeviceLimits) → all_max x.limit ≡ false
    → ((k : Key) → limits_at x.device (x ∷ xs) k ≡ limits_at x.device ys k) → Ascending (suc x.device) ys → A
not-before x xs ys n h a =
    clash (all_max x.limit) (none-all-max x.limit (λ k. sym (at_first x.device x xs k refl) ∙ h k ∙ at_before x.device ys a k)) n

same_tables : (m n : ℕ) (xs ys : List DeviceLimits) → Ascending m xs → Ascending n ys → Limited xs → Limited ys
    → ((d : ℕ) (k : Key) → limits_at d xs k ≡ limits_at d ys k) → xs ≡ ys
unfolding Ascending All
same_tables m n [] [] a b p q h = refl
same_tables m n [] (y ∷ ys) a b p q h = not-before y ys [] q.0 (λ k. sym (h y.device k)) tt
same_tables m n (x ∷ xs) [] a b p q h = not-before x xs [] p.0 (h x.device) tt
same_tables m n (x ∷ xs) (y ∷ ys) a b p q h =
    split (ltb x.device y.device)
    (λ l. not-before x xs (y ∷ ys) p.0 (h x.device) (omega (arith, ltb-true x.device y.device l), b.1))
    (λ u. split (ltb y.device x.device)
    (λ l. not-before y ys (x ∷ xs) q.0 (λ k. sym (h y.device k)) (omega (arith, ltb-true y.device x.device l), a.1))
    (λ v. meet (omega (arith, ltb-false x.device y.device u, ltb-false y.device x.device v)) (same_tables (suc x.device) (suc y.device) xs ys a.1 b.1 p.1 q.1)))
  where
    meet : x.device ≡ y.device → (((d : ℕ) (k : Key) → limits_at d xs k ≡ limits_at d ys k) → xs ≡ ys) → ◌≡◌ {A = List DeviceLimits} (x ∷ xs) (y ∷ ys)
    meet e f =
        let limits : x.limit ≡ y.limit = fun_ext (λ k. sym (at_first x.device x xs k refl) ∙ h x.device k ∙ at_first x.device y ys k (sym e)) in
        let rest : xs ≡ ys = f (λ d k. whether x.device d
        (λ z. at_before d xs (ascending-from (suc d) (suc x.device) xs (omega arith) a.1) k
        ∙ sym (at_before d ys (ascending-from (suc d) (suc y.device) ys (omega arith) b.1) k))
        (λ z. sym (at-later d x xs k z) ∙ h d k ∙ at-later d y ys k (λ w. z (e ∙ w)))) in
        λ i. record { device = e i; limit = limits i } ∷ rest i

-- The number of devices: one more where a device gets limits, one less where it loses them.
abbrev counts : (Key → Limit) → ℕ
counts l = pick (all_max l) 0 1

counts-max : (l : Key → Limit) → all_max l ≡ true → counts l ≡ 0
counts-max l h = rw h

counts-limited : (l : Key → Limit) → all_max l ≡ false → counts l ≡ 1
counts-limited l h = rw h

module _ (d : ℕ) (l : Key → Limit) where
  length-entered : (xs : List DeviceLimits) → length (entered d l xs) ≡ length xs + counts l
  length-entered xs = split (all_max l) (λ y. rw y (omega arith)) (λ n. rw n (omega arith))

  length-with-device : (n : ℕ) (xs : List DeviceLimits) → Ascending n xs → Limited xs
      → length (with_device d l xs) + counts (limits_at d xs) ≡ length xs + counts l
  unfolding with_device Ascending All
  length-with-device n [] a p =
      omega (arith, length-entered [], counts-max (limits_at d []) (none-all-max (limits_at d []) (at_before d [] tt)))
  length-with-device n (x ∷ xs) a p =
      split (ltb x.device d)
      (λ y. rw y
      (omega (
        arith,
        length-with-device (suc x.device) xs a.1 p.1,
        ap counts (fun_ext (λ k. at-later d x xs k (λ e. omega (arith, ltb-true x.device d y)))),
      )))
      (λ y. rw y
      (split (eqb x.device d)
      (λ e. rw e
      (omega (
        arith,
        length-entered xs,
        ap counts (fun_ext (λ k. at_first d x xs k (eqb-true x.device d e))),
        counts-limited x.limit p.0,
      )))
      (λ e. rw e
      (omega (
        arith,
        length-entered (x ∷ xs),
        counts-max (limits_at d (x ∷ xs)) (none-all-max (limits_at d (x ∷ xs)) (at_before d (x ∷ xs) (omega (arith, ltb-false x.device d y, eqb-false x.device d e), a.1))),
      )))))

-- What a line does to the settings.
module _ (st : Settings) (a b : ℕ) (p : Pairs) (t : Table st.io) where
  abbrev d : ℕ
  d = device_of a b

  abbrev old : Key → Limit
  old = limits_at d st.io

  abbrev new : Key → Limit
  new = changed p old

  written : Written st a b p
  unfolding assign
  written =
      record {
        here = at-written d new 0 st.io t.ascending;
        elsewhere = λ e ne. at-written-other d new e ne st.io;
      }

  counted : length (with_device d new st.io) + counts old ≡ length st.io + counts new
  counted = length-with-device d new 0 st.io t.ascending t.limited

  fifth : has_room st (Device a b p) ≡ false → Fifth st a b p
  unfolding has_room assign
  fifth r =
      let over : most_devices < length (with_device d new st.io) = leb-false (length (with_device d new st.io)) most_devices r in
      split (all_max old)
      (λ u. split (all_max new)
      (λ y. absurd (omega (arith, counted, counts-max old u, counts-max new y, t.few)))
      (λ n. record { full = omega (arith, counted, counts-max old u, counts-limited new n, t.few); unheld = u; limited = n }))
      (λ u. split (all_max new)
      (λ y. absurd (omega (arith, counted, counts-limited old u, counts-max new y, t.few)))
      (λ n. absurd (omega (arith, counted, counts-limited old u, counts-limited new n, t.few))))

  refused : Fifth st a b p → has_room st (Device a b p) ≡ false
  unfolding has_room assign
  refused f =
      lt-leb (length (with_device d new st.io)) most_devices
      (omega (arith, counted, counts-max old f.unheld, counts-limited new f.limited, f.full))

unchanged : (st : Settings) (a b : ℕ) → Table st.io → assign (Device a b no_pairs) st ≡ st
unfolding assign
unchanged st a b t =
    let d : ℕ = device_of a b in
    let old : Key → Limit = limits_at d st.io in
    ap (λ (xs : List DeviceLimits). with_io xs st)
    (ap (λ (l : Key → Limit). with_device d l st.io) (changed-none old)
    ∙ same_tables 0 0 (with_device d old st.io) st.io
    (ascending-with-device d old 0 st.io (omega arith) t.ascending) t.ascending
    (all-with-device (λ x. all_max x.limit ≡ false) d old (λ n. n) st.io t.limited) t.limited
    (λ e k. whether e d
    (λ z. rw z (at-written d old 0 st.io t.ascending k))
    (λ ne. at-written-other d old e ne st.io k)))

numbered : (a b c d : ℕ) → b < device_numbers → d < device_numbers → Numbered a b c d
numbered a b c d h k =
    record {
      ascending = λ l. split (ltb a c)
          (λ y. inl (ltb-true a c y))
          (λ n. inr (omega (arith, ltb-false a c n), omega (arith, ltb-false a c n)));
      apart = λ e. (omega arith, omega arith);
    }

pub device-rules : DeviceRules
device-rules =
    record {
      numbered = numbered;
      written = written;
      unchanged = unchanged;
      fifth = fifth;
      refused = refused;
      one = λ xs ys s t. same_tables 0 0 xs ys s.ascending t.ascending s.limited t.limited;
    }
