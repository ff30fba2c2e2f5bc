-- Laws of the table of io.max: keys and pairs; what holds of a table after a device is written; ascending; a device written as it stands.
-- Assumes nothing.
use Rattle.std.specs.Prelude.{Option, Some, None}
use Prim.Native.Nat.{ℕ, suc, ◌≤◌}
use native.Mathlib.Omega.{arith}
use mathlib.Core.Bool.{Bool, true, false}
use mathlib.Core.List.{List, [], ◌∷◌}
use mathlib.Core.Path.{◌≡◌, refl, ap, fun_ext}
use lib.Dec.{eqb, ltb}
use borrow.Author.Tests.{eqb-true, eqb-false, eq-eqb, ltb-true, ltb-false, lt-ltb, le-ltb}
use Rattle.model.specs.Functions.{All}
use Rattle.model.specs.Devices.{every_key, pair_of, pairs_of, or_before, all_max, DeviceLimits, limits_at, changed, entered, with_device, Ascending}
use Rattle.model.specs.declared.Limit.{Limit}
use Rattle.model.specs.declared.Limit.TheVariants.{NoLimit}
use Rattle.model.specs.declared.Key.{Key}
use Rattle.model.specs.declared.Key.TheVariants.{Rbps, Wbps, Riops, Wiops}
use Rattle.model.proofs.FunctionLaws.{split, and_left, and_right, all_both}

-- Keys.
pub of-keys : (f : Key → Bool) → every_key f ≡ true → (k : Key) → f k ≡ true
of-keys f h Rbps = and_left (f Rbps) _ h
of-keys f h Wbps = and_left (f Wbps) _ (and_right (f Rbps) _ h)
of-keys f h Riops = and_left (f Riops) _ (and_right (f Wbps) _ (and_right (f Rbps) _ h))
of-keys f h Wiops = and_right (f Riops) _ (and_right (f Wbps) _ (and_right (f Rbps) _ h))

pub every-key : (f : Key → Bool) → ((k : Key) → f k ≡ true) → every_key f ≡ true
every-key f h = rw (h Rbps, h Wbps, h Riops) (h Wiops)

-- What a key is given, and what a line leaves that gives every key a limit.
pub pair_of-pairs_of : (f : Key → Option Limit) (k : Key) → pair_of (pairs_of f) k ≡ f k
pair_of-pairs_of f Rbps = refl
pair_of-pairs_of f Wbps = refl
pair_of-pairs_of f Riops = refl
pair_of-pairs_of f Wiops = refl

pub changed-all : (l old : Key → Limit) → changed (pairs_of (λ k. Some (l k))) old ≡ l
changed-all l old = fun_ext (λ k. ap (or_before (old k)) (pair_of-pairs_of (λ j. Some (l j)) k))

pub changed-none : (old : Key → Limit) → changed (pairs_of (λ k. None)) old ≡ old
changed-none old = fun_ext (λ k. ap (or_before (old k)) (pair_of-pairs_of (λ j. None) k))

-- What holds of every device, and of the one written, where it is not all "max".
module _ (P : DeviceLimits → Type 0) (d : ℕ) (l : Key → Limit) (p : all_max l ≡ false → P (record { device = d; limit = l })) where
  all-entered : (xs : List DeviceLimits) → All P xs → All P (entered d l xs)
  unfolding All
  all-entered xs h = split (all_max l) (λ y. rw y h) (λ n. rw n (p n, h))

  pub all-with-device : (xs : List DeviceLimits) → All P xs → All P (with_device d l xs)
  unfolding All with_device
  all-with-device [] h = all-entered [] h
  all-with-device (x ∷ xs) h =
      split (ltb x.device d)
      (λ y. rw y (h.0, all-with-device xs h.1))
      (λ n. rw n (split (eqb x.device d) (λ e. rw e (all-entered xs h.1)) (λ e. rw e (all-entered (x ∷ xs) h))))

-- what holds of no limit and of every device's limits holds of what is looked up
pub of-limits-at : (P : Limit → Type 0) (d : ℕ) (xs : List DeviceLimits) → P NoLimit → All (λ x. (k : Key) → P (x.limit k)) xs
    → (k : Key) → P (limits_at d xs k)
unfolding All limits_at
of-limits-at P d [] p h k = p
of-limits-at P d (x ∷ xs) p h k =
    split (eqb x.device d) (λ y. rw y (h.0 k)) (λ n. rw n (of-limits-at P d xs p h.1 k))

-- Ascending.
pub ascending-from : (m n : ℕ) (xs : List DeviceLimits) → m ≤ n → Ascending n xs → Ascending m xs
unfolding Ascending
ascending-from m n [] h a = tt
ascending-from m n (x ∷ xs) h a = (omega (arith, a.0), a.1)

ascending-all : (n : ℕ) (xs : List DeviceLimits) → Ascending n xs → All (λ x. n ≤ x.device) xs
unfolding Ascending All
ascending-all n [] a = tt
ascending-all n (x ∷ xs) a = (a.0, ascending-all n xs (ascending-from n (suc x.device) xs (omega (arith, a.0)) a.1))

module _ (d : ℕ) (l : Key → Limit) where
  ascending-entered : (n : ℕ) (xs : List DeviceLimits) → n ≤ d → Ascending (suc d) xs → Ascending n (entered d l xs)
  unfolding Ascending
  ascending-entered n xs h a =
      split (all_max l) (λ y. rw y (ascending-from n (suc d) xs (omega arith) a)) (λ y. rw y (h, a))

  pub ascending-with-device : (n : ℕ) (xs : List DeviceLimits) → n ≤ d → Ascending n xs → Ascending n (with_device d l xs)
  unfolding Ascending with_device
  ascending-with-device n [] h a = ascending-entered n [] h tt
  ascending-with-device n (x ∷ xs) h a =
      split (ltb x.device d)
      (λ y. rw y (a.0, ascending-with-device (suc x.device) xs (omega (arith, ltb-true x.device d y)) a.1))
      (λ y. rw y
      (split (eqb x.device d)
      (λ e. rw e (ascending-entered n xs h (ascending-from (suc d) (suc x.device) xs (omega (arith, eqb-true x.device d e)) a.1)))
      (λ e. rw e (ascending-entered n (x ∷ xs) h (omega (arith, ltb-false x.device d y, eqb-false x.device d e), a.1)))))

-- A device written as it stands.
abbrev Stands : List DeviceLimits → DeviceLimits → Type 0
Stands xs x = with_device x.device x.limit xs ≡ xs

stands-first : (x : DeviceLimits) (xs : List DeviceLimits) → all_max x.limit ≡ false → Stands (x ∷ xs) x
unfolding with_device
stands-first x xs h = rw (le-ltb x.device x.device (omega arith), eq-eqb x.device x.device refl, h)

stands-later : (x y : DeviceLimits) (xs : List DeviceLimits) → suc x.device ≤ y.device → Stands xs y → Stands (x ∷ xs) y
unfolding with_device
stands-later x y xs h e = rw (lt-ltb x.device y.device (omega arith)) (ap (λ (l : List DeviceLimits). x ∷ l) e)

pub each_stands : (n : ℕ) (xs : List DeviceLimits) → Ascending n xs → All (λ x. all_max x.limit ≡ false) xs → All (Stands xs) xs
unfolding Ascending All
each_stands n [] a h = tt
each_stands n (x ∷ xs) a h = (
  stands-first x xs h.0,
  all_both (λ y. suc x.device ≤ y.device) (Stands xs) (Stands (x ∷ xs)) xs (λ y. stands-later x y xs)
      (ascending-all (suc x.device) xs a.1) (each_stands (suc x.device) xs a.1 h.1),
)
