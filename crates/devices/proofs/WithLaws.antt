-- Two numbers by which is lower, and `with_device` by where the device that is written stands. Assumes nothing.
use Prim.Native.Nat.{ℕ, ◌<◌}
use native.Mathlib.Omega.{arith}
use mathlib.Core.Bool.{true, false}
use mathlib.Core.List.{List, [], ◌∷◌}
use mathlib.Core.Path.{◌≡◌, refl}
use lib.Dec.{eqb, ltb}
use borrow.Author.Tests.{eqb-true, eqb-false, eq-eqb, ne_eqb, ltb-true, ltb-false, lt-ltb, le-ltb}
use Rattle.model.specs.Devices.{DeviceLimits, all_max, entered, with_device}
use Rattle.model.specs.declared.Limit.{Limit}
use Rattle.model.specs.declared.Key.{Key}
use Rattle.model.proofs.FunctionLaws.{split}

pub compare : {A : Type 0} (i j : ℕ) → (i < j → A) → (i ≡ j → A) → (j < i → A) → A
compare i j f g h =
    split (ltb i j) (λ y. f (ltb-true i j y))
    (λ n. split (eqb i j) (λ e. g (eqb-true i j e)) (λ e. h (omega (arith, ltb-false i j n, eqb-false i j e))))

module _ (d : ℕ) (l : Key → Limit) where
  pub entered-limited : (xs : List DeviceLimits) → all_max l ≡ false → entered d l xs ≡ record { device = d; limit = l } ∷ xs
  entered-limited xs h = rw h

  pub entered-max : (xs : List DeviceLimits) → all_max l ≡ true → entered d l xs ≡ xs
  entered-max xs h = rw h

  pub with_none : with_device d l [] ≡ entered d l []
  unfolding with_device
  with_none = refl

  pub with-below : (x : DeviceLimits) (xs : List DeviceLimits) → d < x.device → with_device d l (x ∷ xs) ≡ entered d l (x ∷ xs)
  unfolding with_device
  with-below x xs h = rw (le-ltb x.device d (omega arith), ne_eqb x.device d (λ e. omega arith))

  pub with-same : (x : DeviceLimits) (xs : List DeviceLimits) → x.device ≡ d → with_device d l (x ∷ xs) ≡ entered d l xs
  unfolding with_device
  with-same x xs h = rw (le-ltb x.device d (omega arith), eq-eqb x.device d h)

  pub with-above : (x : DeviceLimits) (xs : List DeviceLimits) → x.device < d → with_device d l (x ∷ xs) ≡ x ∷ with_device d l xs
  unfolding with_device
  with-above x xs h = rw (lt-ltb x.device d h)
