-- Laws of decimal text: one digit, and the last digit after the others. Assumes nothing.
use Prim.Native.Nat.{ℕ, zero, suc, ◌+◌, ◌/◌, ◌%◌, ◌≤◌, ◌<◌}
use mathlib.Core.Bool.{Bool, true, false}
use mathlib.Core.List.{[], ◌∷◌, ◌++◌}
use mathlib.Core.Path.{◌≡◌, refl}
use native.Mathlib.Omega.{arith}
use lib.Dec.{ltb}
use lib.ListN.{length, length-append}
use borrow.Author.Tests.{lt-ltb, le-ltb, ltb-false}
use Rattle.model.specs.Functions.{pick}
use Rattle.model.specs.Text.{digits, decimal}

-- enough steps are enough
digits-alike : (j k n : ℕ) → n ≤ j → n ≤ k → digits j n ≡ digits k n
unfolding digits
digits-alike zero zero n h m = refl
digits-alike zero (suc k) n h m = rw (lt-ltb n 10 (omega arith))
digits-alike (suc j) zero n h m = rw (lt-ltb n 10 (omega arith))
digits-alike (suc j) (suc k) n h m = go (ltb n 10) refl (λ l. digits-alike j k (n / 10) (omega arith) (omega arith))
  where
    go : (t : Bool) → ltb n 10 ≡ t → (10 ≤ n → digits j (n / 10) ≡ digits k (n / 10))
        → pick t ((48 + n) ∷ []) (digits j (n / 10) ++ ((48 + n % 10) ∷ []))
        ≡ pick t ((48 + n) ∷ []) (digits k (n / 10) ++ ((48 + n % 10) ∷ []))
    go true e f = refl
    go false e f = rw (f (ltb-false n 10 e))

pub decimal_digit : (n : ℕ) → n < 10 → decimal n ≡ (48 + n) ∷ []
unfolding decimal digits
decimal_digit zero h = refl
decimal_digit (suc n) h = rw (lt-ltb (suc n) 10 h)

pub decimal-more : (n : ℕ) → 10 ≤ n → decimal n ≡ decimal (n / 10) ++ ((48 + n % 10) ∷ [])
unfolding decimal digits
decimal-more zero h = absurd (omega arith)
decimal-more (suc n) h = rw (le-ltb (suc n) 10 h, digits-alike n (suc n / 10) (suc n / 10) (omega arith) (omega arith))

pub length-decimal-digit : (n : ℕ) → n < 10 → length (decimal n) ≡ 1
length-decimal-digit n h = rw (decimal_digit n h)

pub length-decimal-more : (n : ℕ) → 10 ≤ n → length (decimal n) ≡ length (decimal (n / 10)) + 1
length-decimal-more n h = rw (decimal-more n h, length-append)
