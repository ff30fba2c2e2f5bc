-- Laws of `same_bytes` by the places of a loop. Assumes nothing.
use Rattle.std.proofs.Common.{ℕ, suc, ◌+◌, ◌<◌, Bool, true, false, ◌≡◌, ◌≢◌, eqb, List, [], ◌∷◌, length, get_or, drop, refl, ap, add-one, drop-cons}
use Rattle.std.proofs.Math.Seq.{drop-length}
use borrow.Author.Tests.{eq-eqb, ne_eqb}
use Rattle.model.specs.Functions.{pick}
use Rattle.model.specs.Text.{same_bytes}

module _ (a b : List ℕ) (i : ℕ) (h : i < length a) (k : i < length b) where
  pub same_more : get_or a i 0 ≡ get_or b i 0 → same_bytes (drop (i + 1) a) (drop (i + 1) b) ≡ same_bytes (drop i a) (drop i b)
  unfolding same_bytes
  same_more e = rw (drop-cons a i 0 h, drop-cons b i 0 k, add-one, eq-eqb (get_or a i 0) (get_or b i 0) e)

  pub same_stop : get_or a i 0 ≢ get_or b i 0 → false ≡ same_bytes (drop i a) (drop i b)
  unfolding same_bytes
  same_stop n = rw (drop-cons a i 0 h, drop-cons b i 0 k, ne_eqb (get_or a i 0) (get_or b i 0) n)

pub same_end : (a b : List ℕ) (i : ℕ) → i ≡ length a → length a ≡ length b → true ≡ same_bytes (drop i a) (drop i b)
unfolding same_bytes
same_end a b i h e = rw (h, drop-length, e, drop-length)

pub same_length : (a b : List ℕ) → length a ≢ length b → false ≡ same_bytes a b
unfolding same_bytes
same_length [] [] n = absurd (n refl)
same_length [] (y ∷ b) n = refl
same_length (x ∷ a) [] n = refl
same_length (x ∷ a) (y ∷ b) n = go (eqb x y) (same_length a b (λ e. n (ap suc e)))
  where
    go : (t : Bool) → false ≡ same_bytes a b → false ≡ pick t (same_bytes a b) false
    go true e = e
    go false e = refl
