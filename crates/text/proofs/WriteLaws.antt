-- Laws of a copy: a text goes byte by byte to the front of another. Assumes nothing.
use Prim.Native.Nat.{ℕ, suc, ◌+◌, ◌<◌}
use mathlib.Core.List.{List, ◌++◌}
use mathlib.Core.Path.{◌≡◌}
use native.Mathlib.Nat.{zero-add}
use native.Mathlib.Numerals.{add-one}
use native.Mathlib.Omega.{arith}
use lib.ListN.{length, get_or, set, take, drop}
use lib.Seq.{take-length, paste-suc}
use Rattle.model.specs.Files.{delivered}

-- e is d, to whose front the first n bytes of s were copied
module _ (d e s : List ℕ) (n : ℕ) (q : e ≡ take n s ++ drop n d) where
  pub copy_more : n < length d → n < length s → set e n (get_or s n 0) ≡ take (n + 1) s ++ drop (n + 1) d
  copy_more h k = rw (q, add-one) (rw (zero-add n, zero-add (suc n)) at (paste-suc d 0 s n 0 (omega arith) k))

  pub copy_done : n ≡ length s → e ≡ delivered s d
  copy_done p = rw (q, p, take-length s)
