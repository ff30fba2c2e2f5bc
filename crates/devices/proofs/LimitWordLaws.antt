-- A limit has one word. Assumes nothing.
use Prim.Native.Nat.{ℕ, ◌-◌}
use native.Mathlib.Omega.{arith}
use mathlib.Core.Logic.{◌≢◌}
use mathlib.Core.Path.{◌≡◌, sym, ◌∙◌}
use lib.Dec.{eqb}
use borrow.Author.Tests.{eqb-true, eqb-false}
use Rattle.model.proofs.FunctionLaws.{split}
use Rattle.devices.specs.LimitWords.{limit_in}

pub limit-word-is : (v w : ℕ) → limit_in v ≡ limit_in w → v ≡ w
limit-word-is v w e =
    split (eqb v 0)
    (λ y. split (eqb w 0)
    (λ z. eqb-true v 0 y ∙ sym (eqb-true w 0 z))
    (λ o. let f = rw (y, o) at e in cc))
    (λ n. split (eqb w 0)
    (λ z. let f = rw (n, z) at e in cc)
    (λ o. let f = rw (n, o) at e in
    let same : v - 1 ≡ w - 1 = cc in
    let p : v ≢ 0 = eqb-false v 0 n in
    let q : w ≢ 0 = eqb-false w 0 o in
    omega arith))
