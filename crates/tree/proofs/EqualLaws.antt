-- Two groups compared: what the answer of `==` or `!=` says of their numbers. Assumes nothing.
use Prim.Native.Nat.{ℕ}
use mathlib.Core.Bool.{Bool, true, false, not}
use mathlib.Core.Logic.{◌≢◌}
use mathlib.Core.Path.{◌≡◌, ap, sym, ◌∙◌}
use lib.Dec.{eqb}
use borrow.Author.Tests.{eqb-true, eqb-false}
use Rattle.model.proofs.FunctionLaws.{split, clash}

module _ {r : Bool} {m n : ℕ} where
  pub same-group : r ≡ eqb m n → r ≡ true → m ≡ n
  same-group e y = eqb-true m n (sym e ∙ y)

  pub other_group : r ≡ eqb m n → r ≡ false → m ≢ n
  other_group e y = eqb-false m n (sym e ∙ y)

  pub unequal : r ≡ not (eqb m n) → r ≡ true → m ≢ n
  unequal e y = split (eqb m n) (λ d. clash r y (e ∙ ap not d)) (λ d. eqb-false m n d)

  pub not_unequal : r ≡ not (eqb m n) → r ≡ false → m ≡ n
  not_unequal e y = split (eqb m n) (λ d. eqb-true m n d) (λ d. clash r (e ∙ ap not d) y)
