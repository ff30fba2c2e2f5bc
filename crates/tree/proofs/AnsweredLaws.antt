-- What a caller may conclude from the number that a call answered: of its verdict, its effect, and of the words after a refusal.
-- Assumes nothing.
use Rattle.std.specs.Prelude.{Ok, Err}
use Prim.Native.Nat.{ℕ}
use mathlib.Core.List.{List}
use mathlib.Core.Logic.{◌≢◌}
use mathlib.Core.Path.{◌≡◌, ap, sym, ◌∙◌}
use Rattle.model.specs.Checks.{errno_number, answer_number}
use Rattle.model.specs.Calls.{Call, verdict}
use Rattle.model.specs.Effects.{effect}
use Rattle.model.specs.declared.Errno.{Errno}
use Rattle.model.proofs.CheckLaws.{answer-zero}
use Rattle.model.proofs.Steps.{step-accepted, by-verdict}
use Rattle.model.proofs.Books.{reply-number}
use Rattle.tree.specs.Layout.{view}
use Rattle.tree.specs.Calling.{Answered}

module _ {xs ys : List ℕ} {c : Call} {n : ℕ} (a : Answered xs ys c n) where
  pub answered-number : n ≡ answer_number (verdict (view xs) c)
  answered-number = a.answer ∙ reply-number (view xs) c

  pub answered-done : n ≡ 0 → verdict (view xs) c ≡ (Ok tt)
  answered-done z = answer-zero (verdict (view xs) c) (sym answered-number ∙ z)

  pub answered-effect : n ≡ 0 → view ys ≡ effect (view xs) c
  answered-effect z = a.tree ∙ step-accepted (view xs) c (answered-done z)

  pub answered-refused : n ≢ 0 → (e : Errno) × (verdict (view xs) c ≡ Err e) × (n ≡ errno_number e)
  answered-refused ne =
      by-verdict (view xs) c
      (λ d. absurd (ne (answered-number ∙ ap answer_number d)))
      (λ e d. (e, d, answered-number ∙ ap answer_number d))

  -- the very same words, also those that stand for nothing
  pub refused-words : n ≢ 0 → ys ≡ xs
  refused-words ne = let r = answered-refused ne in a.same r.0 r.1
