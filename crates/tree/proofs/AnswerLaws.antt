-- What is answered where `?` passes a refusal on, by a function that makes some of the checks or by a call, and where all checks have passed.
-- Assumes nothing.
use Rattle.std.specs.Prelude.{Ok, Err}
use Rattle.std.specs.Result.{IsErrAnd}
use Rattle.std.proofs.lemmas.Result.{err_from_is_err_and}
use Prim.Native.Nat.{ℕ}
use mathlib.Core.List.{List, ◌++◌}
use mathlib.Core.Path.{◌≡◌, refl, ap, sym, ◌∙◌}
use Rattle.model.specs.Checks.{Answer, Check, first}
use Rattle.model.specs.Calls.{Call, verdict}
use Rattle.model.specs.declared.Errno.{Errno}
use Rattle.model.proofs.CheckLaws.{and_then, first-append}
use Rattle.tree.specs.Layout.{view}
use Rattle.tree.specs.Kept.{Kept}
use Rattle.tree.specs.Calling.{Calling, Applied}
use Rattle.tree.proofs.CallLaws.{call_stays, call-done}

-- a list of checks, of which a function of its own answers the front
pub front-refused : (cs ds : List Check) (e : Errno) (r : Answer) → ◌≡◌ {A = Answer} (Err e) (first cs) → IsErrAnd r (λ y. y ≡ e) → r ≡ first (cs ++ ds)
front-refused cs ds e r v a =
    let p = err_from_is_err_and r a in rw (p.1, p.2) (ap (λ x. and_then x (first ds)) v ∙ sym (first-append cs ds))

-- a call that its checks refuse, or let through
module _ (xs : List ℕ) (c : Call) (k : Kept xs) where
  pub refused : (e : Errno) (r : Answer) → ◌≡◌ {A = Answer} (Err e) (verdict (view xs) c) → IsErrAnd r (λ y. y ≡ e)
      → Calling xs xs c (verdict (view xs) c) r
  refused e r v a = let p = err_from_is_err_and r a in rw (p.1, p.2) (call_stays xs k c (Err e) e v refl)

  pub accepted : (ys : List ℕ) → ◌≡◌ {A = Answer} (Ok tt) (verdict (view xs) c) → Applied xs ys c → Calling xs ys c (verdict (view xs) c) (Ok tt)
  accepted ys v a = call-done xs k c (sym v) ys _ _ a v
