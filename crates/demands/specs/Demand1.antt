-- Demand 1 of the code, from the contracts alone: "A call turned away gives the number in document 01's table and leaves tree,
-- processes, charges and reply buffer untouched." Assumes nothing.
use Rattle.std.specs.Prelude.{ℕ, List, ◌≢◌, ◌≡◌, Err}
use Rattle.model.specs.Checks.{errno_number}
use Rattle.model.specs.Calls.{Call, verdict}
use Rattle.model.specs.Replies.{reply}
use Rattle.model.specs.declared.Errno.{Errno}
use Rattle.tree.specs.Layout.{view}
use Rattle.tree.specs.Calling.{Answered}
use Rattle.shootspiral.specs.Interface.{Told}
use Rattle.demands.specs.Texts.{FindsNone}

-- the number is that of the rule which refused, and the words are the very same
pub record TurnedAway (xs ys : List ℕ) (c : Call) (n : ℕ) : Type 0 where
  pub errno : Errno
  pub refused : verdict (view xs) c ≡ Err errno
  pub number : n ≡ errno_number errno
  pub unchanged : ys ≡ xs

pub record Demand1 : Type 0 where
  pub away : {xs ys : List ℕ} {c : Call} {n : ℕ} → Answered xs ys c n → n ≢ 0 → TurnedAway xs ys c n
  pub text : {xs ys : List ℕ} {c : Call} {n : ℕ} {told bytes : List ℕ} → Answered xs ys c n → Told (reply (view xs) c) told bytes
      → n ≢ 0 → FindsNone c told bytes
