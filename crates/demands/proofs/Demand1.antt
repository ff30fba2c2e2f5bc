-- A refused call leaves the very same words and every byte of the reply buffer. Assumes nothing.
use Prim.Native.Nat.{ℕ}
use mathlib.Core.List.{List}
use mathlib.Core.Logic.{◌≢◌}
use Rattle.model.specs.Calls.{Call}
use Rattle.tree.specs.Calling.{Answered}
use Rattle.tree.proofs.AnsweredLaws.{answered-refused, refused-words}
use Rattle.demands.specs.Demand1.{TurnedAway, Demand1}
use Rattle.demands.proofs.Texts.{undelivered}

away : {xs ys : List ℕ} {c : Call} {n : ℕ} → Answered xs ys c n → n ≢ 0 → TurnedAway xs ys c n
away a ne =
    let r = answered-refused a ne in
    record { errno = r.0; refused = r.1; number = r.2; unchanged = refused-words a ne }

pub demand-1-of-the-code : Demand1
demand-1-of-the-code = record { away = away; text = λ a t ne. undelivered a ne t }
