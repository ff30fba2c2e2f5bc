-- What every call on the tree promises: its answer, the tree that the words stand for afterwards, the invariant, and that a
-- refusal leaves the very same words. Assumes nothing.
use Rattle.model.specs.Checks.{Answer, ReadAnswer, RoomAnswer}
use Rattle.std.specs.Prelude.{ℕ, List, ◌≡◌, Err}
use Rattle.model.specs.Calls.{Call, verdict}
use Rattle.model.specs.Effects.{effect, step}
use Rattle.model.specs.Hierarchy.{facts_of}
use Rattle.model.specs.Replies.{Asks, asked_answer, read_answer, buffer_after, text_of, buffer_of, reply}
use Rattle.model.specs.declared.Resource.{Resource}
use Rattle.model.specs.declared.Errno.{Errno}
use Rattle.tree.specs.Layout.{view}
use Rattle.tree.specs.Kept.{Kept}

-- "Each refusal leaves everything as before the call": the words that a refusal leaves
abbrev pub refused_words : List ℕ → Call → Errno → List ℕ
refused_words xs c e = xs

-- the words before and after call c, where r was answered and the definitions say `expected`
pub record Calling {A : Type 0} (xs ys : List ℕ) (c : Call) (expected r : A) : Type 0 where
  pub answer : r ≡ expected
  pub tree : view ys ≡ step (view xs) c
  pub kept : Kept ys
  pub same : (e : Errno) → verdict (view xs) c ≡ Err e → ys ≡ refused_words xs c e

-- the same of a call that answers only success or a refusal
abbrev pub Called : List ℕ → List ℕ → Call → Answer → Type 0
Called xs ys c r = Calling xs ys c (verdict (view xs) c) r

-- of a call that asks for room, and tells the group without room and the count
abbrev pub Asked : {q : Resource} {n p : ℕ} {c : Call} → List ℕ → List ℕ → Asks q n p c → RoomAnswer → Type 0
Asked {c = c} xs ys k r = Calling xs ys c (asked_answer (facts_of (view xs)) k) r

-- of a call that changes no word: its answer, and the whole reply buffer after it
pub record Delivering (xs : List ℕ) (c : Call) (r : ReadAnswer) (new : List ℕ) : Type 0 where
  pub answer : r ≡ read_answer (verdict (view xs) c) (text_of (facts_of (view xs)) c)
  pub buffer : new ≡ buffer_after (verdict (view xs) c) (text_of (facts_of (view xs)) c) (buffer_of c)

-- of a caller who is told document 01's number
abbrev pub Answered : List ℕ → List ℕ → Call → ℕ → Type 0
Answered xs ys c n = Calling xs ys c (reply (view xs) c).number n

-- what an accepted call leaves
pub record Applied (xs ys : List ℕ) (c : Call) : Type 0 where
  pub tree : view ys ≡ effect (view xs) c
  pub kept : Kept ys
