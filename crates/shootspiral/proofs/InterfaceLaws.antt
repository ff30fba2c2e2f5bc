-- A call's promise, with its answer as a number and the values beside it as words. Assumes nothing.
use Prim.Native.Nat.{ℕ}
use mathlib.Core.List.{List, [], ◌∷◌}
use mathlib.Core.Path.{◌≡◌, refl, ap, ap₂, sym, ◌∙◌}
use Rattle.model.specs.Checks.{answer_number, Answer, ReadAnswer, RoomAnswer}
use Rattle.model.specs.Tree.{Tree}
use Rattle.model.specs.Hierarchy.{facts_of}
use Rattle.model.specs.Calls.{Call, read, membership, verdict}
use Rattle.model.specs.Effects.{effect, step}
use Rattle.model.specs.Replies.{Reply, Asks, for_charge, for_fork, asked_answer, room_reply, room_number, room_group, room_count, read_length, reply, reply_by}
use Rattle.model.specs.declared.Resource.{Resource}
use Rattle.model.proofs.Steps.{step-accepted, step-refused, by-verdict}
use Rattle.model.proofs.Books.{reply-number}
use Rattle.tree.specs.Layout.{view}
use Rattle.tree.specs.Kept.{Kept}
use Rattle.tree.specs.Calling.{Calling, Called, Asked, Delivering, Answered}
use Rattle.shootspiral.specs.Interface.{group_word, room_words, Told}

-- the same call with its answer told otherwise
retold : {A B : Type 0} {xs ys : List ℕ} {c : Call} {a r : A} {b s : B} → Calling xs ys c a r → s ≡ b → Calling xs ys c b s
retold k e = record { answer = e; tree = k.tree; kept = k.kept; same = k.same }

pub plain-number : {xs ys : List ℕ} {c : Call} {a : Answer} {n : ℕ} → Called xs ys c a → n ≡ answer_number a → Answered xs ys c n
plain-number {xs} {c = c} k e = retold k (e ∙ ap answer_number k.answer ∙ sym (reply-number (view xs) c))

-- what a call that asks for room hands back
asked-reply : {r : Resource} {n p : ℕ} {c : Call} (t : Tree) (q : Asks r n p c) → reply t c ≡ room_reply r (asked_answer (facts_of t) q)
unfolding reply reply_by
asked-reply t for_charge = refl
asked-reply t for_fork = refl

module _ {r : Resource} {n p : ℕ} {c : Call} {xs ys : List ℕ} {a : RoomAnswer} (q : Asks r n p c) (k : Asked xs ys q a) where
  pub asked-number : {m : ℕ} → m ≡ room_number r a → Answered xs ys c m
  asked-number e = retold k (e ∙ ap (room_number r) k.answer ∙ sym (ap (λ (x : Reply). x.number) (asked-reply (view xs) q)))

  -- the two words that are told
  pub asked-told : (g i : ℕ) → g ≡ group_word (room_group a) → i ≡ room_count a → g ∷ i ∷ [] ≡ room_words (reply (view xs) c)
  asked-told g i d e =
      ap₂ (λ x y. x ∷ y ∷ []) d e
      ∙ ap (λ (x : RoomAnswer). room_words (room_reply r x)) k.answer
      ∙ sym (ap room_words (asked-reply (view xs) q))

-- A call that changes nothing, accepted or not.
quiet_step : (t : Tree) (c : Call) → effect t c ≡ t → t ≡ step t c
quiet_step t c e = by-verdict t c (λ y. sym (step-accepted t c y ∙ e)) (λ x n. sym (step-refused t c x n))

quiet : {xs : List ℕ} {c : Call} {n : ℕ} → Kept xs → effect (view xs) c ≡ view xs → n ≡ (reply (view xs) c).number → Answered xs xs c n
quiet {xs} {c} k e f = record { answer = f; tree = quiet_step (view xs) c e; kept = k; same = λ _ _. refl }

-- texts
module _ {xs : List ℕ} {g : ℕ} {file old new : List ℕ} {a : ReadAnswer} (r : Delivering xs (read g file old) a new) where
  pub read-number : {n : ℕ} → Kept xs → n ≡ answer_number a → Answered xs xs (read g file old) n
  unfolding effect reply reply_by verdict
  read-number k e = quiet k refl (e ∙ ap answer_number r.answer)

  pub read_told : {k : ℕ} → k ≡ read_length a → Told (reply (view xs) (read g file old)) (k ∷ []) new
  unfolding reply reply_by verdict
  read_told f = record { size = ap (λ x. x ∷ []) (f ∙ ap read_length r.answer); buffer = r.buffer }

module _ {xs : List ℕ} {p : ℕ} {old new : List ℕ} {a : ReadAnswer} (r : Delivering xs (membership p old) a new) where
  pub membership-number : {n : ℕ} → Kept xs → n ≡ answer_number a → Answered xs xs (membership p old) n
  unfolding effect reply reply_by verdict
  membership-number k e = quiet k refl (e ∙ ap answer_number r.answer)

  pub membership-told : {k : ℕ} → k ≡ read_length a → Told (reply (view xs) (membership p old)) (k ∷ []) new
  unfolding reply reply_by verdict
  membership-told f = record { size = ap (λ x. x ∷ []) (f ∙ ap read_length r.answer); buffer = r.buffer }
