-- What the calls that deliver a text leave, from what they tell. Assumes nothing.
use Rattle.model.specs.Checks.{Answer}
use Rattle.std.specs.Prelude.{Ok}
use Prim.Native.Nat.{ℕ}
use mathlib.Core.List.{List, [], ◌∷◌}
use mathlib.Core.Logic.{◌≢◌}
use mathlib.Core.Path.{◌≡◌, ap, ◌∙◌, subst}
use Rattle.model.specs.Hierarchy.{facts_of}
use Rattle.model.specs.Files.{membership_line}
use Rattle.model.specs.Calls.{Call, read, membership, file_text, verdict}
use Rattle.model.specs.Replies.{text_reply, reply, reply_by}
use Rattle.model.specs.Demands as D
use Rattle.model.proofs.Demands.{demands}
use Rattle.tree.specs.Layout.{view}
use Rattle.tree.specs.Calling.{Answered}
use Rattle.tree.proofs.AnsweredLaws.{answered-done, answered-refused}
use Rattle.shootspiral.specs.Interface.{Told}
use Rattle.demands.specs.Texts.{FindsText, FindsNone}

pub undelivered : {xs ys told bytes : List ℕ} {c : Call} {n : ℕ} → Answered xs ys c n → n ≢ 0 → Told (reply (view xs) c) told bytes
    → FindsNone c told bytes
undelivered {xs} {c = c} a ne t =
    let r = answered-refused a ne in
    let d : D.TurnedAway (view xs) c r.0 = demands.first.refused (view xs) c r.0 r.1 in
    record { size = t.size ∙ ap (λ k. k ∷ []) d.size; bytes = t.buffer ∙ d.buffer }

text-done : (v : Answer) (text buffer : List ℕ) {told bytes : List ℕ} → v ≡ (Ok tt) → Told (text_reply v text buffer) told bytes → FindsText text buffer told bytes
text-done v text buffer {told} {bytes} e t =
    let u : Told (text_reply (Ok tt) text buffer) told bytes = subst (λ (x : Answer). Told (text_reply x text buffer) told bytes) e t in
    record { size = u.size; bytes = u.buffer }

module _ {xs ys buffer told bytes : List ℕ} {n : ℕ} where
  pub delivered-file : (g : ℕ) (file : List ℕ) → Answered xs ys (read g file buffer) n → n ≡ 0
      → Told (reply (view xs) (read g file buffer)) told bytes → FindsText (file_text (facts_of (view xs)) g file) buffer told bytes
  unfolding reply reply_by verdict
  delivered-file g file a z t = text-done (verdict (view xs) (read g file buffer)) _ buffer (answered-done a z) t

  pub delivered-line : (p : ℕ) → Answered xs ys (membership p buffer) n → n ≡ 0
      → Told (reply (view xs) (membership p buffer)) told bytes → FindsText (membership_line (view xs) p) buffer told bytes
  unfolding reply reply_by verdict
  delivered-line p a z t = text-done (verdict (view xs) (membership p buffer)) _ buffer (answered-done a z) t
