-- That all groups of a user lie inside a part is kept by every call but one kind, an accepted hand over to him of a group outside;
-- so containment holds over every list without one. Assumes nothing.
use Rattle.std.specs.Prelude.{Ok}
use Prim.Native.Nat.{ℕ, suc}
use mathlib.Core.Bool.{true, false}
use mathlib.Core.List.{List, [], ◌∷◌}
use mathlib.Core.Logic.{◌≢◌, ⊎_elim}
use mathlib.Core.Path.{◌≡◌, refl, ap, sym, ◌∙◌, fun_ext, subst}
use Rattle.model.specs.Checks.{answer_number, Pass}
use Rattle.model.specs.Tree.{Tree, Group, new_group, with_owner, at_group, lives, parents, depths, owners}
use Rattle.model.specs.Functions.{upd}
use Rattle.model.specs.Hierarchy.{inside, facts_of}
use Rattle.model.specs.Rules.{leaving}
use Rattle.model.specs.Calls.{Call, checks, verdict}
use Rattle.model.specs.Effects.{removed, new_set, effect, step, run}
use Rattle.model.specs.WellFormed.{WellFormed}
use Rattle.model.specs.Lists.{Accepted, Each}
use Rattle.model.specs.Containment.{OwnsInside, GivesOutside, OneKind, ContainedOver, NeverAcross}
use Rattle.model.proofs.FunctionLaws.{split, whether, clash, upd_same, upd_other, upd-map, upd-keeps}
use Rattle.model.proofs.CheckLaws.{answer-zero}
use Rattle.model.proofs.ChainLaws.{inside-up, inside-after-make, inside-after-remove}
use Rattle.model.proofs.RuleLaws.{NoChild}
use Rattle.model.proofs.Preservation.{Patch, part-after-remove}
use Rattle.model.proofs.ControlPreservation.{live-after-control, parent-after-control, owner-after-control}
use Rattle.model.proofs.Changes.{made-dead, HandsOver, Making, Change, nothing, placed, altered, made, ended, collected, removal, control}
use Rattle.model.proofs.Steps.{step-accepted, step-refused, by-verdict, passed, change, well-formed-effect, well-formed-step}
use Rattle.model.proofs.Books.{reply-number}
use Rattle.model.proofs.Containment.{owner-of-write, contained}

module _ (t : Tree) (w : WellFormed t) (user d : ℕ) (nz : user ≢ 0) (own : OwnsInside t user d) where
  -- a group is made: by the user under one of his own, or by somebody else
  owns-made : (by parent new : ℕ) → Making t by parent new → WellFormed (at_group t new (new_group parent (suc (depths t parent)) by))
      → OwnsInside (at_group t new (new_group parent (suc (depths t parent)) by)) user d
  owns-made by parent new k w' g l o =
      let v : Group = new_group parent (suc (depths t parent)) by in
      let up : parents (at_group t new v) ≡ upd (parents t) new parent = upd-map (λ x. x.core.parent) t.group new v in
      whether g new
      (λ e. let here : by ≡ user = sym (ap (λ x. x.owner) (upd_same t.group new v)) ∙ rw e at o in
      let mine : owners t parent ≡ user = owner-of-write t user parent nz (rw here at k.may) in
      let above : parents (at_group t new v) g ≡ parent = rw (e, up) (upd_same (parents t) new parent) in
      inside-up w'.sound d g l (λ z. clash (lives t new) (rw (sym e ∙ z) w.sound.root) (made-dead t w k))
      (rw (above, up) (inside-after-make w.sound new parent (made-dead t w k) d parent k.above ∙ own parent k.above mine)))
      (λ ne. let old : t.group g ≡ upd t.group new v g = sym (upd_other t.group new v g ne) in
      let lg : lives t g ≡ true = ap (λ x. x.core.live) old ∙ l in
      rw up (inside-after-make w.sound new parent (made-dead t w k) d g lg ∙ own g lg (ap (λ x. x.owner) old ∙ o)))

  -- a group without children is removed
  owns-removed : (r : ℕ) → NoChild (lives t) (parents t) r → OwnsInside (removed t r) user d
  owns-removed r nc g l o =
      let up : parents (removed t r) ≡ upd (parents t) r 0 = part-after-remove t r (λ x. x.core.parent) refl in
      let lives' : lives (removed t r) g ≡ upd (lives t) r false g = ap (λ f. f g) (part-after-remove t r (λ x. x.core.live) refl) in
      let owners' : owners (removed t r) g ≡ upd (owners t) r 0 g = ap (λ f. f g) (part-after-remove t r (λ x. x.owner) refl) in
      whether g r
      (λ e. clash (lives (removed t r) g) l (lives' ∙ rw e (upd_same (lives t) r false)))
      (λ ne. let lg : lives t g ≡ true = sym (upd_other (lives t) r false g ne) ∙ sym lives' ∙ l in
      rw up (inside-after-remove w.sound r nc d g lg ne
      ∙ own g lg (sym (upd_other (owners t) r 0 g ne) ∙ sym owners' ∙ o)))

  -- a group keeps its place, and is the user's only where it lies inside
  owns-altered : (h : ℕ) (v : Group) → Patch t h v → (v.owner ≡ user → inside (parents t) d h ≡ true) → OwnsInside (at_group t h v) user d
  owns-altered h v k f g l o =
      let up : (λ j. (upd t.group h v j).core.parent) ≡ parents t =
      fun_ext (upd-keeps (λ x. x.core.parent) t.group h v k.parent) in
      let lg : lives t g ≡ true = sym (upd-keeps (λ x. x.core.live) t.group h v (k.live ∙ sym k.alive) g) ∙ l in
      rw up
      (whether g h
      (λ e. rw e (f (sym (ap (λ x. x.owner) (upd_same t.group h v)) ∙ rw e at o)))
      (λ ne. own g lg (sym (ap (λ x. x.owner) (upd_other t.group h v g ne)) ∙ o)))

  -- a group is handed over, not from outside to the user
  given_inside : (h : ℕ) (v : Group) (c : Call) → Accepted t c → (GivesOutside user d t c → ⊥) → HandsOver c h v.owner
      → v.owner ≡ user → inside (parents t) d h ≡ true
  given_inside h v c z f k e =
      split (inside (parents t) d h) (λ i. i)
      (λ i. absurd (f (record {
        giver = k.giver;
        group = h;
        call = k.call ∙ ap (Call.hand_over k.giver h) e;
        accepted = z;
        outside = i;
      })))

  owns-change : {c : Call} {u : Tree} → Change t c u → Accepted t c → WellFormed u → (GivesOutside user d t c → ⊥) → OwnsInside u user d
  owns-change (nothing x) z w' f = own
  owns-change (placed p v k l) z w' f = own
  owns-change {c} (altered g v k) z w' f =
      owns-altered g v k.patch
      (λ e. ⊎_elim
      (λ same. own g k.patch.alive (sym same ∙ e))
      (λ (h : HandsOver c g v.owner). given_inside g v c z f h e)
      k.owner)
  owns-change (made by parent new x k) z w' f = owns-made by parent new k w'
  owns-change (ended p k l) z w' f = own
  owns-change (collected p x k) z w' f = own
  owns-change (removal user g x k) z w' f = owns-removed g k.no_child
  owns-change (control h line x k) z w' f =
      let set = new_set t h line in
      let gone = leaving t h line in
      λ g l o. rw (parent-after-control t h set gone)
      (own g (sym (ap (λ y. y g) (live-after-control t h set gone)) ∙ l) (sym (ap (λ y. y g) (owner-after-control t h set gone)) ∙ o))

  pub owns-step : (c : Call) → (GivesOutside user d t c → ⊥) → OwnsInside (step t c) user d
  owns-step c f =
      by-verdict t c
      (λ e. let k : Pass (checks (facts_of t) c) = passed t c e in
      rw (step-accepted t c e) (owns-change (change t c w k) (reply-number t c ∙ ap answer_number e) (well-formed-effect t c w k) f))
      (λ x e. rw (step-refused t c x e) own)

-- after such a hand over the group is live, is the user's and lies outside
given-outside : (t : Tree) (user d giver g : ℕ) → verdict t (Call.hand_over giver g user) ≡ Ok tt → inside (parents t) d g ≡ false
    → OwnsInside (step t (Call.hand_over giver g user)) user d → ⊥
unfolding effect checks Pass
given-outside t user d giver g e out own =
    let k = passed t (Call.hand_over giver g user) e in
    let v : Group = with_owner user (t.group g) in
    let after : OwnsInside (at_group t g v) user d = rw (step-accepted t (Call.hand_over giver g user) e) at own in
    let up : parents (at_group t g v) ≡ parents t = fun_ext (upd-keeps (λ x. x.core.parent) t.group g v refl) in
    let live : lives t g ≡ true = (search) in
    clash (inside (parents t) d g)
    (sym (ap (λ f. inside f d g) up)
    ∙ after g (upd-keeps (λ x. x.core.live) t.group g v refl g ∙ live) (ap (λ x. x.owner) (upd_same t.group g v)))
    out

pub one-kind : (t : Tree) → WellFormed t → OneKind t
one-kind t w =
    record {
      stays = λ user d c nz own f. owns-step t w user d nz own c f;
      ends = λ user d c given own.
          let e : Accepted t (Call.hand_over given.giver given.group user) = subst (Accepted t) given.call given.accepted in
          given-outside t user d given.giver given.group
          (answer-zero (verdict t (Call.hand_over given.giver given.group user)) (sym (reply-number t _) ∙ e))
          given.outside (subst (λ (x : Call). OwnsInside (step t x) user d) given.call own);
    }

pub never-across : (t : Tree) → WellFormed t → NeverAcross t
unfolding Each run
never-across t w user d cs nz own none = go cs t w own none
  where
    go : (cs : List Call) (t : Tree) → WellFormed t → OwnsInside t user d → Each (λ s c. GivesOutside user d s c → ⊥) t cs → ContainedOver t user d cs
    go [] t w own none = record { owns = own; across = tt }
    go (c ∷ cs) t w own none =
        let rest = go cs (step t c) (well-formed-step t c w) (owns-step t w user d nz own c none.0) none.1 in
        record { owns = rest.owns; across = (λ by. (contained t w).across user d c nz own by, rest.across) }
