-- How a call's promise is met: by a refusal, which leaves the words as they are, or by stores after which the words stand for
-- the tree of the definitions and the sums are what is counted in it. Assumes nothing.
use Rattle.model.specs.Checks.{Answer}
use Rattle.std.specs.Prelude.{Ok, Err}
use Prim.Native.Nat.{ℕ}
use mathlib.Core.List.{List}
use mathlib.Core.Path.{◌≡◌, refl, sym, ◌∙◌, subst}
use Rattle.model.specs.Tree.{Tree, cores, places}
use Rattle.model.specs.Calls.{Call, verdict}
use Rattle.model.specs.Effects.{effect}
use Rattle.model.specs.WellFormed.{WellFormed}
use Rattle.model.specs.declared.Errno.{Errno}
use Rattle.model.proofs.CheckLaws.{not_done}
use Rattle.model.proofs.Steps.{step-accepted, step-refused, passed, well-formed-effect}
use Rattle.tree.specs.Layout.{view}
use Rattle.tree.specs.Changes.{Wrote}
use Rattle.tree.specs.Kept.{Summed, Settled, Kept}
use Rattle.tree.specs.Calling.{Calling, Applied}
use Rattle.tree.proofs.CountLaws.{SameCores, count_same}

module _ (xs : List ℕ) (k : Kept xs) (c : Call) where
  pub call-refused : {A : Type 0} (expected r : A) (e : Errno) → verdict (view xs) c ≡ Err e → r ≡ expected → Calling xs xs c expected r
  call-refused expected r e v a =
      record { answer = a; tree = sym (step-refused (view xs) c e v); kept = k; same = λ _ _. refl }

  -- the vetting's own answer
  pub call_stays : (r : Answer) (e : Errno) → r ≡ verdict (view xs) c → r ≡ Err e → Calling xs xs c (verdict (view xs) c) r
  call_stays r e a f = call-refused _ r e (sym a ∙ f) a

  module _ (v : verdict (view xs) c ≡ (Ok tt)) where
    pub call-done : {A : Type 0} (ys : List ℕ) (expected r : A) → Applied xs ys c → r ≡ expected → Calling xs ys c expected r
    call-done ys expected r p a =
        record {
          answer = a;
          tree = p.tree ∙ sym (step-accepted (view xs) c v);
          kept = p.kept;
          same = λ e n. not_done e (sym n ∙ v);
        }

    -- the words stand for the definitions' tree
    pub applied : (ys : List ℕ) → Settled ys (effect (view xs) c) → Applied xs ys c
    applied ys s =
        record {
          tree = s.tree;
          kept =
              record {
                long = s.long;
                formed = subst WellFormed (sym s.tree) (well-formed-effect (view xs) c k.formed (passed (view xs) c v));
                sums = subst (Summed ys) (sym s.tree) s.sums;
                spare = s.spare;
              };
        }

    -- the same where the effect is known as u
    pub applied-as : (ys : List ℕ) (u : Tree) → effect (view xs) c ≡ u → Settled ys u → Applied xs ys c
    applied-as ys u f s = applied ys (subst (Settled ys) (sym f) s)

    -- stores that change no sum, for an effect that changes nothing that is counted
    pub applied-wrote : (ys : List ℕ) → Wrote xs ys (effect (view xs) c) → SameCores (cores (view xs)) (cores (effect (view xs) c))
        → places (effect (view xs) c) ≡ places (view xs) → (effect (view xs) c).past ≡ (view xs).past → Applied xs ys c
    applied-wrote ys w same still past =
        applied ys
        (record {
          long = w.long;
          tree = w.tree;
          sums = λ d g. w.sums d g ∙ k.sums d g ∙ sym (count_same _ _ _ _ _ _ same still past d g);
          spare = w.spare k.spare;
        })
