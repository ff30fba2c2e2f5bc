-- Stores in one group: none, one after another, and the same store by another name. Assumes nothing.
use Prim.Native.Nat.{ℕ}
use mathlib.Core.List.{List}
use mathlib.Core.Path.{◌≡◌, refl, ap, sym, ◌∙◌, subst}
use lib.ListN.{length}
use Rattle.model.specs.Functions.{upd}
use Rattle.model.specs.Tree.{Tree, Group, at_group}
use Rattle.model.proofs.FunctionLaws.{upd_same, upd-id, upd-again}
use Rattle.tree.specs.Layout.{tree_words, view}
use Rattle.tree.specs.Changes.{Wrote}
use Rattle.control.specs.Stores.{with_groups, changed_at}

pub wrote_as : {xs ys : List ℕ} {t u : Tree} → t ≡ u → Wrote xs ys t → Wrote xs ys u
wrote_as {xs} {ys} e w = subst (λ (t : Tree). Wrote xs ys t) e w

pub same-groups : (t : Tree) {f h : ℕ → Group} → ((k : ℕ) → f k ≡ h k) → with_groups t f ≡ with_groups t h
same-groups t e = λ i. record { machine = t.machine; group = λ k. e k i; process = t.process; past = t.past }

module _ (xs : List ℕ) (k : ℕ) where
  -- what a group becomes, found another way
  pub wrote-group-as : {ys : List ℕ} {v w : Group} → v ≡ w → Wrote xs ys (at_group (view xs) k v)
      → Wrote xs ys (at_group (view xs) k w)
  wrote-group-as e p = wrote_as (ap (at_group (view xs) k) e) p

  -- a group that stays as it is
  pub wrote_none : length xs ≡ tree_words → {v : Group} → (view xs).group k ≡ v → Wrote xs xs (at_group (view xs) k v)
  wrote_none l {v} e =
      let same : (view xs).group ≡ upd (view xs).group k v = sym (upd-id (view xs).group k) ∙ ap (upd (view xs).group k) e in
      record { long = l; tree = ap (with_groups (view xs)) same; sums = λ c g. refl; spare = λ s. s }

  -- one store after another
  pub wrote_then : (ys zs : List ℕ) (v : Group) (f : Group → Group) → Wrote xs ys (at_group (view xs) k v)
      → Wrote ys zs (changed_at (view ys) k f) → Wrote xs zs (at_group (view xs) k (f v))
  wrote_then ys zs v f p q =
      let twice : upd (upd (view xs).group k v) k (f (upd (view xs).group k v k)) ≡ upd (view xs).group k (f v) =
      ap (λ w. upd (upd (view xs).group k v) k (f w)) (upd_same (view xs).group k v) ∙ upd-again (view xs).group k v (f v) in
      record {
        long = q.long;
        tree = q.tree ∙ ap (λ (t : Tree). changed_at t k f) p.tree ∙ ap (with_groups (view xs)) twice;
        sums = λ c g. q.sums c g ∙ p.sums c g;
        spare = λ s. q.spare (p.spare s);
      }
