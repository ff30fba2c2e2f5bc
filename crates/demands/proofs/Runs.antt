-- Whatever runs as the public contracts promise is a run of the definitions. Assumes nothing.
use Prim.Native.Nat.{ℕ}
use mathlib.Core.List.{List, [], ◌∷◌, ◌++◌, map-append}
use mathlib.Core.Path.{◌≡◌, refl, ap, ap₂, sym, ◌∙◌}
use Rattle.model.specs.Tree.{Tree}
use Rattle.model.specs.Calls.{Call}
use Rattle.model.specs.Effects.{step, run}
use Rattle.model.specs.Replies.{reply}
use Rattle.model.specs.Book.{Entry}
use Rattle.model.specs.Lists.{log}
use Rattle.model.proofs.Books.{run_more}
use Rattle.tree.specs.Layout.{view}
use Rattle.demands.specs.Runs.{Runs, start, next, calls_of, Followed}

pub log-more : (t : Tree) (cs : List Call) (c : Call)
    → log t cs ++ (record { call = c; number = (reply (run t cs) c).number } ∷ []) ≡ log t (cs ++ (c ∷ []))
unfolding log run
log-more t [] c = refl
log-more t (x ∷ xs) c = ap (λ es. record { call = x; number = (reply t x).number } ∷ es) (log-more (step t x) xs c)

pub followed : {xs ys : List ℕ} {es : List Entry} → Runs xs es ys → Followed xs es ys
unfolding log run
followed (start k) = record { begun = k; entries = refl; tree = refl; kept = k }
followed {xs} (next {es = es} {c = c} {n = n} r p) =
    let f = followed r in
    let e : Entry = record { call = c; number = n } in
    let number : n ≡ (reply (run (view xs) (calls_of es)) c).number = p.answer ∙ ap (λ t. (reply t c).number) f.tree in
    let calls : calls_of (es ++ (e ∷ [])) ≡ calls_of es ++ (c ∷ []) = map-append (λ (x : Entry). x.call) es (e ∷ []) in
    record {
      begun = f.begun;
      entries =
          ap₂ (λ (x : List Entry) (k : ℕ). x ++ (record { call = c; number = k } ∷ [])) f.entries number
          ∙ log-more (view xs) (calls_of es) c ∙ ap (log (view xs)) (sym calls);
      tree = p.tree ∙ ap (λ t. step t c) f.tree ∙ sym (run_more (calls_of es) (view xs) c) ∙ ap (run (view xs)) (sym calls);
      kept = p.kept;
    }
