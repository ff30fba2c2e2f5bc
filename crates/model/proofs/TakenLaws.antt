-- When the number of a removed group is taken, as specs/ZombieRules.antt states it: exactly while some zombie's path runs through it,
-- and what make answers of it. Assumes nothing.
use Rattle.std.specs.Prelude.{Err}
use Prim.Native.Nat.{ℕ}
use mathlib.Core.Bool.{Bool, true, false}
use mathlib.Core.List.{List, ◌∷◌, ◌++◌}
use mathlib.Core.Logic.{◌≢◌}
use mathlib.Core.Path.{◌≡◌, refl, ap, sym, ◌∙◌}
use Rattle.model.specs.Functions.{upd}
use Rattle.model.specs.Checks.{Check, bar, first, Pass}
use Rattle.model.specs.Tree.{Tree, Place, nowhere, at, lives, zombies, remains}
use Rattle.model.specs.Hierarchy.{inside, facts_of}
use Rattle.model.specs.Zombies.{is_zombie, is_removed, path_parents, on_path_in, on_path, group_taken}
use Rattle.model.specs.Calls.{make, collect, checks, verdict}
use Rattle.model.specs.Effects.{kept_if, effect, step}
use Rattle.model.specs.WellFormed.{WellFormed}
use Rattle.model.specs.ZombieRules.{before_taken, after_taken, Taken}
use Rattle.model.specs.declared.Errno.{Errno}
use Rattle.model.specs.declared.Errno.TheVariants.{Eexist}
use Rattle.model.proofs.FunctionLaws.{split, whether, clash, or-true, or_right, upd_same, upd_other}
use Rattle.model.proofs.CheckLaws.{pass-first, first-append, and_then}
use Rattle.model.proofs.ZombieLaws.{path-some, path-has, path-there, untaken-blank}
use Rattle.model.proofs.Remembering.{no_place}
use Rattle.model.proofs.Steps.{step-accepted, well-formed-step}

-- One check among others: it refuses where those before it pass, or it is as if it were not there.
first-barred : (before after : List Check) (b : Bool) (e : Errno) → Pass before → b ≡ true → first (before ++ (bar b e ∷ after)) ≡ Err e
unfolding first
first-barred before after b e k y =
    first-append before (bar b e ∷ after) ∙ ap (λ a. and_then a (first (bar b e ∷ after))) (pass-first before k) ∙ rw y

first-unbarred : (before after : List Check) (b : Bool) (e : Errno) → b ≡ false → first (before ++ (bar b e ∷ after)) ≡ first (before ++ after)
unfolding first
first-unbarred before after b e n =
    first-append before (bar b e ∷ after) ∙ ap (and_then (first before)) (rw n) ∙ sym (first-append before after)

asked : (t : Tree) (user parent new : ℕ)
    → checks (facts_of t) (make user parent new) ≡ before_taken t user parent new ++ (bar (group_taken t new) Eexist ∷ after_taken t user parent new)
unfolding checks
asked t user parent new = refl

-- What is left of a group is what some path runs through.
left : (t : Tree) → WellFormed t → (g : ℕ) → lives t g ≡ false → group_taken t g ≡ is_removed (remains t g)
left t w g d =
    split (on_path t g)
    (λ o. rw (d, o) (sym (or-true (lives t g) _ (path-there w.past.paths w.past.ended g o) d)))
    (λ n. rw (d, n) (sym (ap is_removed (untaken-blank t w g n))))

-- After a collect that is what the paths of the other zombies run through.
collected : (t : Tree) (p : ℕ) → is_zombie (zombies t p) ≡ true → step t (collect p) ≡ effect t (collect p)
unfolding verdict checks Pass
collected t p z = step-accepted t (collect p) (pass-first (checks (facts_of t) (collect p)) (z, tt))

freed : (t : Tree) → WellFormed t → (g p : ℕ) → lives t g ≡ false → is_zombie (zombies t p) ≡ true
    → ((q h : ℕ) → q ≢ p → zombies t q ≡ at h → inside (path_parents t) g h ≡ false) → group_taken (step t (collect p)) g ≡ false
unfolding effect
freed t w g p d z k =
    let u : Tree = step t (collect p) in
    let others : ℕ → Place = upd (zombies t) p nowhere in
    let off : on_path_in (path_parents t) others g ≡ false =
    split (on_path_in (path_parents t) others g)
    (λ o. path-some (path_parents t) others g o
    (λ q h _ e i. whether q p
    (λ same. no_place (others p) h (upd_same (zombies t) p nowhere) (rw same at e))
    (λ ne. clash (inside (path_parents t) g h) i (k q h ne (sym (upd_other (zombies t) p nowhere q ne) ∙ e)))))
    (λ n. n) in
    left u (well-formed-step t (collect p) w) g (ap (λ (x : Tree). lives x g) (collected t p z) ∙ d)
    ∙ ap (λ (x : Tree). is_removed (remains x g)) (collected t p z)
    ∙ ap (λ b. is_removed (kept_if b (remains t g))) off

pub taken : (t : Tree) → WellFormed t → Taken t
unfolding verdict
taken t w =
    record {
      path = λ g d y. path-some (path_parents t) (zombies t) g (or-true (lives t g) _ y d) (λ p h _ e i. (p, h, e, i));
      through = λ g p h e i. or_right (lives t g) _ (path-has (path_parents t) (zombies t) g p h (w.past.ended.range p h e) e i);
      left = left t w;
      freed = freed t w;
      asked = asked t;
      refused = λ user parent new k y.
          ap first (asked t user parent new) ∙ first-barred (before_taken t user parent new) (after_taken t user parent new) _ Eexist k y;
      decided = λ user parent new n.
          ap first (asked t user parent new) ∙ first-unbarred (before_taken t user parent new) (after_taken t user parent new) _ Eexist n;
    }
