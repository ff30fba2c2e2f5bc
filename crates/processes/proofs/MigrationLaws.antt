-- A write to cgroup.procs: what its vets answer, and the whole call by what its vets and its stores say. Assumes nothing.
use Rattle.std.specs.Prelude.{Option, Some, None, Result, Ok, Err, [], ◌∷◌}
use Rattle.std.proofs.lemmas.Bool.Decides.{nat_tests}
use Prim.Native.Nat.{ℕ, ◌^◌, ◌≤◌, ◌<◌}
use native.Mathlib.Omega.{arith}
use mathlib.Core.Bool.{Bool, true, false}
use mathlib.Core.List.{List, ◌++◌}
use mathlib.Core.Logic.{◌≢◌}
use mathlib.Core.Path.{◌≡◌, refl, ap, sym, ◌∙◌, subst}
use lib.Dec.{ltb}
use borrow.Author.Tests.{ltb-true, ltb-false}
use Rattle.model.specs.Functions.{mapped}
use Rattle.model.specs.Sizes.{groups, processes}
use Rattle.model.specs.Checks.{need, first, Pass, Answer}
use Rattle.model.specs.Tree.{Tree, is_live, places}
use Rattle.model.specs.CommonAncestor.{meeting}
use Rattle.model.specs.Text.{too_long}
use Rattle.model.specs.Rules.{may_move_below, may_move, process_group, number_line, line_process}
use Rattle.model.specs.Calls.{write_procs, checks, verdict}
use Rattle.model.specs.Effects.{effect}
use Rattle.model.specs.declared.ProcessId.{ProcessId}
use Rattle.model.specs.declared.Errno.{Errno}
use Rattle.model.specs.declared.Errno.TheVariants.{Esrch}
use Rattle.model.specs.declared.Meeting.{Meeting}
use Rattle.model.proofs.FunctionLaws.{split}
use Rattle.model.proofs.CheckLaws.{and_then, first-append, first-pass}
use Rattle.model.proofs.ChainLaws.{inside-live}
use Rattle.model.proofs.CommonAncestorLaws.{ancestor-of-left}
use Rattle.model.proofs.Steps.{process-lives}
use Rattle.text.specs.Number.{clip}
use Rattle.tree.specs.Layout.{view}
use Rattle.tree.specs.Counters.{bottom, ChainOf}
use Rattle.tree.specs.Kept.{Kept, KeptAt}
use Rattle.tree.specs.Calling.{Calling}
use Rattle.tree.specs.declared.chain.Chain.{Chain}
use Rattle.tree.proofs.WalkLaws.{bottom-of}
use Rattle.processes.specs.Place.{Standing, Moving, Migratable, Moved}
use Rattle.processes.specs.Migration.{group_checks, number_checks, line_checks, move_checks, named_by}
use Rattle.tree.proofs.AnswerLaws.{accepted}
use Rattle.processes.proofs.PlaceLaws.{applied-seated}

-- What a vet that names a process answers, and what it says of its checks.
named-refusal : (a : Answer) (p : ℕ) (e : Errno) → ◌≡◌ {A = Result ProcessId Errno} (Err e) (named_by a p) → Err e ≡ a
named-refusal (Ok tt) p e h = absurd (grind arith)
named-refusal (Err x) p e h = grind arith

named-done : (a : Answer) (p : ℕ) (q : ProcessId) → ◌≡◌ {A = Result ProcessId Errno} (Ok q) (named_by a p) → (◌≡◌ {A = Answer} (Ok tt) a) × (q.0 ≡ p)
named-done (Ok tt) p q h = let d : ◌≡◌ {A = ProcessId} q (record { 0 = p }) = cc in (refl, ap (λ (x : ProcessId). x.0) d)
named-done (Err x) p q h = absurd (grind arith)

module _ (t : Tree) where
  -- a number that is not 0 is refused where its process is
  pub number-refused : (p : ℕ) (e : Errno) → p ≢ 0 → ◌≡◌ {A = Answer} (Err e) (first (need (is_live (places t p)) Esrch ∷ []))
      → ◌≡◌ {A = Result ProcessId Errno} (Err e) (named_by (first (number_checks t p)) p)
  unfolding number_checks first
  number-refused p e nz v = grind (arith, nat_tests)

  -- one beyond the range is no process's, so what clips it does not matter
  named-beyond : (k : ℕ) → processes ≤ k → Err Esrch ≡ named_by (first (number_checks t k)) k
  unfolding number_checks first
  named-beyond k h = grind (arith, nat_tests)

  named-clip : (k : ℕ) → named_by (first (number_checks t (clip k))) (clip k) ≡ named_by (first (number_checks t k)) k
  named-clip k =
      split (ltb k (2 ^ 64))
      (λ y. let e : clip k ≡ k = omega (arith, ltb-true k (2 ^ 64) y) in ap (λ (x : ℕ). named_by (first (number_checks t x)) x) e)
      (λ x.
      let h = ltb-false k (2 ^ 64) x in
      sym (named-beyond (clip k) (omega arith)) ∙ named-beyond k (omega arith))

  -- a line that is not too long is what its number is
  line_as : (line : List ℕ) (o : Option ℕ) (m : ℕ) → too_long line ≡ false → number_line line ≡ o → Some m ≡ mapped clip o
      → named_by (first (number_checks t m)) m ≡ named_by (first (line_checks t line)) (line_process line)
  unfolding line_checks first
  line_as line None m short n h = absurd (grind arith)
  line_as line (Some k) m short n h =
      let e : m ≡ clip k = grind arith in
      rw (e, short, n) (named-clip k)

  pub line-number : (line : List ℕ) (m : ℕ) → too_long line ≡ false → Some m ≡ mapped clip (number_line line)
      → named_by (first (number_checks t m)) m ≡ named_by (first (line_checks t line)) (line_process line)
  line-number line m short h = line_as line (number_line line) m short refl h

module _ {xs : List ℕ} {p g m : ℕ} (h : Moving xs p g m) where
  -- the second permission, asked of the group that the search found, is the rule's
  pub may-moved : (user : ℕ) (b : Bool) → b ≡ may_move_below (view xs) user p m → b ≡ may_move (view xs) user p g
  may-moved user b e = e ∙ rw h.meets refl

  -- the lowest group on both chains has a row
  pub meeting-low : m < groups
  meeting-low =
      let s = h.to.kept.formed.sound in
      let o = h.from.home in
      rw h.meets (s.range _ (inside-live s _ _ o.live (ancestor-of-left s (process_group (view xs) p) g o.live)))

-- The whole call: the group's checks, the line's, the move's.
module _ (xs : List ℕ) (user g : ℕ) (line : List ℕ) where
  procs-verdict : (a b c : Answer) → a ≡ first (group_checks (view xs) user g) → b ≡ first (line_checks (view xs) line)
      → c ≡ first (move_checks (view xs) user (line_process line) g) → and_then a (and_then b c) ≡ verdict (view xs) (write_procs user g line)
  unfolding verdict checks group_checks line_checks number_checks move_checks
  procs-verdict a b c p q r =
      sym
      (first-append (group_checks (view xs) user g) (line_checks (view xs) line ++ move_checks (view xs) user (line_process line) g)
      ∙ ap (and_then (first (group_checks (view xs) user g))) (first-append (line_checks (view xs) line) (move_checks (view xs) user (line_process line) g))
      ∙ rw (← p, ← q, ← r))

  -- refused by the group's checks
  pub group-refused : (e : Errno) → ◌≡◌ {A = Answer} (Err e) (first (group_checks (view xs) user g))
      → ◌≡◌ {A = Answer} (Err e) (verdict (view xs) (write_procs user g line))
  group-refused e q = procs-verdict (Err e) _ _ q refl refl

  -- refused by the line's
  pub line_refused : ◌≡◌ {A = Answer} (Ok tt) (first (group_checks (view xs) user g)) → (e : Errno)
      → ◌≡◌ {A = Result ProcessId Errno} (Err e) (named_by (first (line_checks (view xs) line)) (line_process line))
      → ◌≡◌ {A = Answer} (Err e) (verdict (view xs) (write_procs user g line))
  line_refused o e q = procs-verdict (Ok tt) (Err e) _ o (named-refusal _ (line_process line) e q) refl

-- The checks of the group and of the line pass, and the line names p.
pub record LineVetted (xs : List ℕ) (user g : ℕ) (line : List ℕ) (p : ProcessId) : Type 0 where
  pub kept : Kept xs
  pub target : ◌≡◌ {A = Answer} (Ok tt) (first (group_checks (view xs) user g))
  pub named : ◌≡◌ {A = Result ProcessId Errno} (Ok p) (named_by (first (line_checks (view xs) line)) (line_process line))

module _ {xs : List ℕ} {user g : ℕ} {line : List ℕ} {p : ProcessId} (v : LineVetted xs user g line p) where
  text : ◌≡◌ {A = Answer} (Ok tt) (first (line_checks (view xs) line))
  text = (named-done _ (line_process line) p v.named).0

  number : p.0 ≡ line_process line
  number = (named-done (first (line_checks (view xs) line)) (line_process line) p v.named).1

  pub procs-to : KeptAt xs g
  unfolding group_checks Pass
  procs-to = record { kept = v.kept; live = (first-pass (group_checks (view xs) user g) (sym v.target)).1.0 }

  procs-live : is_live (places (view xs) p.0) ≡ true
  unfolding line_checks number_checks Pass
  procs-live = rw number (first-pass (line_checks (view xs) line) (sym text)).1.1.1.1.0

  pub procs-from : Standing xs p.0
  procs-from = record { home = record { kept = v.kept; live = process-lives (view xs) v.kept.formed p.0 procs-live }; live = procs-live }

  -- where the process stands, with what the search found
  module _ (home : ℕ) (e : home ≡ process_group (view xs) p.0) where
    pub procs-home : KeptAt xs home
    procs-home = subst (KeptAt xs) (sym e) procs-from.home

    module _ (m : Meeting) (f : m ≡ meeting (view xs) home g) where
      pub procs-moving : Moving xs p.0 g m.group.0
      procs-moving = record { from = procs-from; to = procs-to; meets = rw (f, e) refl }

      -- the chains are those of both groups
      pub procs-migratable : (source target : Chain) → ChainOf (view xs) home source → ChainOf (view xs) g target
          → Migratable xs p.0 source target m.group.0
      procs-migratable source target from to =
          let here : bottom target ≡ g = bottom-of (view xs) v.kept.formed.sound g procs-to.live target to in
          record { moving = rw here procs-moving; source_chain = rw e at from; target_chain = rw here to }

  -- the move's checks, by what they answer
  pub move-verdict : (a : Answer) → a ≡ first (move_checks (view xs) user p.0 g) → a ≡ verdict (view xs) (write_procs user g line)
  move-verdict a m =
      procs-verdict xs user g line (Ok tt) (Ok tt) a v.target text
      (m ∙ ap (λ (q : ℕ). first (move_checks (view xs) user q g)) number)

  -- and what the move left
  pub move-done : ◌≡◌ {A = Answer} (Ok tt) (first (move_checks (view xs) user p.0 g)) → (ys : List ℕ) (target : Chain) → ChainOf (view xs) g target
      → Moved xs ys p.0 (bottom target) → Calling xs ys (write_procs user g line) (verdict (view xs) (write_procs user g line)) (Ok tt)
  unfolding effect
  move-done m ys target to b =
      let w = move-verdict (Ok tt) m in
      let here : Moved xs ys p.0 g = rw (bottom-of (view xs) v.kept.formed.sound g procs-to.live target to) at b in
      accepted xs (write_procs user g line) v.kept ys w
      (applied-seated xs ys (write_procs user g line) p.0 _ v.kept (sym w) here (rw number))
