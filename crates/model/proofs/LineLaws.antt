-- The membership line of a zombie stands still from its exit to its collect, as specs/ZombieRules.antt states it: what each change
-- leaves of the zombie, of the parents on its path and of its group; then over every list of calls. Assumes nothing.
use Rattle.std.specs.Prelude.{Ok}
use Prim.Native.Nat.{ℕ, zero, suc}
use mathlib.Core.Bool.{true, false}
use mathlib.Core.List.{List, [], ◌∷◌, ◌++◌, append-nil}
use mathlib.Core.Logic.{◌≢◌, ◌⊎◌, inl, inr, ⊎_elim}
use mathlib.Core.Path.{◌≡◌, refl, ap, sym, ◌∙◌}
use lib.Dec.{eqb}
use Rattle.model.specs.Functions.{pick, upd, member}
use Rattle.model.specs.Sizes.{deepest}
use Rattle.model.specs.Checks.{answer_number, Pass}
use Rattle.model.specs.Tree.{Tree, Group, Place, nowhere, at, is_live, group_of, no_group, lives, parents, places, zombies, remains}
use Rattle.model.specs.Hierarchy.{climb, chain, inside, facts_of}
use Rattle.model.specs.Zombies.{is_zombie, remnant_parent, path_parents, on_path_in, on_path, last_group}
use Rattle.model.specs.Text.{bytes, ended, decimal}
use Rattle.model.specs.Rules.{process_group}
use Rattle.model.specs.Files.{path, path_text, deleted_mark, membership_line}
use Rattle.model.specs.Calls.{Call, exit, checks, verdict}
use Rattle.model.specs.Effects.{kept_if, effect, step, run}
use Rattle.model.specs.WellFormed.{WellFormed}
use Rattle.model.specs.Lists.{Each, Never, Ever}
use Rattle.model.specs.ZombieRules.{Removes, Collects, LineKept, LineStands}
use Rattle.model.proofs.FunctionLaws.{split, whether, clash, or-false, or_right, upd_same, upd_other, upd-keeps, member-here, member-there}
use Rattle.model.proofs.CheckLaws.{pass-first, answer-zero}
use Rattle.model.proofs.ChainLaws.{climb-next, inside-self, inside-same}
use Rattle.model.proofs.AmountLaws.{place-live}
use Rattle.model.proofs.ZombieLaws.{path_inside, path-has}
use Rattle.model.proofs.Remembering.{no_place}
use Rattle.model.proofs.ZombieCounts.{parent-same}
use Rattle.model.proofs.Preservation.{part-after-remove}
use Rattle.model.proofs.ControlPreservation.{live-after-control, parent-after-control}
use Rattle.model.proofs.Changes.{Change, nothing, placed, altered, made, collected, removal, control}
use Rattle.model.proofs.Steps.{step-accepted, step-refused, by-verdict, passed, change, process-lives, well-formed-step}
use Rattle.model.proofs.Books.{reply-number}
use Rattle.model.proofs.FileReads.{line_read}
use Rattle.model.proofs.LengthLaws.{path-root, path-up}

-- ---- a path asks only for the parents of its own groups

path-agree : (u v : ℕ → ℕ) (n g : ℕ) → ((x : ℕ) → member x (climb u n g) ≡ true → u x ≡ v x) → path u n g ≡ path v n g
unfolding path
path-agree u v zero g h = refl
path-agree u v (suc n) g h =
    whether g 0
    (λ z. path-root u (suc n) g z ∙ sym (path-root v (suc n) g z))
    (λ nz.
    let rest : path u n (u g) ≡ path v n (u g) =
    path-agree u v n (u g) (λ x m. h x (rw (climb-next u n g nz) (member-there x g _ m))) in
    let up : u g ≡ v g = h g (rw (climb-next u n g nz) (member-here g _)) in
    path-up u n g nz ∙ ap (λ xs. xs ++ (bytes "/" ++ decimal g)) (rest ∙ ap (path v n) up) ∙ sym (path-up v n g nz))

text-agree : (t u : Tree) (g : ℕ) → ((x : ℕ) → inside (path_parents t) x g ≡ true → path_parents t x ≡ path_parents u x) → path_text u g ≡ path_text t g
unfolding inside chain
text-agree t u g h =
    ap (λ xs. bytes "0::" ++ pick (eqb g 0) (bytes "/") xs) (sym (path-agree (path_parents t) (path_parents u) deepest g h))

-- ---- what a change leaves of the path of a zombie that it does not collect

-- a group on it: the same above it, and as live as before, but where the call removes it
record Spared (t u : Tree) (c : Call) (x : ℕ) : Type 0 where
  above : path_parents t x ≡ path_parents u x
  live : (lives u x ≡ lives t x) ⊎ ((user : ℕ) × (c ≡ Call.remove user x))

untouched : {t u : Tree} {c : Call} {x : ℕ} → lives u x ≡ lives t x → parents u x ≡ parents t x → remains u x ≡ remains t x → Spared t u c x
untouched l p r = record { above = sym (λ i. pick (l i) (p i) (remnant_parent (r i))); live = inl l }

module _ (t : Tree) (w : WellFormed t) (p g : ℕ) (z : zombies t p ≡ at g) where
  on-path : (x : ℕ) → inside (path_parents t) x g ≡ true → on_path t x ≡ true
  on-path x i = path-has (path_parents t) (zombies t) x p g (w.past.ended.range p g z) z i

  -- a zombie is not live
  zombie-dead : is_live (places t p) ≡ false
  zombie-dead = split (is_live (places t p)) (λ l. no_place (zombies t p) g (w.past.process p l) z) (λ n. n)

  -- who exits is another, and who is collected too
  exit-other : (q : ℕ) → is_live (places t q) ≡ true → p ≢ q
  exit-other q l e = clash (is_live (places t q)) l (rw (← e) zombie-dead)

  collect-other : {c : Call} (q : ℕ) → c ≡ Call.collect q → (Collects p t c → ⊥) → p ≢ q
  collect-other q e n same = n (e ∙ ap Call.collect (sym same))

  zombie-change : {c : Call} {u : Tree} → Change t c u → (Collects p t c → ⊥) → zombies u p ≡ at g
  zombie-change (nothing f) n = z
  zombie-change (placed q v k l) n = z
  zombie-change (altered h v k) n = z
  zombie-change (made user parent new f k) n = z
  zombie-change (Change.ended q k l) n = upd_other (zombies t) q _ p (exit-other q l) ∙ z
  zombie-change (collected q e y) n = upd_other (zombies t) q _ p (collect-other q e n) ∙ z
  zombie-change (removal user h e k) n = z
  zombie-change (control h line f k) n = z

  path-change : {c : Call} {u : Tree} → Change t c u → (Collects p t c → ⊥) → (x : ℕ) → inside (path_parents t) x g ≡ true → Spared t u c x
  path-change (nothing f) n x i = untouched refl refl refl
  path-change (placed q v k l) n x i = untouched refl refl refl
  path-change (altered h v k) n x i =
      untouched
      (upd-keeps (λ y. y.core.live) t.group h v (k.patch.live ∙ sym k.patch.alive) x)
      (upd-keeps (λ y. y.core.parent) t.group h v k.patch.parent x)
      refl
  path-change (made user parent new f k) n x i =
      let ne : x ≢ new = (λ e. clash (on_path t x) (on-path x i) (rw e (or-false (lives t new) _ k.free).1)) in
      untouched
      (ap (λ (y : Group). y.core.live) (upd_other t.group new _ x ne))
      (ap (λ (y : Group). y.core.parent) (upd_other t.group new _ x ne))
      refl
  path-change (Change.ended q k l) n x i = untouched refl refl refl
  path-change (collected q e y) n x i =
      let others : ℕ → Place = upd (zombies t) q nowhere in
      let o : on_path_in (path_parents t) others x ≡ true =
      path-has (path_parents t) others x p g (w.past.ended.range p g z) (upd_other (zombies t) q nowhere p (collect-other q e n) ∙ z) i in
      untouched refl refl (ap (λ b. kept_if b (remains t x)) o)
  path-change (removal user h e k) n x i =
      record {
        above = parent-same t w h k.alive x (on-path x i);
        live =
            whether x h
            (λ same. inr (user, e ∙ ap (Call.remove user) (sym same)))
            (λ ne. inl (ap (λ f. f x) (part-after-remove t h (λ y. y.core.live) refl) ∙ upd_other (lives t) h _ x ne));
      }
  path-change (control h line f k) n x i =
      untouched (ap (λ f. f x) (live-after-control t h _ _)) (ap (λ f. f x) (parent-after-control t h _ _)) refl

-- ---- a zombie's path, from call to call

-- in tree t, p is a zombie that ended in g, this is its path, and it runs through these groups
record Lying (p g : ℕ) (text way : List ℕ) (t : Tree) : Type 0 where
  formed : WellFormed t
  zombie : zombies t p ≡ at g
  shown : path_text t g ≡ text
  through : (x : ℕ) → member x way ≡ true → inside (path_parents t) x g ≡ true

removed-dead : (g : ℕ) (t : Tree) (c : Call) → Removes g t c → lives (step t c) g ≡ false
unfolding effect
removed-dead g t c r =
    let e : verdict t c ≡ Ok tt = answer-zero (verdict t c) (sym (reply-number t c) ∙ r.accepted) in
    ap (λ (u : Tree). lives u g) (step-accepted t c e ∙ ap (effect t) r.call) ∙ ap (λ (y : Group). y.core.live) (upd_same _ g no_group)

module _ (p g : ℕ) (text way : List ℕ) where
  lying-step : (t : Tree) (c : Call) → Lying p g text way t → (Collects p t c → ⊥) → Lying p g text way (step t c)
  lying-step t c y n =
      by-verdict t c
      (λ e. let k : Change t c (effect t c) = change t c y.formed (passed t c e) in
      let above : (x : ℕ) → inside (path_parents t) x g ≡ true → path_parents t x ≡ path_parents (effect t c) x =
      (λ x i. (path-change t y.formed p g y.zombie k n x i).above) in
      record {
        formed = well-formed-step t c y.formed;
        zombie = rw (step-accepted t c e) (zombie-change t y.formed p g y.zombie k n);
        shown = rw (step-accepted t c e) (text-agree t (effect t c) g above ∙ y.shown);
        through = λ x m. rw (step-accepted t c e) (sym (inside-same (path_parents t) (path_parents (effect t c)) x g above) ∙ y.through x m);
      })
      (λ x e. rw (step-refused t c x e) y)

  -- its group is as live as before, but for an accepted removal
  live-step : (t : Tree) (c : Call) → Lying p g text way t → (Collects p t c → ⊥) → (lives (step t c) g ≡ lives t g) ⊎ Removes g t c
  live-step t c y n =
      by-verdict t c
      (λ e. ⊎_elim
      (λ (l : lives (effect t c) g ≡ lives t g). inl (rw (step-accepted t c e) l))
      (λ (r : (user : ℕ) × (c ≡ Call.remove user g)). inr (record { user = r.0; call = r.1; accepted = reply-number t c ∙ ap answer_number e }))
      (path-change t y.formed p g y.zombie (change t c y.formed (passed t c e)) n g own).live)
      (λ x e. inl (rw (step-refused t c x e)))
    where
      own : inside (path_parents t) g g ≡ true
      own = inside-self y.formed.past.paths g (y.formed.past.ended.group p g y.zombie)

  -- and so over a list that does not collect it
  lying-run : (cs : List Call) (t : Tree) → Lying p g text way t → Never (Collects p) t cs → Lying p g text way (run t cs)
  unfolding run Each
  lying-run [] t y n = y
  lying-run (c ∷ cs) t y n = lying-run cs (step t c) (lying-step t c y n.0) n.1

  live-run : (cs : List Call) (t : Tree) → Lying p g text way t → Never (Collects p) t cs → Never (Removes g) t cs → lives (run t cs) g ≡ lives t g
  unfolding run Each
  live-run [] t y n k = refl
  live-run (c ∷ cs) t y n k =
      live-run cs (step t c) (lying-step t c y n.0) n.1 k.1
      ∙ ⊎_elim (λ (l : lives (step t c) g ≡ lives t g). l) (λ r. absurd (k.0 r)) (live-step t c y n.0)

  -- once removed it is not live again: its number is taken
  dead-run : (cs : List Call) (t : Tree) → Lying p g text way t → Never (Collects p) t cs → lives t g ≡ false → lives (run t cs) g ≡ false
  unfolding run Each
  dead-run [] t y n d = d
  dead-run (c ∷ cs) t y n d =
      dead-run cs (step t c) (lying-step t c y n.0) n.1
      (⊎_elim (λ (l : lives (step t c) g ≡ lives t g). l ∙ d) (λ r. removed-dead g t c r) (live-step t c y n.0))

  removed-run : (cs : List Call) (t : Tree) → Lying p g text way t → Never (Collects p) t cs → Ever (Removes g) t cs → lives (run t cs) g ≡ false
  unfolding run Each Ever
  removed-run [] t y n k = absurd k
  removed-run (c ∷ cs) t y n k =
      let next : Lying p g text way (step t c) = lying-step t c y n.0 in
      ⊎_elim
      (λ (r : Removes g t c). dead-run cs (step t c) next n.1 (removed-dead g t c r))
      (λ r. removed-run cs (step t c) next n.1 r)
      k

-- ---- the line

-- of a live process and of a zombie, by their group
line_of : (t : Tree) (p g : ℕ) → last_group t p ≡ g → membership_line t p ≡ ended (path_text t g ++ deleted_mark t g)
unfolding membership_line
line_of t p g e = ap (λ h. ended (path_text t h ++ deleted_mark t h)) e

line-lying : (p g : ℕ) (text way : List ℕ) (t : Tree) → Lying p g text way t → membership_line t p ≡ ended (text ++ deleted_mark t g)
line-lying p g text way t y =
    let dead : is_live (places t p) ≡ false = zombie-dead t y.formed p g y.zombie in
    line_of t p g (ap (λ b. pick b (group_of (places t p)) (group_of (zombies t p))) dead ∙ ap group_of y.zombie)
    ∙ ap (λ s. ended (s ++ deleted_mark t g)) y.shown

mark-live : (t : Tree) (g : ℕ) → lives t g ≡ true → deleted_mark t g ≡ []
mark-live t g l = rw l

mark-dead : (t : Tree) (g : ℕ) → lives t g ≡ false → deleted_mark t g ≡ bytes " (deleted)"
mark-dead t g n = rw n

module _ (t : Tree) (w : WellFormed t) (p : ℕ) (l : is_live (places t p) ≡ true) where
  abbrev home : ℕ
  home = process_group t p

  -- an exit is accepted, and leaves a zombie
  exited : step t (exit p) ≡ effect t (exit p)
  unfolding verdict checks Pass
  exited = step-accepted t (exit p) (pass-first (checks (facts_of t) (exit p)) (l, tt))

  lying-exit : Lying p home (path_text t home) (chain (parents t) home) (step t (exit p))
  unfolding effect inside
  lying-exit =
      record {
        formed = well-formed-step t (exit p) w;
        zombie = ap (λ (u : Tree). zombies u p) exited ∙ upd_same (zombies t) p (places t p) ∙ place-live (places t p) l;
        shown = ap (λ (u : Tree). path_text u home) exited;
        through = λ x m. ap (λ (u : Tree). inside (path_parents u) x home) exited ∙ path_inside t w x home (process-lives t w p l) ∙ m;
      }

  live_exit : lives (step t (exit p)) home ≡ true
  unfolding effect
  live_exit = ap (λ (u : Tree). lives u home) exited ∙ process-lives t w p l

  line_before : membership_line t p ≡ ended (path_text t home ++ deleted_mark t home)
  line_before = line_of t p home (ap (λ b. pick b (group_of (places t p)) (group_of (zombies t p))) l)

  line_kept : (cs : List Call) → Never (Collects p) (step t (exit p)) cs → LineKept t p home cs
  unfolding inside
  line_kept cs n =
      let u : Tree = run (step t (exit p)) cs in
      let text : List ℕ = path_text t home in
      let way : List ℕ = chain (parents t) home in
      let y : Lying p home text way u = lying-run p home text way cs (step t (exit p)) lying-exit n in
      let line : membership_line u p ≡ ended (text ++ deleted_mark u home) = line-lying p home text way u y in
      record {
        before = line_before ∙ ap ended (ap (λ s. text ++ s) (mark-live t home (process-lives t w p l)) ∙ append-nil text);
        taken = λ x i. or_right (lives u x) _ (on-path u y.formed p home y.zombie x (y.through x i));
        stays = λ k.
            line
            ∙ ap (λ s. ended (text ++ s))
            (mark-live u home (live-run p home text way cs (step t (exit p)) lying-exit n k ∙ live_exit) ∙ sym (mark-live t home (process-lives t w p l)))
            ∙ sym line_before;
        deleted = λ k. line ∙ ap (λ s. ended (text ++ s)) (mark-dead u home (removed-run p home text way cs (step t (exit p)) lying-exit n k));
        answered = λ buffer f. line_read u p buffer (or_right (is_live (places u p)) _ (ap is_zombie y.zombie)) f;
      }

pub line-stands : (t : Tree) → WellFormed t → LineStands t
line-stands t w p cs l n = line_kept t w p l cs n
