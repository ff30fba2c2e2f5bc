-- Limits hold: an accepted charge or fork leaves no group on the way up over its limit, and a group with a page limit has at
-- most the larger of the limit and its mark. Assumes nothing.
use Rattle.std.specs.Prelude.{Option, Some, None}
use Prim.Native.Nat.{ℕ, suc, ◌+◌, ◌≤◌, max}
use native.Mathlib.Omega.{arith}
use mathlib.Core.Bool.{true, false}
use mathlib.Core.List.{List}
use mathlib.Core.Logic.{◌⊎◌, inl, inr, ⊎_elim}
use mathlib.Core.Path.{◌≡◌, refl, ap, sym, ◌∙◌, fun_ext, subst, subst₂}
use borrow.Author.Tests.{leb-false}
use Rattle.model.specs.Functions.{upd}
use Rattle.model.specs.Checks.{Pass}
use Rattle.model.specs.Tree.{group_of, Tree, Core, Group, at, nowhere, controller_of, no_group, new_group, with_limits, with_limit, at_group, cores, lives, parents, depths, places}
use Rattle.model.specs.Hierarchy.{inside, own_pages, usage, population, amount, child_of, facts_of}
use Rattle.model.specs.Control.{asked, is_dropped}
use Rattle.model.specs.Rooms.{over, acting_limit}
use Rattle.model.specs.Rules.{process_group, leaving}
use Rattle.model.specs.Calls.{Call, line_value, charge_checks, fork_checks, checks}
use Rattle.model.specs.Effects.{charged, removed, new_set, controlled, effect}
use Rattle.model.specs.Book.{enter_limit, entry_of, enter_entry, child_after, enter_value, enter}
use Rattle.model.specs.WellFormed.{WellFormed}
use Rattle.model.specs.Demands.{Adds, by_charge, by_fork, by_admit}
use Rattle.model.specs.declared.Resource.{Resource}
use Rattle.model.specs.declared.Resource.TheVariants.{Pages, Processes}
use Rattle.model.specs.declared.Limit.{Limit}
use Rattle.model.specs.declared.Limit.TheVariants.{NoLimit, Figure}
use Rattle.model.specs.declared.SettingValue.{SettingValue}
use Rattle.model.proofs.FunctionLaws.{split, whether, upd_same, upd_other, upd-map, upd-keeps, upd-all, weigh-yes}
use Rattle.model.proofs.ChainLaws.{inside-live, inside-root}
use Rattle.model.proofs.AmountLaws.{place-live, place-free, usage-same, usage-after-charge, population-after-birth, amount-after-make, amount-after-remove}
use Rattle.model.proofs.ZombieLaws.{untaken-process}
use Rattle.model.proofs.RoomLaws.{room-on-chain, root-limit-none, own-limit-holds, over-figure, no-figure}
use Rattle.model.proofs.Preservation.{cores-after-remove}
use Rattle.model.proofs.ControlPreservation.{amount-after-control}
use Rattle.model.proofs.Changes.{made-dead, WritesSetting, Altering, usage-altered, Making, Removing, Change, nothing, placed, altered, made, ended, collected, removal, control}
use Rattle.model.proofs.Steps.{process-lives, change}
use Rattle.model.proofs.Books.{cores-after-control, book_with, booked}

-- An accepted charge or fork, of a process in g: every group on the way up had room for what it now holds.
module _ (t : Tree) (w : WellFormed t) (r : Resource) (n g a : ℕ) (i : inside (parents t) a g ≡ true) (lg : lives t g ≡ true)
    (o : over (amount (cores t) (places t) r a + n) (acting_limit t r a) ≡ false) where
  room-kept : (m : ℕ) → m ≡ amount (cores t) (places t) r a + n → over m ((t.group a).core.limit r) ≡ false
  room-kept m e = rw e (own-limit-holds t w r a (amount (cores t) (places t) r a + n) (inside-live w.sound a g lg i) o)

pub within-after-add : (t : Tree) → WellFormed t → (r : Resource) (p : ℕ) (c : Call) → Adds r p c → Pass (checks (facts_of t) c) → (a : ℕ)
    → inside (parents (effect t c)) a (process_group (effect t c) p) ≡ true
    → over (amount (cores (effect t c)) (places (effect t c)) r a) (((effect t c).group a).core.limit r) ≡ false
unfolding effect checks Pass charge_checks fork_checks
within-after-add t w r p c (by_charge {n = n}) k a i =
    let g : ℕ = process_group t p in
    let lg : lives t g ≡ true = process-lives t w p (search) in
    let j : inside (parents t) a g ≡ true =
    rw (fun_ext (upd-keeps (λ x. x.core.parent) t.group g (charged n (t.group g)) refl)) at i in
    let u : usage (cores (effect t (Call.charge p n))) a ≡ usage (cores t) a + n =
    ap (λ s. usage s a) (upd-map (λ x. x.core) t.group g _) ∙ usage-after-charge (cores t) g n (w.sound.range g lg) lg a
    ∙ ap (λ x. usage (cores t) a + x) (weigh-yes _ n j) in
    rw (upd-keeps (λ x. x.core.limit Pages) t.group g (charged n (t.group g)) refl a)
    (room-kept t w Pages n g a j lg (room-on-chain (facts_of t) Pages n g (search) a j) _ u)
within-after-add t w r p c (by_fork {parent = parent}) k a i =
    let g : ℕ = process_group t parent in
    let lg : lives t g ≡ true = process-lives t w parent (search) in
    let here : places t parent ≡ at g = place-live (places t parent) (search) in
    let free : places t p ≡ nowhere = place-free (places t p) (untaken-process t p (search)).0 in
    let j : inside (parents t) a g ≡ true =
    sym (ap (λ x. inside (parents t) a (group_of x.place)) (upd_same t.process p (t.process parent))) ∙ i in
    let u : population (cores t) (places (effect t (Call.fork parent p))) a ≡ population (cores t) (places t) a + 1 =
    ap (λ x. population (cores t) x a) (upd-map (λ x. x.place) t.process p (t.process parent) ∙ ap (upd (places t) p) here)
    ∙ population-after-birth (cores t) (places t) p g a (omega (arith, leb-false)) free
    ∙ ap (λ x. population (cores t) (places t) a + x) (weigh-yes _ 1 j) in
    room-kept t w Processes 1 g a j lg (room-on-chain (facts_of t) Processes 1 g (search) a j) _ u
within-after-add t w r p c (by_admit {user = user}) k a i =
    let z : a ≡ 0 = inside-root w.sound a
    (sym (ap (λ x. inside (parents t) a (group_of x.place)) (upd_same t.process p (record { place = at 0; user = user }))) ∙ i) in
    rw (z, root-limit-none t w Processes)

-- "the larger of that limit and the pages it had when the limit was last written"
abbrev pub Marked : (ℕ → Core) → (ℕ → ℕ) → Type 0
Marked s mark = (g l : ℕ) → (s g).live ≡ true → (s g).limit Pages ≡ Figure l → usage s g ≤ max l (mark g)

-- hierarchy and pages stay, and a limit stays or goes
marked-frame : (s s' : ℕ → Core) (mark : ℕ → ℕ) → Marked s mark
    → ((g : ℕ) → (s' g).live ≡ (s g).live) → ((g : ℕ) → (s' g).parent ≡ (s g).parent) → ((g : ℕ) → (s' g).own ≡ (s g).own)
    → ((g : ℕ) → ((s' g).limit Pages ≡ NoLimit) ⊎ ((s' g).limit Pages ≡ (s g).limit Pages)) → Marked s' mark
marked-frame s s' mark q l p o f a x v e =
    ⊎_elim
    (λ n. no-figure _ x n e)
    (λ (k : (s' a).limit Pages ≡ (s a).limit Pages).
    omega (arith, usage-same s s' p (λ g. rw (l g, o g)) a, q a x (sym (l a) ∙ v) (sym k ∙ e)))
    (f a)

-- a limit of pages is written, and the mark is no less than what the group has
marked-write : (s : ℕ → Core) (mark : ℕ → ℕ) (g : ℕ) (l : Limit) (k : ℕ) → usage s g ≤ k → Marked s mark
    → Marked (upd s g (with_limits (with_limit Pages l (s g).limit) (s g))) (upd mark g k)
marked-write s mark g l k h q a m v e =
    let x : Core = with_limits (with_limit Pages l (s g).limit) (s g) in
    let u : ((a : ℕ) → usage (upd s g x) a ≡ usage s a) =
    usage-same s (upd s g x) (upd-keeps (λ c. c.parent) s g x refl) (upd-keeps (λ c. own_pages c) s g x refl) in
    whether a g
    (λ d. rw (d, upd_same mark g) (omega (arith, u g)))
    (λ ne. rw (upd_other mark g _ a ne)
    (omega (arith, u a, q a m (rw (upd_other s g x a ne) at v) (rw (upd_other s g x a ne) at e))))

-- what a control line leaves of a child
module _ (g : ℕ) (line : List ℕ) (k : ℕ) (c : Core) where
  child-limit-after : ((child_after g line k c).limit Pages ≡ NoLimit) ⊎ ((child_after g line k c).limit Pages ≡ c.limit Pages)
  child-limit-after =
      split (child_of g k c)
      (λ y. rw (y, child_after) (split (is_dropped (asked line (controller_of Pages))) (λ d. inl (rw d)) (λ d. inr (rw d))))
      (λ n. rw (n, child_after) (inr refl))

-- Limits of pages after a change: none is new, and a group that has one holds no more than before or no more than the limit.
pub record Limited (t u : Tree) : Type 0 where
  pub kept : (g l : ℕ) → (u.group g).core.limit Pages ≡ Figure l → (t.group g).core.limit Pages ≡ Figure l
  pub bound : (g l : ℕ) → (u.group g).core.limit Pages ≡ Figure l
      → (usage (cores u) g ≤ usage (cores t) g) ⊎ (usage (cores u) g ≤ l)

module _ (t : Tree) (w : WellFormed t) where
  -- a group with a limit is live
  limited-live : (g l : ℕ) → (t.group g).core.limit Pages ≡ Figure l → lives t g ≡ true
  limited-live g l e =
      split (lives t g) (λ y. y) (λ n. no-figure _ l (ap (λ x. x.core.limit Pages) (w.blank.free_group g n)) e)

  limited-altered : {c : Call} (g : ℕ) (v : Group) → Altering t c g v → v.core.limit Pages ≡ (t.group g).core.limit Pages
      → Limited t (at_group t g v)
  limited-altered g v k same =
      let kept : ((a l : ℕ) → ((at_group t g v).group a).core.limit Pages ≡ Figure l → (t.group a).core.limit Pages ≡ Figure l) =
      (λ a l e. sym (upd-keeps (λ x. x.core.limit Pages) t.group g v same a) ∙ e) in
      record {
        kept = kept;
        bound = λ a l e.
            ⊎_elim (λ x. inl x)
            (λ x. inr (over-figure _ l _ (own-limit-holds t w Pages a _ (limited-live a l (kept a l e)) x) (kept a l e)))
            (usage-altered t w g v k a);
      }

  limited-made : (user parent new : ℕ) → Making t user parent new → Limited t (at_group t new (new_group parent (suc (depths t parent)) user))
  limited-made user parent new k =
      record {
        kept = λ a l.
            upd-all (λ j x. x.core.limit Pages ≡ Figure l → (t.group j).core.limit Pages ≡ Figure l) t.group new _
            (λ e. no-figure NoLimit l refl e) (λ j _ e. e) a;
        bound = λ a l e. inl (omega (
          arith,
          ap (λ s. usage s a) (upd-map (λ x. x.core) t.group new (new_group parent (suc (depths t parent)) user)),
          amount-after-make (cores t) (places t) (depths t) w.sound w.placed Pages new parent a (made-dead t w k),
        ));
      }

  limited-removed : (g : ℕ) → Removing t g → Limited t (removed t g)
  limited-removed g k =
      record {
        kept = λ a l.
            upd-all (λ j x. x.core.limit Pages ≡ Figure l → (t.group j).core.limit Pages ≡ Figure l) _ g no_group
            (λ e. no-figure NoLimit l refl e)
            (λ j _. upd-all (λ j x. x.core.limit Pages ≡ Figure l → (t.group j).core.limit Pages ≡ Figure l) t.group (parents t g) _
            (λ e. e) (λ i _ e. e) j) a;
        bound = λ a l e.
            whether a g
            (λ d. no-figure _ l (ap (λ x. x.core.limit Pages) (upd_same _ g no_group)) (rw d at e))
            (λ ne. inl (omega (
              arith,
              ap (λ s. usage s a) (cores-after-remove t g),
              amount-after-remove (cores t) (places t) (depths t) w.sound w.placed g
                  k.alive k.inner k.no_child k.no_process Pages a ne,
            )));
      }

  limited-control : (g : ℕ) (line : List ℕ) → Limited t (controlled t g (new_set t g line) (leaving t g line))
  limited-control g line =
      record {
        kept = λ a l e.
            let f : (child_after g line a (cores t a)).limit Pages ≡ Figure l =
            ap (λ c. c.limit Pages) (sym (cores-after-control t w g line a)) ∙ e in
            ⊎_elim (λ x. no-figure _ l x f) (λ x. sym x ∙ f) (child-limit-after g line a (cores t a));
        bound = λ a l e. inl (omega (arith, amount-after-control t g (new_set t g line) (leaving t g line) Pages a));
      }

  pub limited-change : {c : Call} {u : Tree} → Change t c u → Limited t u ⊎ WritesSetting c
  limited-change (nothing f) = inl (record { kept = λ a l e. e; bound = λ a l e. inl (omega arith) })
  limited-change (placed p v k l) = inl (record { kept = λ a l e. e; bound = λ a l e. inl (omega arith) })
  limited-change {c} (altered g v k) =
      ⊎_elim (λ same. inl (limited-altered g v k same)) (λ (s : WritesSetting c). inr s) k.limit
  limited-change (made user parent new f k) = inl (limited-made user parent new k)
  limited-change (ended p k l) = inl (record { kept = λ a m e. e; bound = λ a m e. inl (omega arith) })
  limited-change (collected p f z) = inl (record { kept = λ a l e. e; bound = λ a l e. inl (omega arith) })
  limited-change (removal user g f k) = inl (limited-removed g k)
  limited-change (control g line f k) = inl (limited-control g line)

  marked-limited : (u : Tree) (mark : ℕ → ℕ) → Limited t u → Marked (cores t) mark → Marked (cores u) mark
  marked-limited u mark k q a l v e =
      let m : usage (cores t) a ≤ max l (mark a) = q a l (limited-live a l (k.kept a l e)) (k.kept a l e) in
      ⊎_elim (λ (x : usage (cores u) a ≤ usage (cores t) a). omega arith) (λ (x : usage (cores u) a ≤ l). omega arith) (k.bound a l e)

module _ (t : Tree) (mark : ℕ → ℕ) (w : WellFormed t) (q : Marked (cores t) mark) where
  marked-limit : (g : ℕ) (r : Resource) (l : Limit)
      → Marked (enter_limit (book_with t mark) g r l).group (enter_limit (book_with t mark) g r l).mark
  marked-limit g Pages l = marked-write (cores t) mark g _ _ (omega arith) q
  marked-limit g Processes l =
      marked-frame (cores t) _ mark q
      (upd-keeps (λ c. c.live) (cores t) g _ refl) (upd-keeps (λ c. c.parent) (cores t) g _ refl) (upd-keeps (λ c. c.own) (cores t) g _ refl)
      (λ a. inr (upd-keeps (λ c. c.limit Pages) (cores t) g _ refl a))

  marked-entry : (g : ℕ) (o : Option (Resource × Limit))
      → Marked (enter_entry (book_with t mark) g o).group (enter_entry (book_with t mark) g o).mark
  marked-entry g None = q
  marked-entry g (Some e) = marked-limit g e.0 e.1

  marked-value : (g : ℕ) (v : Option SettingValue) → Marked (enter_value (book_with t mark) g v).group (enter_value (book_with t mark) g v).mark
  marked-value g None = q
  marked-value g (Some v) = marked-entry g (entry_of v)

  marked-setting : (c : Call) → WritesSetting c → Marked (enter (book_with t mark) c).group (enter (book_with t mark) c).mark
  unfolding enter
  marked-setting c s =
      subst (λ (x : Call). Marked (enter (book_with t mark) x).group (enter (book_with t mark) x).mark) (sym s.call)
      (marked-value s.group (line_value s.file s.line))

  pub marked-enter : (c : Call) → Pass (checks (facts_of t) c) → Marked (enter (book_with t mark) c).group (enter (book_with t mark) c).mark
  marked-enter c k =
      let b = booked t c w in
      ⊎_elim
      (λ (stay : (m : ℕ → ℕ) → (enter (book_with t m) c).mark ≡ m). ⊎_elim
      (λ (l : Limited t (effect t c)). subst₂ Marked (b.same mark).groups (sym (stay mark)) (marked-limited t w (effect t c) mark l q))
      (marked-setting c) (limited-change t w (change t c w k)))
      (marked-setting c) b.marks
