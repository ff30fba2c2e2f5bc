-- The limit of a group is what the last accepted write of memory.max to it gave, and its mark the usage that it had right after: no
-- other call moves the mark, and none gives a page limit. Assumes nothing.
use Rattle.std.specs.Prelude.{Option, Some, None, Ok, Err}
use Prim.Native.Nat.{ℕ, suc, ◌+◌}
use native.Mathlib.Omega.{arith}
use mathlib.Core.Bool.{true, false}
use mathlib.Core.List.{List, [], ◌∷◌}
use mathlib.Core.Logic.{◌≢◌, ◌⊎◌, inl, inr, ⊎_elim}
use mathlib.Core.Path.{◌≡◌, refl, ap, ap₂, sym, ◌∙◌, subst}
use Rattle.model.specs.Functions.{upd, known}
use Rattle.model.specs.Checks.{Pass, answer_number}
use Rattle.model.specs.Tree.{Tree, Core, cores}
use Rattle.model.specs.Hierarchy.{usage}
use Rattle.model.specs.Text.{bytes, line_words, one_word}
use Rattle.model.specs.Figures.{limit_word}
use Rattle.model.specs.Names.{settings, setting_name, setting_named}
use Rattle.model.specs.Calls.{Call, setting_value, line_value, setting_checks, checks, verdict}
use Rattle.model.specs.Effects.{effect, step}
use Rattle.model.specs.Replies.{reply}
use Rattle.model.specs.Book.{Book, enter_limit, entry_of, enter_entry, enter_value, enter, book_step, book_of, fed}
use Rattle.model.specs.WellFormed.{WellFormed}
use Rattle.model.specs.Lists.{Accepted, log, book_after, Each, Never, Last}
use Rattle.model.specs.Marks.{SetsMemoryMax, Leaves, AtLastWrite, AtStart, MarkIs}
use Rattle.model.specs.declared.Resource.{Resource}
use Rattle.model.specs.declared.Resource.TheVariants.{Pages, Processes}
use Rattle.model.specs.declared.Limit.{Limit}
use Rattle.model.specs.declared.Limit.TheVariants.{Figure}
use Rattle.model.specs.declared.Setting.{Setting}
use Rattle.model.specs.declared.Setting.TheVariants.{Max}
use Rattle.model.specs.declared.SettingValue.{SettingValue}
use Rattle.model.specs.declared.SettingValue.TheVariants.{Weight, Quota, Bandwidth, Device, Maximum}
use Rattle.model.specs.declared.Errno.{Errno}
use Rattle.model.proofs.FunctionLaws.{whether, clash, upd_same, upd_other, upd-keeps}
use Rattle.model.proofs.CheckLaws.{errno-positive}
use Rattle.model.proofs.NameLaws.{named-name, setting_named-setting_name}
use Rattle.model.proofs.SettingLaws.{setting_of, setting_of-value_of}
use Rattle.model.proofs.SettingPreservation.{amount-after-setting}
use Rattle.model.proofs.Changes.{WritesSetting}
use Rattle.model.proofs.Steps.{step-accepted, by-verdict, passed, change}
use Rattle.model.proofs.Books.{reply-number, book_with, book-with-same, booked, same-enter, book-step-accepted, book-step-refused}
use Rattle.model.proofs.Bounds.{Limited, limited-change}
use Rattle.model.proofs.States.{State, state-begin, state-step}
use Rattle.model.proofs.Rounding.{figure-given}

-- The file whose line gave a value is the value's own.
pub file-of-value : (file line : List ℕ) (v : SettingValue) → line_value file line ≡ Some v → file ≡ setting_name (setting_of v)
file-of-value file line v e = go (setting_named file) refl e
  where
    go : (o : Option Setting) → setting_named file ≡ o → setting_value o line ≡ Some v → file ≡ setting_name (setting_of v)
    go None n h = let z : ◌≡◌ {A = ℕ} 0 1 = cc in absurd (omega arith)
    go (Some s) n h = named-name setting_name file settings s n ∙ ap setting_name (sym (setting_of-value_of s (line_words line) v h))

-- A limit of g that stands afterwards stood there before.
abbrev Kept : (ℕ → Core) → (ℕ → Core) → ℕ → Type 0
Kept s s' g = (l : ℕ) → (s' g).limit Pages ≡ Figure l → (s g).limit Pages ≡ Figure l

kept-left : (s : ℕ → Core) (i : ℕ) (v : Core) → v.limit Pages ≡ (s i).limit Pages → (g : ℕ) → Kept s (upd s i v) g
kept-left s i v e g l h = sym (upd-keeps (λ c. c.limit Pages) s i v e g) ∙ h

-- the limit of the resource is entered
abbrev Enters : Resource → Option (Resource × Limit) → Type 0
Enters r None = ⊥
Enters r (Some e) = e.0 ≡ r

module _ (b : Book) (g : ℕ) where
  -- a limit entered at h
  limit-left : (h : ℕ) (r : Resource) (x : Limit) → (r ≡ Pages → h ≡ g → ⊥)
      → ((enter_limit b h r x).mark g ≡ b.mark g) × Kept b.group (enter_limit b h r x).group g
  limit-left h Pages x n =
      let ne : g ≢ h = (λ e. n refl (sym e)) in
      (upd_other b.mark h _ g ne, λ l e. ap (λ c. c.limit Pages) (sym (upd_other b.group h _ g ne)) ∙ e)
  limit-left h Processes x n = (refl, kept-left b.group h _ refl g)

  entry-left : (h : ℕ) (o : Option (Resource × Limit)) → (Enters Pages o → h ≡ g → ⊥)
      → ((enter_entry b h o).mark g ≡ b.mark g) × Kept b.group (enter_entry b h o).group g
  entry-left h None n = (refl, λ l e. e)
  entry-left h (Some e) n = limit-left h e.0 e.1 n

-- Names of two settings are not the same bytes.
setting-of-name : (x y : Setting) → setting_name x ≡ setting_name y → x ≡ y
setting-of-name x y e =
    let f : Some x ≡ Some y = sym (setting_named-setting_name x) ∙ ap setting_named e ∙ setting_named-setting_name y in
    cc

-- A call by whether it is an accepted write of memory.max to g.
module _ (t : Tree) (b : Book) (s : State t b) (g : ℕ) where
  abbrev after : Call → Book
  after c = book_step b c (reply t c).number

  -- one that is not
  record Other (c : Call) : Type 0 where
    unset : SetsMemoryMax g t c → ⊥
    mark : (after c).mark g ≡ b.mark g
    limit : Kept b.group (after c).group g

  abbrev Decided : Call → Type 0
  Decided c = (SetsMemoryMax g t c × ((after c).mark g ≡ usage (cores (step t c)) g)) ⊎ Other c

  refused-other : (c : Call) (x : Errno) → verdict t c ≡ Err x → Other c
  refused-other c x e =
      record {
        unset = λ w. errno-positive x (sym (reply-number t c ∙ ap answer_number e) ∙ w.accepted);
        mark = ap (λ y. y.mark g) (book-step-refused t b c x e);
        limit = λ l h. ap (λ y. (y.group g).limit Pages) (sym (book-step-refused t b c x e)) ∙ h;
      }

  module _ (c : Call) (e : verdict t c ≡ Ok tt) where
    accepted-other : (SetsMemoryMax g t c → ⊥) → (enter b c).mark g ≡ b.mark g → Kept b.group (enter b c).group g → Other c
    accepted-other n m f =
        record {
          unset = n;
          mark = ap (λ y. y.mark g) (book-step-accepted t b c e) ∙ m;
          limit = λ l h. f l (ap (λ y. (y.group g).limit Pages) (sym (book-step-accepted t b c e)) ∙ h);
        }

  module _ (user h : ℕ) (file line : List ℕ) (e : verdict t (Call.write_setting user h file line) ≡ Ok tt) where
    abbrev written : Call
    written = Call.write_setting user h file line

    -- another setting, or another group
    other-value : (v : SettingValue) → line_value file line ≡ Some v → (Enters Pages (entry_of v) → h ≡ g → ⊥)
        → (setting_of v ≡ Max Pages → h ≡ g → ⊥) → Decided written
    unfolding enter
    other-value v p x n =
        let f : file ≡ setting_name (setting_of v) = file-of-value file line v p in
        let q : ((enter b written).mark g ≡ b.mark g) × Kept b.group (enter b written).group g =
        subst (λ (o : Option SettingValue). ((enter_value b h o).mark g ≡ b.mark g) × Kept b.group (enter_value b h o).group g) (sym p)
        (entry-left b g h (entry_of v) x) in
        inr (accepted-other written e (λ w. n (setting-of-name (setting_of v) (Max Pages) (sym f ∙ file-of w)) (group_of w)) q.0 q.1)
      where
        file-of : SetsMemoryMax g t written → file ≡ setting_name (Max Pages)
        file-of w = cc

        group_of : SetsMemoryMax g t written → h ≡ g
        group_of w = cc

    this-value : (l : Limit) → line_value file line ≡ Some (Maximum Pages l) → h ≡ g → Decided written
    unfolding enter effect
    this-value l p d =
        let f : file ≡ bytes "memory.max" = file-of-value file line (Maximum Pages l) p in
        let m : (enter b written).mark g ≡ usage b.group g =
        ap (λ v. (enter_value b h v).mark g) p ∙ rw d (upd_same b.mark g (usage b.group g)) in
        let u : usage (cores (step t written)) g ≡ usage (cores t) g =
        ap (λ x. usage (cores x) g) (step-accepted t written e) ∙ amount-after-setting t h (line_value file line) Pages g in
        inl (
          record {
            user = user;
            line = line;
            call = ap₂ (λ x y. Call.write_setting user x y line) d f;
            accepted = reply-number t written ∙ ap answer_number e;
          },
          ap (λ y. y.mark g) (book-step-accepted t b written e) ∙ m ∙ ap (λ x. usage x g) (sym s.same.groups) ∙ sym u,
        )

    by_value : (v : Option SettingValue) → line_value file line ≡ v → known v ≡ true → Decided written
    by_value None p k = clash false k refl
    by_value (Some (Weight n)) p k = other-value (Weight n) p (λ x. absurd x) (λ x. let z : ◌≡◌ {A = ℕ} 0 1 = cc in absurd (omega arith))
    by_value (Some (Quota q)) p k = other-value (Quota q) p (λ x. absurd x) (λ x. let z : ◌≡◌ {A = ℕ} 0 1 = cc in absurd (omega arith))
    by_value (Some (Bandwidth q o)) p k =
        other-value (Bandwidth q o) p (λ x. absurd x) (λ x. let z : ◌≡◌ {A = ℕ} 0 1 = cc in absurd (omega arith))
    by_value (Some (Device a b q)) p k =
        other-value (Device a b q) p (λ x. absurd x) (λ x. let z : ◌≡◌ {A = ℕ} 0 1 = cc in absurd (omega arith))
    by_value (Some (Maximum Pages l)) p k =
        whether h g (λ d. this-value l p d) (λ ne. other-value (Maximum Pages l) p (λ _. ne) (λ _. ne))
    by_value (Some (Maximum Processes l)) p k =
        other-value (Maximum Processes l) p
        (λ x. let z : ◌≡◌ {A = ℕ} 0 1 = cc in absurd (omega arith)) (λ x. let z : ◌≡◌ {A = ℕ} 0 1 = cc in absurd (omega arith))

  setting-decided : (c : Call) → verdict t c ≡ Ok tt → WritesSetting c → Decided c
  unfolding checks setting_checks Pass
  setting-decided c e x =
      subst (λ (y : Call). verdict t y ≡ Ok tt → Decided y) (sym x.call)
      (λ d. let k = passed t (Call.write_setting x.user x.group x.file x.line) d in
      by_value x.user x.group x.file x.line d (line_value x.file x.line) refl (search)) e

-- A call that leaves marks as they are, whatever they are, is no write of memory.max, which makes the mark the usage.
quiet-unset : (t : Tree) → WellFormed t → (g : ℕ) (c : Call) → verdict t c ≡ Ok tt
    → ((m : ℕ → ℕ) → (enter (book_with t m) c).mark ≡ m) → SetsMemoryMax g t c → ⊥
quiet-unset t w g c e stay x =
    let m : ℕ → ℕ = (λ h. suc (usage (cores t) h + usage (cores (step t c)) h)) in
    let s : State t (book_with t m) =
    record { formed = w; same = record { machine = refl; groups = refl; places = refl }; marked = λ h l v f. omega arith } in
    ⊎_elim
    (λ (y : SetsMemoryMax g t c × ((after t (book_with t m) s g c).mark g ≡ usage (cores (step t c)) g)).
    let z : (after t (book_with t m) s g c).mark g ≡ m g =
    ap (λ b. b.mark g) (book-step-accepted t (book_with t m) c e) ∙ ap (λ f. f g) (stay m) in
    omega arith)
    (λ (y : Other t (book_with t m) s g c). y.unset x)
    (setting-decided t (book_with t m) s g c e
    (record { user = x.user; group = g; file = bytes "memory.max"; line = x.line; call = x.call }))

module _ (t : Tree) (b : Book) (s : State t b) (g : ℕ) where
  left_alone : (c : Call) → verdict t c ≡ Ok tt → ((m : ℕ → ℕ) → (enter (book_with t m) c).mark ≡ m) → Limited t (effect t c) → Other t b s g c
  left_alone c e stay k =
      accepted-other t b s g c e (quiet-unset t s.formed g c e stay)
      (ap (λ x. (enter x c).mark g) (sym (book-with-same t b s.same)) ∙ ap (λ f. f g) (stay b.mark))
      (λ l h. ap (λ x. (x g).limit Pages) (sym s.same.groups)
      ∙ k.kept g l (ap (λ x. (x g).limit Pages) (same-enter t b c s.formed s.same).groups ∙ h))

  accepted-decided : (c : Call) → verdict t c ≡ Ok tt → Decided t b s g c
  accepted-decided c e =
      ⊎_elim
      (λ (stay : (m : ℕ → ℕ) → (enter (book_with t m) c).mark ≡ m). ⊎_elim
      (λ (k : Limited t (effect t c)). inr (left_alone c e stay k))
      (setting-decided t b s g c e) (limited-change t s.formed (change t c s.formed (passed t c e))))
      (setting-decided t b s g c e) (booked t c s.formed).marks

  decided : (c : Call) → Decided t b s g c
  decided c = by-verdict t c (accepted-decided c) (λ x e. inr (refused-other t b s g c x e))

-- Over a list: the last write, or none.
record Unwritten (t : Tree) (b : Book) (cs : List Call) (g : ℕ) : Type 0 where
  never : Never (SetsMemoryMax g) t cs
  mark : (book_after t b cs).mark g ≡ b.mark g
  limit : Kept b.group (book_after t b cs).group g

-- what a write left, where its limit stands after it
leaves : (t : Tree) (g l m : ℕ) (c : Call) → SetsMemoryMax g t c → ((step t c).group g).core.limit Pages ≡ Figure l
    → m ≡ usage (cores (step t c)) g → Leaves g l m t c
leaves t g l m c w h u =
    let f = figure-given t Pages w.user g l w.line (subst (Accepted t) w.call w.accepted)
    (ap (λ (x : Call). ((step t x).group g).core.limit Pages) (sym w.call) ∙ h) in
    record { write = w; figure = f.0; word = f.1; rounded = f.2; marked = u }

written_or_not : (cs : List Call) (t : Tree) (b : Book) → State t b → (g l : ℕ) → ((book_after t b cs).group g).limit Pages ≡ Figure l
    → AtLastWrite t cs g l ((book_after t b cs).mark g) ⊎ Unwritten t b cs g
unfolding Each Last fed log
written_or_not [] t b s g l e = inr (record { never = tt; mark = refl; limit = λ l e. e })
written_or_not (c ∷ cs) t b s g l e =
    let b' : Book = book_step b c (reply t c).number in
    let s' : State (step t c) b' = state-step t b c s in
    ⊎_elim
    (λ (y : AtLastWrite (step t c) cs g l ((book_after (step t c) b' cs).mark g)). inl (inr y))
    (λ (u : Unwritten (step t c) b' cs g). ⊎_elim
    (λ (y : SetsMemoryMax g t c × (b'.mark g ≡ usage (cores (step t c)) g)).
    let h : ((step t c).group g).core.limit Pages ≡ Figure l = ap (λ x. (x g).limit Pages) s'.same.groups ∙ u.limit l e in
    inl (inl (y.0, leaves t g l _ c y.0 h (u.mark ∙ y.1), u.never)))
    (λ (y : Other t b s g c). inr (record {
      never = (y.unset, u.never);
      mark = u.mark ∙ y.mark;
      limit = λ l e. y.limit l (u.limit l e);
    }))
    (decided t b s g c))
    (written_or_not cs (step t c) b' s' g l e)

pub mark-is : (t : Tree) → WellFormed t → (cs : List Call) (g l : ℕ) → ((book_after t (book_of t) cs).group g).limit Pages ≡ Figure l
    → MarkIs t cs g l ((book_after t (book_of t) cs).mark g)
mark-is t w cs g l e =
    ⊎_elim
    (λ y. inl y)
    (λ (u : Unwritten t (book_of t) cs g). inr (record { unwritten = u.never; limit = u.limit l e; marked = u.mark }))
    (written_or_not cs t (book_of t) (state-begin t w) g l e)

-- A list settles limit and mark.
never-last : (P Q : Tree → Call → Type 0) (cs : List Call) (t : Tree) → Never P t cs → Last P Q t cs → ⊥
unfolding Each Last
never-last P Q [] t n l = l
never-last P Q (c ∷ cs) t n l =
    ⊎_elim
    (λ (y : P t c × Q t c × Never P (step t c) cs). n.0 y.0)
    (λ (y : Last P Q (step t c) cs). never-last P Q cs (step t c) n.1 y)
    l

-- two things that hold of the last such call hold of one call
pub one_last : (P Q R : Tree → Call → Type 0) (A : Type 0) → ((t : Tree) (c : Call) → Q t c → R t c → A)
    → (cs : List Call) (t : Tree) → Last P Q t cs → Last P R t cs → A
unfolding Last
one_last P Q R A f [] t x y = absurd x
one_last P Q R A f (c ∷ cs) t x y =
    ⊎_elim
    (λ (a : P t c × Q t c × Never P (step t c) cs). ⊎_elim
    (λ (b : P t c × R t c × Never P (step t c) cs). f t c a.1 b.1)
    (λ (b : Last P R (step t c) cs). absurd (never-last P R cs (step t c) a.2 b)) y)
    (λ (a : Last P Q (step t c) cs). ⊎_elim
    (λ (b : P t c × R t c × Never P (step t c) cs). absurd (never-last P Q cs (step t c) b.2 a))
    (λ (b : Last P R (step t c) cs). one_last P Q R A f cs (step t c) a b) y)
    x

-- a line gives one limit
one_left : (g l k m n : ℕ) (t : Tree) (c : Call) → Leaves g l m t c → Leaves g k n t c → (l ≡ k) × (m ≡ n)
one_left g l k m n t c p q =
    let e : p.write.line ≡ q.write.line = cc (sym p.write.call ∙ q.write.call) in
    let f : Some (Figure p.figure) ≡ Some (Figure q.figure) =
    sym p.word ∙ ap (λ x. one_word limit_word (line_words x)) e ∙ q.word in
    let h : p.figure ≡ q.figure = cc in
    (omega (arith, h, p.rounded.no_more, p.rounded.next, q.rounded.no_more, q.rounded.next), p.marked ∙ sym q.marked)

pub one-mark : (t : Tree) (cs : List Call) (g l k m n : ℕ) → MarkIs t cs g l m → MarkIs t cs g k n → (l ≡ k) × (m ≡ n)
one-mark t cs g l k m n x y =
    ⊎_elim
    (λ (a : AtLastWrite t cs g l m). ⊎_elim
    (λ (b : AtLastWrite t cs g k n). one_last (SetsMemoryMax g) _ _ ((l ≡ k) × (m ≡ n)) (one_left g l k m n) cs t a b)
    (λ (b : AtStart t cs g k n). absurd (never-last (SetsMemoryMax g) _ cs t b.unwritten a)) y)
    (λ (a : AtStart t cs g l m). ⊎_elim
    (λ (b : AtLastWrite t cs g k n). absurd (never-last (SetsMemoryMax g) _ cs t a.unwritten b))
    (λ (b : AtStart t cs g k n).
    let f : Figure l ≡ Figure k = sym a.limit ∙ b.limit in
    let e : l ≡ k = cc in
    (e, a.marked ∙ sym b.marked)) y)
    x
