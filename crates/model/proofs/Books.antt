-- The number of a reply is that of the verdict, for every sort of call. The tree and the book of demand 3 keep the same of groups
-- and places after every call, and `booked` is the one place where each call's entry meets its effect. The one call where this is not
-- plain is a control line: the book goes by the last word, the tree by what leaves the set. Assumes nothing.
use Rattle.std.specs.Prelude.{Option, Some, None, Ok, Err}
use Prim.Native.Nat.{ℕ}
use mathlib.Core.Bool.{Bool, true, false, ◌&&◌}
use mathlib.Core.List.{List, [], ◌∷◌, ◌++◌}
use mathlib.Core.Logic.{◌⊎◌, inl, inr}
use mathlib.Core.Path.{◌≡◌, refl, ap, ap₂, sym, ◌∙◌, fun_ext, subst}
use lib.Dec.{eqb}
use borrow.Author.Tests.{ne_eqb}
use Rattle.model.specs.Functions.{upd, pick}
use Rattle.model.specs.Checks.{errno_number, answer_number, first, Check, Answer}
use Rattle.model.specs.Tree.{Tree, Core, Group, Process, Settings, new_settings, settings_of, with_limits, with_settings, no_group, at_group, at_process, cores, parents, sets, settings_at, places}
use Rattle.model.specs.Hierarchy.{child_of, usage, facts_of}
use Rattle.model.specs.Control.{asked, is_dropped}
use Rattle.model.specs.Settings.{assign, piece, AtDefault, reset}
use Rattle.model.specs.Rooms.{Room, room, full, room_for, is_full, shortage}
use Rattle.model.specs.Rules.{process_group, line_process, leaving}
use Rattle.model.specs.Calls.{Call, line_value, charge_checks, fork_checks, checks, verdict}
use Rattle.model.specs.Effects.{new_set, controlled, written, effect, step, fresh, run}
use Rattle.model.specs.Replies.{room_answer, charge_answer, fork_answer, room_number, read_answer, Asks, for_charge, for_fork, asked_answer, Sort, plain, asking, delivering, sort_of, sort_reply, reply, reply_by}
use Rattle.model.specs.Book.{Book, limit_entered, entry_of, enter_entry, limits_after, child_after, enter_value, enter, book_step, fresh_book, book_of, fed}
use Rattle.model.specs.WellFormed.{WellFormed}
use Rattle.model.specs.Lists.{log, book_after}
use Rattle.model.specs.declared.Resource.{Resource}
use Rattle.model.specs.declared.Resource.TheVariants.{Pages, Processes}
use Rattle.model.specs.declared.Limit.{Limit}
use Rattle.model.specs.declared.Controller.{Controller}
use Rattle.model.specs.declared.Controller.TheVariants.{Memory, Pids}
use Rattle.model.specs.declared.SettingValue.{SettingValue}
use Rattle.model.specs.declared.SettingValue.TheVariants.{Weight, Quota, Bandwidth, Device, Maximum}
use Rattle.model.specs.declared.Errno.{Errno}
use Rattle.model.specs.declared.Errno.TheVariants.{Enoent, Esrch, Eagain, Enomem, Eacces, Ebusy, Eexist, Einval, Enospc, Erange}
use Rattle.model.proofs.FunctionLaws.{split, upd-map, upd-keeps}
use Rattle.model.proofs.CheckLaws.{errno-positive, first-append, and_then}
use Rattle.model.proofs.ControlLaws.{leave-dropped}
use Rattle.model.proofs.AmountLaws.{usage-fresh}
use Rattle.model.proofs.PieceLaws.{piece-after-reset}
use Rattle.model.proofs.RuleLaws.{on-other}
use Rattle.model.proofs.Preservation.{cores-after-remove}
use Rattle.model.proofs.Changes.{WritesSetting}
use Rattle.model.proofs.ControlPreservation.{child-live, child-parent, child-not-root, reset-child, reset-other}

-- The number of a reply is that of the verdict.
read-answer-number : (a : Answer) (text : List ℕ) → answer_number (read_answer a text) ≡ answer_number a
read-answer-number (Ok tt) text = refl
read-answer-number (Err e) text = refl

room-number : (r : Resource) (cs : List Check) (x : Room)
    → room_number r (room_answer (first cs) x) ≡ answer_number (first (cs ++ (Check.bar (is_full x) (shortage r) ∷ [])))
unfolding first
room-number r cs x = go (first cs) x ∙ ap answer_number (sym (first-append cs (Check.bar (is_full x) (shortage r) ∷ [])))
  where
    go : (a : Answer) (x : Room) → room_number r (room_answer a x) ≡ answer_number (and_then a (first (Check.bar (is_full x) (shortage r) ∷ [])))
    go (Ok tt) (room k) = refl
    go (Ok tt) (full g k) = refl
    go (Err e) x = refl

asked-number : (t : Tree) {r : Resource} {n p : ℕ} {c : Call} (k : Asks r n p c)
    → room_number r (asked_answer (facts_of t) k) ≡ answer_number (verdict t c)
unfolding verdict charge_answer fork_answer checks
asked-number t (for_charge {p = p} {n = n}) = room-number Pages (charge_checks t p n) (room_for (facts_of t) Pages n (process_group t p))
asked-number t (for_fork {p = p} {new = new}) =
    room-number Processes (fork_checks t p new) (room_for (facts_of t) Processes 1 (process_group t p))

pub reply-number : (t : Tree) (c : Call) → (reply t c).number ≡ answer_number (verdict t c)
unfolding reply reply_by verdict
reply-number t c = go (sort_of c)
  where
    go : (s : Sort c) → (sort_reply (facts_of t) s).number ≡ answer_number (verdict t c)
    go plain = refl
    go (asking k) = asked-number t k
    go (delivering text buffer) = read-answer-number (verdict t c) _

pub number-accepted : (t : Tree) (c : Call) → verdict t c ≡ Ok tt → eqb (reply t c).number 0 ≡ true
number-accepted t c e = rw (reply-number t c, e)

pub number-refused : (t : Tree) (c : Call) (x : Errno) → verdict t c ≡ Err x → eqb (reply t c).number 0 ≡ false
number-refused t c x e = ne_eqb _ 0 (λ d. errno-positive x (sym (reply-number t c ∙ ap answer_number e) ∙ d))

-- What the two keep is the same.
pub record Same (t : Tree) (b : Book) : Type 0 where
  pub machine : t.machine ≡ b.machine
  pub groups : cores t ≡ b.group
  pub places : places t ≡ b.place

-- what a book keeps that is the tree's, with marks
abbrev pub book_with : Tree → (ℕ → ℕ) → Book
book_with t mark = record { machine = t.machine; group = cores t; mark = mark; place = places t }

pub book-with-same : (t : Tree) (b : Book) → Same t b → book_with t b.mark ≡ b
book-with-same t b s = λ i. record { machine = s.machine i; group = s.groups i; mark = b.mark; place = s.places i }

-- nothing is lost by one who has nothing
lost : {A : Type 0} (d b : Bool) (x y : A) → (b ≡ false → y ≡ x) → pick (d && b) x y ≡ pick d x y
lost true true x y h = refl
lost true false x y h = h refl
lost false b x y h = refl

-- A control line, of any controller: where it was not in the set, the children have nothing to lose.
module _ (t : Tree) (w : WellFormed t) (g : ℕ) (line : List ℕ) where
  child-default : (c : Controller) (k : ℕ) → child_of g k (cores t k) ≡ true → sets t g c ≡ false → AtDefault c (settings_at t k)
  child-default c k y n =
      w.defaults.off c k (child-live g k (cores t k) y)
      (on-other (parents t) (sets t) c k (child-not-root g k (cores t k) y) ∙ rw (child-parent g k (cores t k) y) n)

  pub child-piece : (c : Controller) (k : ℕ) → child_of g k (cores t k) ≡ true
      → piece c (reset (leaving t g line) (settings_at t k)) ≡ pick (is_dropped (asked line c)) (piece c new_settings) (piece c (settings_at t k))
  unfolding AtDefault
  child-piece c k y =
      piece-after-reset (leaving t g line) (settings_at t k) c
      ∙ ap (λ d. pick d (piece c new_settings) (piece c (settings_at t k))) (leave-dropped (sets t g c) (asked line c))
      ∙ lost (is_dropped (asked line c)) (sets t g c) (piece c new_settings) (piece c (settings_at t k)) (child-default c k y)

  child-limit : (k : ℕ) → child_of g k (cores t k) ≡ true → (r : Resource)
      → (reset (leaving t g line) (settings_at t k)).limit r ≡ limits_after line (t.group k).core.limit r
  child-limit k y Pages = child-piece Memory k y
  child-limit k y Processes = child-piece Pids k y

  child-same : (k : ℕ) → child_of g k (cores t k) ≡ true
      → with_limits (reset (leaving t g line) (settings_at t k)).limit (cores t k) ≡ with_limits (limits_after line (t.group k).core.limit) (cores t k)
  child-same k y = ap (λ (l : Resource → Limit). with_limits l (cores t k)) (fun_ext (child-limit k y))

  -- the tree's side, then the book's
  core-of-child : (k : ℕ) → child_of g k (cores t k) ≡ true
      → cores (controlled t g (new_set t g line) (leaving t g line)) k ≡ with_limits (reset (leaving t g line) (settings_at t k)).limit (cores t k)
  core-of-child k y =
      ap (λ x. x.core) (reset-child t g (leaving t g line) k _ y)
      ∙ ap₂ (λ (s : Settings) (c : Core). with_limits (reset (leaving t g line) s).limit c)
      (upd-keeps settings_of t.group g _ refl k) (upd-keeps (λ x. x.core) t.group g _ refl k)

  core-of-other : (k : ℕ) → child_of g k (cores t k) ≡ false → cores (controlled t g (new_set t g line) (leaving t g line)) k ≡ cores t k
  core-of-other k n = ap (λ x. x.core) (reset-other t g (leaving t g line) k _ n) ∙ upd-keeps (λ x. x.core) t.group g _ refl k

  entry-of-child : (k : ℕ) → child_of g k (cores t k) ≡ true → with_limits (limits_after line (t.group k).core.limit) (cores t k) ≡ child_after g line k (cores t k)
  entry-of-child k y = rw (y, child_after)

  entry-of-other : (k : ℕ) → child_of g k (cores t k) ≡ false → cores t k ≡ child_after g line k (cores t k)
  entry-of-other k n = rw (n, child_after)

  pub cores-after-control : (k : ℕ) → cores (controlled t g (new_set t g line) (leaving t g line)) k ≡ child_after g line k (cores t k)
  cores-after-control k =
      split (child_of g k (cores t k))
      (λ y. core-of-child k y ∙ child-same k y ∙ entry-of-child k y)
      (λ n. core-of-other k n ∙ entry-of-other k n)

-- A setting: only the two limits are kept in the book.
abbrev entered : Option (Resource × Limit) → (Resource → Limit) → Resource → Limit
entered None f = f
entered (Some e) f = limit_entered e.0 e.1 f

limits-after-assign : (v : SettingValue) (st : Settings) → (assign v st).limit ≡ entered (entry_of v) st.limit
unfolding assign
limits-after-assign (Weight n) st = refl
limits-after-assign (Quota q) st = refl
limits-after-assign (Bandwidth q p) st = refl
limits-after-assign (Device a b p) st = refl
limits-after-assign (Maximum r l) st = refl

module _ (t : Tree) (mark : ℕ → ℕ) (g : ℕ) where
  same-after-entry : (st : Settings) (o : Option (Resource × Limit)) → st.limit ≡ entered o (cores t g).limit
      → Same (at_group t g (with_settings st (t.group g))) (enter_entry (book_with t mark) g o)
  same-after-entry st None e =
      record {
        machine = refl;
        groups = fun_ext (upd-keeps (λ x. x.core) t.group g _ (ap (λ l. with_limits l (cores t g)) e));
        places = refl;
      }
  same-after-entry st (Some x) e =
      record {
        machine = refl;
        groups = upd-map (λ x. x.core) t.group g _ ∙ ap (λ l. upd (cores t) g (with_limits l (cores t g))) e;
        places = refl;
      }

  same-after-value : (v : Option SettingValue) → Same (at_group t g (written v (t.group g))) (enter_value (book_with t mark) g v)
  same-after-value None = record { machine = refl; groups = fun_ext (upd-keeps (λ x. x.core) t.group g _ refl); places = refl }
  same-after-value (Some v) = same-after-entry (assign v (settings_at t g)) (entry_of v) (limits-after-assign v (settings_at t g))

-- An accepted call: both keep the same afterwards, whatever the marks are, and the marks stay unless a setting is written.
pub record Booked (t : Tree) (c : Call) : Type 0 where
  pub same : (mark : ℕ → ℕ) → Same (effect t c) (enter (book_with t mark) c)
  pub marks : ((mark : ℕ → ℕ) → (enter (book_with t mark) c).mark ≡ mark) ⊎ WritesSetting c

-- a call that writes no setting
quietly : (t : Tree) (c : Call) → ((mark : ℕ → ℕ) → (enter (book_with t mark) c).mark ≡ mark)
    → ((mark : ℕ → ℕ) → Same (effect t c) (enter (book_with t mark) c)) → Booked t c
quietly t c m s = record { same = s; marks = inl m }

cores-put : (t : Tree) (g : ℕ) (v : Group) → cores (at_group t g v) ≡ upd (cores t) g v.core
cores-put t g v = upd-map (λ x. x.core) t.group g v

places-put : (t : Tree) (p : ℕ) (v : Process) → places (at_process t p v) ≡ upd (places t) p v.place
places-put t p v = upd-map (λ x. x.place) t.process p v

pub booked : (t : Tree) (c : Call) → WellFormed t → Booked t c
unfolding effect enter
booked t (Call.make user parent new) w =
    quietly t _ (λ _. refl) (λ _. record { machine = refl; groups = cores-put t new _; places = refl })
booked t (Call.remove user g) w =
    quietly t _ (λ _. refl) (λ _. record { machine = refl; groups = cores-after-remove t g; places = refl })
booked t (Call.hand_over user g owner) w =
    quietly t _ (λ _. refl)
    (λ _. record { machine = refl; groups = fun_ext (upd-keeps (λ x. x.core) t.group g _ refl); places = refl })
booked t (Call.write_procs user g line) w =
    quietly t _ (λ _. refl) (λ _. record { machine = refl; groups = refl; places = places-put t (line_process line) _ })
booked t (Call.write_control user g line) w =
    quietly t _ (λ _. refl) (λ _. record { machine = refl; groups = fun_ext (cores-after-control t w g line); places = refl })
booked t (Call.write_setting user g file line) w =
    record {
      same = λ mark. same-after-value t mark g (line_value file line);
      marks = inr (record { user = user; group = g; file = file; line = line; call = refl });
    }
booked t (Call.admit p user) w = quietly t _ (λ _. refl) (λ _. record { machine = refl; groups = refl; places = places-put t p _ })
booked t (Call.fork p new) w = quietly t _ (λ _. refl) (λ _. record { machine = refl; groups = refl; places = places-put t new _ })
booked t (Call.exit p) w = quietly t _ (λ _. refl) (λ _. record { machine = refl; groups = refl; places = places-put t p _ })
booked t (Call.collect p) w = quietly t _ (λ _. refl) (λ _. record { machine = refl; groups = refl; places = refl })
booked t (Call.charge p n) w =
    quietly t _ (λ _. refl) (λ _. record { machine = refl; groups = cores-put t (process_group t p) _; places = refl })
booked t (Call.release g n) w = quietly t _ (λ _. refl) (λ _. record { machine = refl; groups = cores-put t g _; places = refl })
booked t (Call.read g file buffer) w = quietly t _ (λ _. refl) (λ _. record { machine = refl; groups = refl; places = refl })
booked t (Call.membership p buffer) w = quietly t _ (λ _. refl) (λ _. record { machine = refl; groups = refl; places = refl })

pub same-enter : (t : Tree) (b : Book) (c : Call) → WellFormed t → Same t b → Same (effect t c) (enter b c)
same-enter t b c w s = subst (λ (x : Book). Same (effect t c) (enter x c)) (book-with-same t b s) ((booked t c w).same b.mark)

-- No step for a refused call.
book-refused : (b : Book) (c : Call) (e : Errno) → book_step b c (errno_number e) ≡ b
unfolding book_step
book-refused b c Enoent = refl
book-refused b c Esrch = refl
book-refused b c Eagain = refl
book-refused b c Enomem = refl
book-refused b c Eacces = refl
book-refused b c Ebusy = refl
book-refused b c Eexist = refl
book-refused b c Einval = refl
book-refused b c Enospc = refl
book-refused b c Erange = refl

pub book-step-accepted : (t : Tree) (b : Book) (c : Call) → verdict t c ≡ Ok tt → book_step b c (reply t c).number ≡ enter b c
unfolding book_step
book-step-accepted t b c e = ap (book_step b c) (reply-number t c ∙ ap answer_number e)

pub book-step-refused : (t : Tree) (b : Book) (c : Call) (x : Errno) → verdict t c ≡ Err x → book_step b c (reply t c).number ≡ b
book-step-refused t b c x e = ap (book_step b c) (reply-number t c ∙ ap answer_number e) ∙ book-refused b c x

pub same-fresh : (m : ℕ) → Same (fresh m) (fresh_book m)
unfolding fresh fresh_book
same-fresh m = record { machine = refl; groups = upd-map (λ x. x.core) (λ g. no_group) 0 _; places = refl }

-- "It begins with the root, no pages, no limit, no process": the book of a fresh tree.
pub book-of-fresh : (m : ℕ) → book_of (fresh m) ≡ fresh_book m
unfolding fresh fresh_book
book-of-fresh m =
    let s : Same (fresh m) (fresh_book m) = same-fresh m in
    let marks : usage (cores (fresh m)) ≡ (λ g. 0) = fun_ext (λ g. ap (λ x. usage x g) s.groups ∙ usage-fresh g) in
    λ i. record { machine = s.machine i; group = s.groups i; mark = marks i; place = s.places i }

-- One call more.
pub run_more : (cs : List Call) (t : Tree) (c : Call) → run t (cs ++ (c ∷ [])) ≡ step (run t cs) c
unfolding run
run_more [] t c = refl
run_more (x ∷ xs) t c = run_more xs (step t x) c

pub book-after-more : (cs : List Call) (t : Tree) (b : Book) (c : Call)
    → book_after t b (cs ++ (c ∷ [])) ≡ book_step (book_after t b cs) c (reply (run t cs) c).number
unfolding fed log run
book-after-more [] t b c = refl
book-after-more (x ∷ xs) t b c = book-after-more xs (step t x) (book_step b x (reply t x).number) c
