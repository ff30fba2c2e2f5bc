-- The three demands of docs/papers/00-demands.md, as statements about the definitions; what is quoted here is from there, from
-- document 01, or from the order that is named beside it. `Demands` at the end is all of them, and proofs/Demands.antt shows it.
-- Assumes nothing.
use Rattle.std.specs.Prelude.{ℕ, suc, ◌≤◌, max, true, false, List, [], ◌∷◌, ◌++◌, ◌≢◌, ◌≡◌, length, Some, None, Ok, Err}
use Rattle.model.specs.Functions.{All}
use Rattle.model.specs.Sizes.{longest_shown}
use Rattle.model.specs.Checks.{errno_number, Says, Answer}
use Rattle.model.specs.Tree.{Tree, depths, group_of, controller_of, cores, lives, parents, places}
use Rattle.model.specs.Hierarchy.{chain, common_ancestor, on, inside, amount, facts_of}
use Rattle.model.specs.CommonAncestor.{OneWalk}
use Rattle.model.specs.Text.{ended, joined, body, lines_of, line_words, one_word, decimal}
use Rattle.model.specs.Names.{base_settings, setting_name, file_name}
use Rattle.model.specs.Control.{has_bad_word, Part, first_bad_word}
use Rattle.model.specs.Words.{Dropped, FirstBad, HasBad}
use Rattle.model.specs.Figures.{limit_word}
use Rattle.model.specs.Settings.{setting_controller, to_figure, RoundedDown}
use Rattle.model.specs.Rooms.{over, acting_limit, Stopped, shortage}
use Rattle.model.specs.Rules.{may_write, process_group}
use Rattle.model.specs.Files.{contents, fits}
use Rattle.model.specs.Calls.{Call, write_setting, admit, fork, charge, read, checks, verdict}
use Rattle.model.specs.Effects.{effect, step, fresh, run}
use Rattle.model.specs.Replies.{reply, text_reply, Asks, buffer_of}
use Rattle.model.specs.WellFormed.{WellFormed}
use Rattle.model.specs.Book.{Book, in_book, fresh_book, book_of}
use Rattle.model.specs.Lists.{Accepted, log, book_after}
use Rattle.model.specs.Containment.{OwnsInside, Contained, OneKind, NeverAcross}
use Rattle.model.specs.Marks.{AtLastWrite, MarkIs}
use Rattle.model.specs.Totals.{Balanced, EndedOnce}
use Rattle.model.specs.DeviceForm.{DeviceForm}
use Rattle.model.specs.DeviceRules.{DeviceRules}
use Rattle.model.specs.DeviceBook.{no_account, account_of, account_after, Accounted}
use Rattle.model.specs.DeviceReplies.{DeviceRefusal, DeviceReading}
use Rattle.model.specs.Lengths.{Lengths, ListingReached}
use Rattle.model.specs.ZombieRules.{LineStands, Taken}
use Rattle.model.specs.declared.Resource.{Resource}
use Rattle.model.specs.declared.Resource.TheVariants.{Pages, Processes}
use Rattle.model.specs.declared.Limit.{Limit}
use Rattle.model.specs.declared.Limit.TheVariants.{NoLimit, Figure}
use Rattle.model.specs.declared.Setting.{Setting}
use Rattle.model.specs.declared.Setting.TheVariants.{Max}
use Rattle.model.specs.declared.File.TheVariants.{Current, Value}
use Rattle.model.specs.declared.Errno.{Errno}

-- a tree that calls can reach from a fresh one of some size
pub record Reachable (t : Tree) : Type 0 where
  pub size : ℕ
  pub calls : List Call
  pub made : run (fresh size) calls ≡ t

-- "every call is shown to hand back such a tree", and the rules that such a tree keeps
pub record Reaching : Type 0 where
  pub begins : (m : ℕ) → Reachable (fresh m)
  pub goes_on : (t : Tree) (c : Call) → Reachable t → Reachable (step t c)
  pub formed : (t : Tree) → Reachable t → WellFormed t
  pub kept : (t : Tree) (c : Call) → WellFormed t → WellFormed (step t c)

-- Demand 1. Every call has an answer, since the definitions are total. "A call turned away gives the number in document 01's
-- table and leaves tree, processes, charges and reply buffer untouched."
pub record TurnedAway (t : Tree) (c : Call) (e : Errno) : Type 0 where
  pub number : (reply t c).number ≡ errno_number e
  pub tree : step t c ≡ t
  pub buffer : (reply t c).buffer ≡ buffer_of c
  pub size : (reply t c).size ≡ 0

pub record Demand1 : Type 0 where
  pub refused : (t : Tree) (c : Call) (e : Errno) → verdict t c ≡ Err e → TurnedAway t c e
  pub numbered : (t : Tree) (c : Call) → (reply t c).number ≡ 0 → verdict t c ≡ Ok tt

-- Demand 2. "Calls are turned away exactly when a listed rule of the version 2 papers, as document 01 fixes them, says so, and
-- otherwise do exactly what the rule says."
pub record Exactly (t : Tree) (c : Call) : Type 0 where
  pub says : Says (checks (facts_of t) c) (verdict t c)
  pub only : (a : Answer) → Says (checks (facts_of t) c) a → a ≡ verdict t c
  pub accepted : verdict t c ≡ Ok tt → (step t c ≡ effect t c) × ((reply t c).number ≡ 0)

-- "What a settings file shows can be written back by whoever may write it, and changes nothing." Order 1: it "speaks here of one
-- device line; a write carries one device". Each line that a file shows, as it stands and without its newline; the files of document
-- 01's four settings have one.
abbrev pub shown_by : Tree → ℕ → Setting → List ℕ
shown_by t g s = contents (facts_of t) g (Value s)

pub record WrittenBack (t : Tree) (user g : ℕ) (s : Setting) (line : List ℕ) : Type 0 where
  pub accepted : verdict t (write_setting user g (setting_name s) line) ≡ Ok tt
  pub same : step t (write_setting user g (setting_name s) line) ≡ t

pub record WriteBack (t : Tree) : Type 0 where
  pub shown : (g : ℕ) (s : Setting) (buffer : List ℕ) → lives t g ≡ true → on t (setting_controller s) g ≡ true
      → fits (shown_by t g s) buffer ≡ true
      → reply t (read g (setting_name s) buffer) ≡ text_reply (Ok tt) (shown_by t g s) buffer
  pub each : (user g : ℕ) (s : Setting) → lives t g ≡ true → on t (setting_controller s) g ≡ true
      → may_write t user (parents t g) ≡ true
      → All (λ line. WrittenBack t user g s line × WrittenBack t user g s (body line)) (lines_of (shown_by t g s))
  pub whole : (g : ℕ) (s : Setting) → joined (lines_of (shown_by t g s)) ≡ shown_by t g s
  pub one : (g : ℕ) → All (λ s. lines_of (shown_by t g s) ≡ shown_by t g s ∷ []) base_settings
  pub short : (g : ℕ) (s : Setting) → lives t g ≡ true → All (λ line. length line ≤ longest_shown) (lines_of (shown_by t g s))

-- Order 2, "4097 reads back 4096, and 4095 reads back 0": what is kept as a limit where the figure n was written, and what its file
-- shows. In pids.max both are n.
pub record LimitKept (t : Tree) (r : Resource) (g n : ℕ) : Type 0 where
  pub amount : ℕ
  pub rounded : RoundedDown r n amount
  pub limit : (t.group g).core.limit r ≡ Figure amount
  pub shown : shown_by t g (Max r) ≡ ended (decimal (to_figure r amount))

-- by the word that was written, "max" or a figure
abbrev pub LimitLeft : Tree → Resource → ℕ → Limit → Type 0
LimitLeft t r g NoLimit = (t.group g).core.limit r ≡ NoLimit
LimitLeft t r g (Figure n) = LimitKept t r g n

-- what every accepted line of memory.max or pids.max leaves
abbrev pub Rounds : Tree → Type 0
Rounds t =
    (r : Resource) (user g : ℕ) (l : Limit) (line : List ℕ) → one_word limit_word (line_words line) ≡ Some l
    → Accepted t (write_setting user g (setting_name (Max r)) line)
    → LimitLeft (step t (write_setting user g (setting_name (Max r)) line)) r g l

-- h is the first group without room on the chain of g, and k its place there, counted from 1
abbrev pub StoppedAt : Tree → Resource → ℕ → ℕ → ℕ → ℕ → Type 0
StoppedAt t r n g h k =
    (i : ℕ) × (k ≡ suc i) × Stopped (acting_limit t r) ((facts_of t).amount r) n (chain (parents t) g) h i

-- "the first group, going up, that had no room, and the number of groups consulted: up to and including that group, or depth
-- plus one on success. Any other refusal names no group and counts 0; success names none." A group is told exactly where the
-- number is 12 of a charge or 11 of a fork.
pub record Counted (t : Tree) : Type 0 where
  pub success : (r : Resource) (n p : ℕ) (c : Call) → Asks r n p c → (reply t c).number ≡ 0
      → ((reply t c).consulted ≡ suc (depths t (process_group t p))) × ((reply t c).group ≡ None)
  pub stopped : (r : Resource) (n p h : ℕ) (c : Call) → Asks r n p c → (reply t c).group ≡ Some h
      → ((reply t c).number ≡ errno_number (shortage r)) × StoppedAt t r n (process_group t p) h (reply t c).consulted
  pub named : (r : Resource) (n p : ℕ) (c : Call) → Asks r n p c → (reply t c).number ≡ errno_number (shortage r)
      → (h : ℕ) × ((reply t c).group ≡ Some h) × StoppedAt t r n (process_group t p) h (reply t c).consulted
  pub other : (r : Resource) (n p : ℕ) (c : Call) → Asks r n p c → (reply t c).number ≢ 0 → (reply t c).group ≡ None
      → (reply t c).consulted ≡ 0

-- "the lowest group that is on both chains"
pub record Lowest (t : Tree) : Type 0 where
  pub left : (g h : ℕ) → lives t g ≡ true → inside (parents t) (common_ancestor (parents t) g h) g ≡ true
  pub right : (g h : ℕ) → lives t h ≡ true → inside (parents t) (common_ancestor (parents t) g h) h ≡ true
  pub below : (g h a : ℕ) → lives t g ≡ true → inside (parents t) a g ≡ true → inside (parents t) a h ≡ true
      → inside (parents t) a (common_ancestor (parents t) g h) ≡ true

-- Order 3, "one walk will do": for every two live groups (specs/CommonAncestor.antt).
abbrev pub Searches : Tree → Type 0
Searches t = (g h : ℕ) → lives t g ≡ true → lives t h ≡ true → OneWalk t g h

-- The question about a control line: it answers the first bad word by its place, and nothing else fits; and a line that is
-- refused for a bad word has one.
pub record Question (line : List ℕ) : Type 0 where
  pub dropped : Dropped line (body line)
  pub answer : FirstBad line (first_bad_word line)
  pub only : (p : Part) → FirstBad line p → p ≡ first_bad_word line
  pub refused : HasBad line (has_bad_word line)

pub record Demand2 : Type 0 where
  pub exactly : (t : Tree) (c : Call) → Exactly t c
  pub counted : (t : Tree) → WellFormed t → Counted t
  pub lowest : (t : Tree) → WellFormed t → Lowest t
  pub searches : (t : Tree) → WellFormed t → Searches t
  pub write_back : (t : Tree) → WellFormed t → WriteBack t
  pub rounds : (t : Tree) → Rounds t
  pub devices : DeviceRules
  pub device_form : (ws : List (List ℕ)) → DeviceForm ws
  pub device_refusal : (t : Tree) → WellFormed t → DeviceRefusal t
  pub device_reading : (t : Tree) → WellFormed t → DeviceReading t (account_of t)
  pub contained : (t : Tree) → WellFormed t → Contained t
  pub one_kind : (t : Tree) → WellFormed t → OneKind t
  pub never : (t : Tree) → WellFormed t → NeverAcross t
  pub question : (line : List ℕ) → Question line
  -- order 4: how long cgroup.procs and a membership line get (specs/Lengths.antt)
  pub lengths : (t : Tree) → WellFormed t → Lengths t
  pub listing_reached : ListingReached
  -- order 5: a zombie's membership line stands still, and when a removed group's number is taken (specs/ZombieRules.antt)
  pub zombie_line : (t : Tree) → WellFormed t → LineStands t
  pub taken : (t : Tree) → WellFormed t → Taken t

-- Demand 3.
-- "tree and book are alike in live groups, parents, own pages, usage, both limits, each live process's group and the live
-- processes inside each group. Where on, memory.current shows the book's usage in bytes, and pids.current the book's live
-- processes inside."
pub record Alike (t : Tree) (b : Book) : Type 0 where
  pub machine : t.machine ≡ b.machine
  pub live : (g : ℕ) → lives t g ≡ (b.group g).live
  pub parent : (g : ℕ) → parents t g ≡ (b.group g).parent
  pub own : (g : ℕ) → (t.group g).core.own ≡ (b.group g).own
  pub limit : (r : Resource) (g : ℕ) → (t.group g).core.limit r ≡ (b.group g).limit r
  pub place : (p : ℕ) → places t p ≡ b.place p
  pub amount : (r : Resource) (g : ℕ) → amount (cores t) (places t) r g ≡ in_book b r g
  pub shows : (r : Resource) (g : ℕ) (buffer : List ℕ) → lives t g ≡ true → on t (controller_of r) g ≡ true
      → fits (ended (decimal (to_figure r (in_book b r g)))) buffer ≡ true
      → reply t (read g (file_name (Current r)) buffer) ≡ text_reply (Ok tt) (ended (decimal (to_figure r (in_book b r g)))) buffer

-- "A group with a page limit never has more pages than the larger of that limit and the pages it had when the limit was last
-- written", and the root is never over the machine
pub record Bounded (b : Book) : Type 0 where
  pub machine : in_book b Pages 0 ≤ b.machine
  pub pages : (g l : ℕ) → (b.group g).live ≡ true → (b.group g).limit Pages ≡ Figure l → in_book b Pages g ≤ max l (b.mark g)

-- A call that adds to what stands inside groups, and the process that it does so for: a charge; a birth, which "is admit or
-- fork".
pub data Adds : Resource → ℕ → Call → Type 0 where
  by_charge : {p n : ℕ} → Adds Pages p (charge p n)
  by_fork : {parent new : ℕ} → Adds Processes new (fork parent new)
  by_admit : {p user : ℕ} → Adds Processes p (admit p user)

-- no group on the way up from g, "the chain of the process's group", is over its limit
abbrev pub NoneOver : Resource → Book → ℕ → Type 0
NoneOver r b g = (a : ℕ) → inside (λ k. (b.group k).parent) a g ≡ true → over (in_book b r a) ((b.group a).limit r) ≡ false

-- After every list of calls on t, "refused ones included", where b was the book before it.
pub record Demand3 (t : Tree) (b : Book) (cs : List Call) : Type 0 where
  pub alike : Alike (run t cs) (book_after t b cs)
  pub bounded : Bounded (book_after t b cs)
  pub mark : (g l : ℕ) → ((book_after t b cs).group g).limit Pages ≡ Figure l → MarkIs t cs g l ((book_after t b cs).mark g)
  pub accepted : (r : Resource) (p : ℕ) (c : Call) (xs ys : List Call) → Adds r p c → cs ≡ xs ++ (c ∷ ys)
      → Accepted (run t xs) c
      → NoneOver r (book_after t b (xs ++ (c ∷ []))) (group_of ((book_after t b (xs ++ (c ∷ []))).place p))
  pub balanced : Balanced t (log t cs) (run t cs)
  -- order 5: as many ended as were collected or are zombies
  pub ended : EndedOnce t (log t cs) (run t cs)
  -- order 1: io.max keeps what the accepted writes gave, and nothing else, and readers see it
  pub devices : Accounted (run t cs) (account_after t b (account_of t) cs)
  pub device_reading : DeviceReading (run t cs) (account_after t b (account_of t) cs)

-- "Take every list of calls .. from a fresh tree of whatever machine size." Where the list begins a group has no limit, so each
-- page limit and its mark are from a write, and so is each limit of a device; and a user other than 0 owns nothing.
pub record FromFresh (m : ℕ) : Type 0 where
  pub third : (cs : List Call) → Demand3 (fresh m) (fresh_book m) cs
  pub mark : (cs : List Call) (g l : ℕ) → ((book_after (fresh m) (fresh_book m) cs).group g).limit Pages ≡ Figure l
      → AtLastWrite (fresh m) cs g l ((book_after (fresh m) (fresh_book m) cs).mark g)
  pub owns : (user d : ℕ) → user ≢ 0 → OwnsInside (fresh m) user d
  pub devices : (cs : List Call) → Accounted (run (fresh m) cs) (account_after (fresh m) (fresh_book m) no_account cs)
  pub device_reading : (cs : List Call) → DeviceReading (run (fresh m) cs) (account_after (fresh m) (fresh_book m) no_account cs)

-- What is said of limits and marks settles them.
abbrev pub OneMark : Type 0
OneMark = (t : Tree) (cs : List Call) (g l k m n : ℕ) → MarkIs t cs g l m → MarkIs t cs g k n → (l ≡ k) × (m ≡ n)

pub record Demands : Type 0 where
  pub reaching : Reaching
  pub first : Demand1
  pub second : Demand2
  pub third : (t : Tree) → WellFormed t → (cs : List Call) → Demand3 t (book_of t) cs
  pub fresh : (m : ℕ) → FromFresh m
  pub one_mark : OneMark
