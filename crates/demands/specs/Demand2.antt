-- Demand 2 of the code, from the contracts alone: exactly when; what charge and fork tell; when a device is a fifth; what a line
-- of a limit leaves; the question about a control line; texts delivered, how long a buffer has to be for two of them, the line of a
-- zombie, and what is written back; when a number is taken; containment. Assumes nothing.
use Rattle.std.specs.Prelude.{ℕ, suc, ◌+◌, ◌≤◌, true, false, List, [], ◌∷◌, ◌++◌, ◌≢◌, ◌≡◌, length, take, Some, None}
use Rattle.std.specs.Borrow.{Bor}
use Rattle.model.specs.Functions.{All}
use Rattle.model.specs.Sizes.{longest_listing, longest_membership, longest_shown}
use Rattle.model.specs.Checks.{errno_number, answer_number, first, Pass, Says, Answer}
use Rattle.model.specs.Tree.{Tree, lives, parents, depths}
use Rattle.model.specs.Hierarchy.{facts_of}
use Rattle.model.specs.Zombies.{group_taken}
use Rattle.model.specs.Text.{ended, lines_of, line_words, one_word, body}
use Rattle.model.specs.Text as T
use Rattle.model.specs.Names.{setting_name, file_name}
use Rattle.model.specs.Control.{Part, first_bad_word}
use Rattle.model.specs.Figures.{limit_word}
use Rattle.model.specs.Words.{cut, FirstBad}
use Rattle.model.specs.Rooms.{shortage}
use Rattle.model.specs.Rules.{may_write, process_group}
use Rattle.model.specs.Files.{path_text, membership_line}
use Rattle.model.specs.Calls.{Call, make, write_setting, exit, read, membership, file_text, checks}
use Rattle.model.specs.Effects.{effect}
use Rattle.model.specs.Replies.{Asks, reply}
use Rattle.model.specs.Book.{Entry}
use Rattle.model.specs.Lists.{Never, Ever}
use Rattle.model.specs.ZombieRules.{Removes, Collects, before_taken, after_taken}
use Rattle.model.specs.Containment.{caller, OwnsInside, NoneAcross, GivesOutside}
use Rattle.model.specs.DeviceReplies.{FifthWrite}
use Rattle.model.specs.Demands.{StoppedAt, LimitLeft}
use Rattle.model.specs.declared.Resource.{Resource}
use Rattle.model.specs.declared.Limit.{Limit}
use Rattle.model.specs.declared.Setting.{Setting}
use Rattle.model.specs.declared.Setting.TheVariants.{IoMax, Max}
use Rattle.model.specs.declared.File.TheVariants.{Procs}
use Rattle.tree.specs.Layout.{view}
use Rattle.tree.specs.Kept.{Kept, Fresh}
use Rattle.tree.specs.Calling.{Answered}
use Rattle.lines.specs.Control.{IsPart}
use Rattle.shootspiral.specs.Interface.{group_word, room_words, part_words, Told}
use Rattle.demands.specs.Runs.{Runs, Along, calls_of}
use Rattle.demands.specs.Texts.{FindsText}

-- "Calls are turned away exactly when a listed rule .. says so, and otherwise do exactly what the rule says."
pub record Exactly (xs ys : List ℕ) (c : Call) (n : ℕ) : Type 0 where
  pub says : (a : Answer) × Says (checks (facts_of (view xs)) c) a × (n ≡ answer_number a)
  pub accepted : n ≡ 0 → view ys ≡ effect (view xs) c

-- The words that a charge or a fork of process p tells, by the number k that it answers: no group, and depth plus one; the first
-- group without room, which is live, and its place; no group, and 0.
pub record RoomTold (t : Tree) (r : Resource) (n p k : ℕ) (told : List ℕ) : Type 0 where
  pub success : k ≡ 0 → told ≡ group_word None ∷ suc (depths t (process_group t p)) ∷ []
  pub stopped : k ≡ errno_number (shortage r)
      → (h i : ℕ) × (told ≡ h ∷ i ∷ []) × StoppedAt t r n (process_group t p) h i × (lives t h ≡ true)
  pub other : k ≢ 0 → k ≢ errno_number (shortage r) → told ≡ group_word None ∷ 0 ∷ []
  -- the word for no group is no group's number
  pub apart : (h : ℕ) → lives t h ≡ true → h ≢ group_word None

-- r is the part p of the caller's own line s, in the same memory, and p is what the question asks for
pub record BadPart (r s : Bor (List ℕ)) (p : Part) : Type 0 where
  pub first : FirstBad s.now p
  pub block : r.ref_ptr.0 ≡ s.ref_ptr.0
  pub offset : r.ref_ptr.1 ≡ s.ref_ptr.1 + p.start
  pub word : r.now ≡ cut (body s.now) p.start p.size

-- a line that was written to a setting is answered 0, and leaves the tree that the words stand for
abbrev pub Restores : List ℕ → ℕ → ℕ → Setting → List ℕ → Type 0
Restores xs user g s line =
    (ys : List ℕ) (m : ℕ) → Answered xs ys (write_setting user g (setting_name s) line) m → (m ≡ 0) × (view ys ≡ view xs)

-- each line of a text, as it stands and without its newline, and none longer than the longest; of document 01's four settings there is
-- one
pub record ShownBack (xs : List ℕ) (user g : ℕ) (s : Setting) (text : List ℕ) : Type 0 where
  pub each : All (λ line. Restores xs user g s line × Restores xs user g s (body line)) (lines_of text)
  pub one : s ≢ IoMax → lines_of text ≡ text ∷ []
  pub short : All (λ line. length line ≤ longest_shown) (lines_of text)

-- what a reader finds of process p, which ended in tree t, after calls on the tree after its exit: by whether its group was removed
pub record ZombieFinds (t : Tree) (p : ℕ) (u : Tree) (cs : List Call) (buffer told bytes : List ℕ) : Type 0 where
  pub stays : Never (Removes (process_group t p)) u cs → FindsText (membership_line t p) buffer told bytes
  pub deleted : Ever (Removes (process_group t p)) u cs
      → FindsText (ended (path_text t (process_group t p) ++ T.bytes " (deleted)")) buffer told bytes

pub record Demand2 : Type 0 where
  pub exactly : {xs ys : List ℕ} {c : Call} {n : ℕ} → Answered xs ys c n → Exactly xs ys c n
  pub room : {xs ys : List ℕ} {c : Call} {k : ℕ} {told : List ℕ} (r : Resource) (n p : ℕ) → Asks r n p c → Kept xs
      → Answered xs ys c k → told ≡ room_words (reply (view xs) c) → RoomTold (view xs) r n p k told
  -- order 1: a write of a setting is answered 28 exactly where its device is a fifth
  pub fifth : {xs ys : List ℕ} {n : ℕ} (user g : ℕ) (file line : List ℕ) → Kept xs → Answered xs ys (write_setting user g file line) n
      → (n ≡ 28 → FifthWrite (view xs) user g file line) × (FifthWrite (view xs) user g file line → n ≡ 28)
  -- order 2: what an accepted line of memory.max or pids.max leaves, by its word
  pub rounds : {xs ys : List ℕ} {n : ℕ} (r : Resource) (user g : ℕ) (l : Limit) (line : List ℕ)
      → one_word limit_word (line_words line) ≡ Some l
      → Answered xs ys (write_setting user g (setting_name (Max r)) line) n → n ≡ 0 → LimitLeft (view ys) r g l
  -- told as two words, and as a part of the lent line
  pub question : {line told : List ℕ} → told ≡ part_words (first_bad_word line)
      → (p : Part) × (told ≡ p.start ∷ p.size ∷ []) × FirstBad line p
  pub part : {r s : Bor (List ℕ)} → IsPart r s (first_bad_word s.now) → (p : Part) × BadPart r s p
  -- the text of a file that is there, and of a membership line
  pub shown : {xs ys buffer told bytes : List ℕ} {n : ℕ} (g : ℕ) (file : List ℕ) → Answered xs ys (read g file buffer) n → n ≡ 0
      → Told (reply (view xs) (read g file buffer)) told bytes → FindsText (file_text (facts_of (view xs)) g file) buffer told bytes
  pub standing : {xs ys buffer told bytes : List ℕ} {n : ℕ} (p : ℕ) → Answered xs ys (membership p buffer) n → n ≡ 0
      → Told (reply (view xs) (membership p buffer)) told bytes → FindsText (membership_line (view xs) p) buffer told bytes
  -- order 4: a buffer as long as the longest text is never too short
  pub listing_fits : {xs ys buffer : List ℕ} {n : ℕ} (g : ℕ) → Kept xs → Answered xs ys (read g (file_name Procs) buffer) n
      → longest_listing ≤ length buffer → n ≢ 28
  pub line_fits : {xs ys buffer : List ℕ} {n : ℕ} (p : ℕ) → Kept xs → Answered xs ys (membership p buffer) n
      → longest_membership ≤ length buffer → n ≢ 28
  -- order 5: after an accepted exit, wherever a run without its collect has come to, what a membership call delivers is the line as it
  -- was before the exit, and ends in " (deleted)" exactly where the group was removed since
  pub zombie_line : {xs ys zs buffer told bytes : List ℕ} {es : List Entry} {n k : ℕ} (p : ℕ) → Kept xs → Answered xs ys (exit p) n → n ≡ 0
      → Runs ys es zs → Never (Collects p) (view ys) (calls_of es) → Answered zs zs (membership p buffer) k → k ≡ 0
      → Told (reply (view zs) (membership p buffer)) told bytes → ZombieFinds (view xs) p (view ys) (calls_of es) buffer told bytes
  -- and make answers 17 where its number is taken and the checks before pass; where it is not, the other checks alone decide
  pub taken : {xs ys : List ℕ} {n : ℕ} (user parent new : ℕ) → Kept xs → Answered xs ys (make user parent new) n
      → Pass (before_taken (view xs) user parent new) → group_taken (view xs) new ≡ true → n ≡ 17
  pub untaken : {xs ys : List ℕ} {n : ℕ} (user parent new : ℕ) → Kept xs → Answered xs ys (make user parent new) n
      → group_taken (view xs) new ≡ false
      → n ≡ answer_number (first (before_taken (view xs) user parent new ++ after_taken (view xs) user parent new))
  -- "What a settings file shows can be written back by whoever may write it, and changes nothing": the first k bytes of what a
  -- read delivered, on the words that it read
  pub back : {xs : List ℕ} {n k : ℕ} {buffer bytes : List ℕ} (user g : ℕ) (s : Setting) → Kept xs
      → Answered xs xs (read g (setting_name s) buffer) n → n ≡ 0
      → Told (reply (view xs) (read g (setting_name s) buffer)) (k ∷ []) bytes
      → may_write (view xs) user (parents (view xs) g) ≡ true
      → ShownBack xs user g s (take k bytes)
  -- "A user other than 0, all of whose groups lie inside one handed-over part, never moves a process across that part's edge": over
  -- every run in which nobody hands over to him a group outside it
  pub contained : {xs ys : List ℕ} {es : List Entry} (user d : ℕ) → user ≢ 0 → (r : Runs xs es ys)
      → OwnsInside (view xs) user d → Along (λ t c u. GivesOutside user d t c → ⊥) r
      → OwnsInside (view ys) user d × Along (λ t c u. caller c ≡ Some user → NoneAcross d t u) r
  pub fresh : {m : ℕ} {xs : List ℕ} → Fresh m xs → (user d : ℕ) → user ≢ 0 → OwnsInside (view xs) user d
