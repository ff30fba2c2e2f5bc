-- How the promise of a call that delivers a text is met: by a refusal, which leaves the reply as it is, or by the delivery
-- of the text. Assumes nothing.
use Rattle.std.specs.Prelude.{Option, Some, None, Result, Ok, Err}
use Prim.Native.Nat.{ℕ, ◌≤◌, ◌<◌}
use native.Mathlib.Omega.{arith}
use mathlib.Core.Bool.{Bool, true, false}
use mathlib.Core.List.{List, [], ◌∷◌}
use mathlib.Core.Logic.{◌≢◌}
use mathlib.Core.Path.{◌≡◌, refl, ap, sym, ◌∙◌}
use borrow.Author.Tests.{le-leb, lt-leb}
use Rattle.model.specs.Functions.{pick, passes, mapped, or_else}
use Rattle.model.specs.Sizes.{groups, processes}
use Rattle.model.specs.Checks.{need, first, barred, lacking, past, met}
use Rattle.model.specs.Tree.{lives}
use Rattle.model.specs.Zombies.{process_taken}
use Rattle.model.specs.Hierarchy.{facts_of}
use Rattle.model.specs.Names.{file_named}
use Rattle.model.specs.Files.{is_present, contents, membership_line, fits}
use Rattle.model.specs.Calls.{Call, read, membership, checks, verdict, file_text}
use Rattle.model.specs.Replies.{text_of, buffer_of}
use Rattle.model.specs.declared.Errno.{Errno}
use Rattle.model.specs.declared.Errno.TheVariants.{Einval, Enoent, Esrch, Enospc}
use Rattle.model.specs.declared.File.{File}
use Rattle.model.specs.declared.Setting.{Setting}
use Rattle.model.proofs.CheckLaws.{says_first, first_says}
use Rattle.model.proofs.ProcessLaws.{taken-out-of-range}
use Rattle.text.specs.Write.{Delivers, delivery}
use Rattle.tree.specs.Layout.{view}
use Rattle.tree.specs.Kept.{Kept}
use Rattle.tree.specs.Calling.{Delivering}
use Rattle.files.specs.Texts.{longest_other, longest, file_contents, DeliversFile}

module _ (xs : List ℕ) (c : Call) where
  reading-refused : (e : Errno) → verdict (view xs) c ≡ Err e → Delivering xs c (Err e) (buffer_of c)
  reading-refused e v = record { answer = rw v; buffer = rw v }

  reading-delivered : verdict (view xs) c ≡ delivery (text_of (facts_of (view xs)) c) (buffer_of c) → {part new : List ℕ} {r : Result ℕ Errno}
      → part ≡ text_of (facts_of (view xs)) c → Delivers part (buffer_of c) r new → Delivering xs c r new
  reading-delivered v {part} {new} {r} p d =
      let w : Delivers (text_of (facts_of (view xs)) c) (buffer_of c) r new = rw p at d in
      record { answer = rw v w.answer; buffer = rw v w.buffer }

-- the last check of both calls is the delivery's
last-check : (text old : List ℕ) → first (need (fits text old) Enospc ∷ []) ≡ delivery text old
unfolding first
last-check text old = go (fits text old)
  where
    go : (b : Bool) → first (need b Enospc ∷ []) ≡ pick b (Ok tt) (Err Enospc)
    go true = refl
    go false = refl

-- a file that is neither cgroup.procs nor a setting
pub short-file : (f : File) → f ≢ File.Procs → ((s : Setting) → f ≢ File.Value s) → longest f ≤ longest_other
short-file File.Procs j k = absurd (j refl)
short-file File.Controllers j k = omega arith
short-file File.SubtreeControl j k = omega arith
short-file File.Events j k = omega arith
short-file (File.Current r) j k = omega arith
short-file (File.Value s) j k = absurd (k s refl)

-- ---- read

module _ (xs : List ℕ) (g : ℕ) (name old : List ℕ) where
  abbrev Read : Result ℕ Errno → List ℕ → Type 0
  Read r new = Delivering xs (read g name old) r new

  pub read-no-number : groups ≤ g → Read (Err Einval) old
  unfolding verdict checks
  read-no-number h = reading-refused _ _ Einval (sym (says_first (barred (le-leb groups g h))))

  module _ (h : g < groups) where
    pub read-dead : lives (view xs) g ≡ false → Read (Err Enoent) old
    unfolding verdict checks
    read-dead d = reading-refused _ _ Enoent (sym (says_first (past (lt-leb groups g h) (lacking d))))

    module _ (l : lives (view xs) g ≡ true) where
      read-absent : passes (file_named name) (is_present (view xs) g) ≡ false → Read (Err Enoent) old
      unfolding verdict checks
      read-absent a = reading-refused _ _ Enoent (sym (says_first (past (lt-leb groups g h) (met l (lacking a)))))

      pub read-unknown : file_named name ≡ None → Read (Err Enoent) old
      read-unknown u = read-absent (ap (λ (o : Option File). passes o (is_present (view xs) g)) u)

      module _ (f : File) (found : file_named name ≡ Some f) where
        pub read-not-present : is_present (view xs) g f ≡ false → Read (Err Enoent) old
        read-not-present a = read-absent (ap (λ (o : Option File). passes o (is_present (view xs) g)) found ∙ a)

        text : file_text (facts_of (view xs)) g name ≡ contents (facts_of (view xs)) g f
        text = ap (λ (o : Option File). or_else [] (mapped (contents (facts_of (view xs)) g) o)) found

        accepted : is_present (view xs) g f ≡ true
            → verdict (view xs) (read g name old) ≡ delivery (file_text (facts_of (view xs)) g name) old
        unfolding verdict checks
        accepted a =
            sym
            (says_first
            (past (lt-leb groups g h)
            (met l
            (met (ap (λ (o : Option File). passes o (is_present (view xs) g)) found ∙ a)
            (first_says (need (fits (file_text (facts_of (view xs)) g name) old) Enospc ∷ []))))))
            ∙ last-check (file_text (facts_of (view xs)) g name) old

        pub read-delivered : is_present (view xs) g f ≡ true → {r : Result ℕ Errno} {new : List ℕ} → DeliversFile xs g f old r new → Read r new
        unfolding file_contents
        read-delivered a d = reading-delivered _ _ (accepted a) (sym text) d

-- ---- membership

module _ (xs : List ℕ) (p : ℕ) (old : List ℕ) where
  abbrev Membership : Result ℕ Errno → List ℕ → Type 0
  Membership r new = Delivering xs (membership p old) r new

  pub membership-dead : process_taken (view xs) p ≡ false → Membership (Err Esrch) old
  unfolding verdict checks
  membership-dead d = reading-refused _ _ Esrch (sym (says_first (lacking d)))

  -- a number out of range is nobody's
  pub membership-no-number : Kept xs → processes ≤ p → Membership (Err Esrch) old
  membership-no-number k h = membership-dead (taken-out-of-range (view xs) k.formed p h)

  pub membership-delivered : process_taken (view xs) p ≡ true → {text new : List ℕ} {r : Result ℕ Errno}
      → text ≡ membership_line (view xs) p → Delivers text old r new → Membership r new
  unfolding verdict checks
  membership-delivered l e d =
      reading-delivered xs (membership p old)
      (sym (says_first (met l (first_says (need (fits (membership_line (view xs) p) old) Enospc ∷ []))))
      ∙ last-check (membership_line (view xs) p) old)
      e
      d
