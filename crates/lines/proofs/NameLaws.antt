-- Laws of names: the names of a list tried one after another, a list in two parts, the settings among the files, names in one text, and
-- the file at a place. Assumes nothing.
use Rattle.std.specs.Prelude.{ℕ, zero, suc, ◌+◌, ◌-◌, ◌≤◌, ◌<◌, ◌≢◌, Bool, true, false, List, [], ◌∷◌, ◌++◌, map, ◌≡◌, length, get_or, take, drop, Option, Some, None}
use native.Mathlib.Numerals.{add-one}
use native.Mathlib.Omega.{arith}
use mathlib.Core.Path.{refl, ap, sym, ◌∙◌}
use lib.ListN.{drop_of_length-le, length-append}
use lib.Seq.{drop-cons, drop-drop, drop-append_seam, take-append_seam}
use Rattle.model.specs.Functions.{All}
use Rattle.model.specs.Text.{same_bytes, joined}
use Rattle.model.specs.Names.{named, settings, setting_name, setting_named, core_files, controller_files, files, file_name, file_named}
use Rattle.model.specs.declared.Setting.{Setting}
use Rattle.model.specs.declared.File.{File}
use Rattle.model.specs.declared.File.TheVariants.{Procs, Controllers, SubtreeControl, Events, Current, Value}
use Rattle.model.proofs.FunctionLaws.{split}
use Rattle.model.proofs.NameLaws.{file_named-file_name}

-- The test of the name at place i, where those before it are not the word's.
module _ {A : Type 0} (name : A → List ℕ) (w : List ℕ) (all : List A) (i : ℕ) (a : A) (l : i < length all) {t : Bool}
    (e : t ≡ same_bytes w (name a)) (is : a ≡ get_or all i a) (p : named name w (drop i all) ≡ named name w all) where
  next : drop i all ≡ a ∷ drop (i + 1) all
  next = rw add-one (drop-cons all i a l ∙ ap (λ x. x ∷ drop (suc i) all) (sym is))

  pub tried-found : t ≡ true → Some a ≡ named name w all
  unfolding named
  tried-found f = sym (rw (next, sym e ∙ f)) ∙ p

  pub tried-next : t ≡ false → named name w (drop (i + 1) all) ≡ named name w all
  unfolding named
  tried-next f = sym (rw (next, sym e ∙ f)) ∙ p

pub tried-all : {A : Type 0} (name : A → List ℕ) (w : List ℕ) (all : List A) (i : ℕ) → length all ≤ i
    → named name w (drop i all) ≡ named name w all → None ≡ named name w all
unfolding named
tried-all name w all i l p = sym (rw (drop_of_length-le all {i = i} l)) ∙ p

-- A list in two parts: what the first part has, or else what the second has.
module _ {A : Type 0} (name : A → List ℕ) (w : List ℕ) (ys : List A) where
  pub named-before : (xs : List A) (a : A) → Some a ≡ named name w xs → Some a ≡ named name w (xs ++ ys)
  unfolding named
  named-before [] a e = cc
  named-before (x ∷ xs) a e =
      split (same_bytes w (name x)) (λ y. rw y (rw y at e)) (λ n. rw n (named-before xs a (rw n at e)))

  pub named-behind : (xs : List A) → None ≡ named name w xs → named name w ys ≡ named name w (xs ++ ys)
  unfolding named
  named-behind [] e = refl
  named-behind (x ∷ xs) e =
      split (same_bytes w (name x)) (λ y. let z : None ≡ Some x = rw y at e in cc) (λ n. rw n (named-behind xs (rw n at e)))

-- ---- the settings among the files

abbrev pub setting_of : File → Option Setting
setting_of (Value s) = Some s
setting_of Procs = None
setting_of Controllers = None
setting_of SubtreeControl = None
setting_of Events = None
setting_of (Current r) = None

abbrev pub found_setting : Option File → Option Setting
found_setting None = None
found_setting (Some f) = setting_of f

pub no-setting : (f : File) → ((s : Setting) → f ≢ Value s) → None ≡ setting_of f
no-setting (Value s) n = absurd (n s refl)
no-setting Procs n = refl
no-setting Controllers n = refl
no-setting SubtreeControl n = refl
no-setting Events n = refl
no-setting (Current r) n = refl

module _ (w : List ℕ) where
  no-settings : (fs : List File) → All (λ f. setting_of f ≡ None) fs → found_setting (named file_name w fs) ≡ None
  unfolding named All
  no-settings [] h = refl
  no-settings (f ∷ fs) h = split (same_bytes w (file_name f)) (λ e. rw e h.0) (λ e. rw e (no-settings fs h.1))

  settings-first : (ss : List Setting) (fs : List File) → All (λ f. setting_of f ≡ None) fs
      → found_setting (named file_name w (map Value ss ++ fs)) ≡ named setting_name w ss
  unfolding named
  settings-first [] fs h = no-settings fs h
  settings-first (s ∷ ss) fs h =
      split (same_bytes w (setting_name s)) (λ e. rw e refl) (λ e. rw e (settings-first ss fs h))

  pub setting-found : found_setting (file_named w) ≡ setting_named w
  unfolding All
  setting-found = settings-first settings (core_files ++ controller_files) (refl, (refl, (refl, (refl, (refl, (refl, tt))))))

-- ---- names in one text, and where each begins; after the last, where it ends

abbrev pub starts_from : ℕ → List (List ℕ) → List ℕ
starts_from k [] = k ∷ []
starts_from k (n ∷ ns) = k ∷ starts_from (k + length n) ns

-- the name at a place is the part from where it begins to where the next one does, at place j
pub record NameAt (text starts name : List ℕ) (i j : ℕ) : Type 0 where
  pub from : get_or starts i 0 ≤ get_or starts j 0
  pub to : get_or starts j 0 ≤ length text
  pub part : take (get_or starts j 0 - get_or starts i 0) (drop (get_or starts i 0) text) ≡ name

first-start : (k : ℕ) (ns : List (List ℕ)) → get_or (starts_from k ns) 0 0 ≡ k
first-start k [] = refl
first-start k (n ∷ ns) = refl

-- the names from k on are all that is left of the text
module _ (text d : List ℕ) where
  name-from : (k : ℕ) (ns : List (List ℕ)) (i : ℕ) → drop k text ≡ joined ns → k + length (joined ns) ≤ length text → i < length ns
      → NameAt text (starts_from k ns) (get_or ns i d) i (suc i)
  unfolding joined
  name-from k [] i e b l = absurd (omega arith)
  name-from k (n ∷ ns) zero e b l =
      let s = first-start (k + length n) ns in
      let c = length-append n (joined ns) in
      let z : k + length n - k ≡ length n = omega arith in
      record { from = rw s (omega arith); to = rw s (omega arith); part = rw (s, z, e, take-append_seam n (joined ns)) }
  name-from k (n ∷ ns) (suc i) e b l =
      let c = length-append n (joined ns) in
      let f : drop (k + length n) text ≡ joined ns = sym (drop-drop (length n) k text) ∙ ap (drop (length n)) e ∙ drop-append_seam n (joined ns) in
      let r = name-from (k + length n) ns i f (omega arith) (omega arith) in
      record { from = r.from; to = r.to; part = r.part }

-- the same for the text of all names
pub name-at : (ns : List (List ℕ)) (i : ℕ) (d : List ℕ) → i < length ns → NameAt (joined ns) (starts_from 0 ns) (get_or ns i d) i (i + 1)
name-at ns i d l = rw add-one (name-from (joined ns) d 0 ns i refl (omega arith) l)

-- ---- the file at a place of the list is the one that its name names

pub file-at : (i : ℕ) (d : File) → i < length files → file_named (file_name (get_or files i d)) ≡ Some (get_or files i d)
file-at i d l = file_named-file_name (get_or files i d)
