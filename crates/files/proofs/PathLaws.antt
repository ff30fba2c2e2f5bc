-- Laws of paths and membership lines: a path by the parent's, and that more steps than the depth change nothing. Assumes nothing.
use Prim.Native.Nat.{ℕ, zero, suc, ◌+◌, ◌-◌, ◌*◌, ◌≤◌, ◌<◌}
use native.Mathlib.Omega.{arith}
use mathlib.Core.Bool.{Bool, true, false}
use mathlib.Core.List.{List, [], ◌∷◌, ◌++◌, append_assoc, append-nil}
use mathlib.Core.Logic.{◌≢◌}
use mathlib.Core.Path.{◌≡◌, refl, ap, sym, ◌∙◌}
use lib.ListN.{length, length-append}
use lib.Dec.{eqb}
use borrow.Author.Tests.{eq-eqb, ne_eqb, eqb-true}
use Rattle.model.specs.Sizes.{groups, deepest, longest_membership}
use Rattle.model.specs.Tree.{Tree, lives}
use Rattle.model.specs.Zombies.{there, path_parents, path_depths, last_group}
use Rattle.model.specs.Text.{bytes, newline, decimal}
use Rattle.model.specs.Files.{path, deleted_mark, membership_line}
use Rattle.model.specs.WellFormed.{Sound}
use Rattle.model.proofs.FunctionLaws.{split, whether, clash}
use Rattle.model.proofs.LengthLaws.{path-root, path-up, length-path}
use Rattle.model.proofs.ZombieLaws.{last-there}
use Rattle.tree.specs.Layout.{view}
use Rattle.files.specs.Texts.{place_path, ThereAt, HasPath, HasLine}

-- no path is longer: three digits and a "/" for each group on it; nor is the mark of a removed group
abbrev longest_path : ℕ
longest_path = deepest * 4

abbrev longest_mark : ℕ
longest_mark = 10

-- ---- a group that is live or was removed

-- by a test whether it is the root
pub is_root : {g : ℕ} {b : Bool} → b ≡ eqb g 0 → b ≡ true → g ≡ 0
is_root {g} e y = eqb-true g 0 (sym e ∙ y)

pub not_root : {g : ℕ} {b : Bool} → b ≡ eqb g 0 → b ≡ false → g ≢ 0
not_root {g} {b} e n z = clash b (e ∙ eq-eqb g 0 z) n

module _ {xs : List ℕ} {g : ℕ} (k : ThereAt xs g) where
  sound : Sound (there (view xs)) (path_parents (view xs)) (path_depths (view xs))
  sound = k.kept.formed.past.paths

  pub there_low : g < groups
  there_low = sound.range g k.there

  -- what a membership line shows of it
  pub length-place : length (place_path (view xs) g) ≤ longest_path
  length-place =
      whether g 0
      (λ e. rw (eq-eqb g 0 e) (omega arith))
      (λ ne. rw (ne_eqb g 0 ne) (length-path sound deepest g k.there))

-- ---- its path, by the path of its parent

pub path-of-root : {xs out : List ℕ} {g deep : ℕ} → HasPath xs g deep out → g ≡ 0 → out ≡ out ++ path (path_parents (view xs)) deep g
path-of-root {xs} {out} {g} {deep} h z = rw (path-root (path_parents (view xs)) deep g z) (sym (append-nil out))

module _ {xs out : List ℕ} {g deep : ℕ} (h : HasPath xs g deep out) (nz : g ≢ 0) (p : ℕ) (e : p ≡ path_parents (view xs) g) where
  below : path_depths (view xs) g ≡ suc (path_depths (view xs) p)
  below = rw e ((sound h.group).deeper g h.group.there nz)

  pub depth-some : 1 ≤ deep
  depth-some = omega (arith, below, h.level)

  pub path-next : path (path_parents (view xs)) (deep - 1) p ++ (bytes "/" ++ decimal g) ≡ path (path_parents (view xs)) deep g
  path-next =
      let d : deep ≡ suc (deep - 1) = omega (arith, depth-some) in
      sym (ap (λ (k : ℕ). path (path_parents (view xs)) k g) d ∙ rw (← e) at (path-up (path_parents (view xs)) (deep - 1) g nz))

  pub length-next : length (path (path_parents (view xs)) (deep - 1) p) + suc (length (decimal g)) ≡ length (path (path_parents (view xs)) deep g)
  length-next = rw (← path-next, length-append)

  -- in `out`, or in a line with no more before it than "/" and the number
  pub path-above : (w : List ℕ) → length w ≤ length out + suc (length (decimal g)) → HasPath xs p (deep - 1) w
  path-above w few =
      record {
        group = record { kept = h.group.kept; there = rw e ((sound h.group).above g h.group.there nz) };
        level = omega (arith, below, h.level);
        room = omega (arith, length-next, h.room, few);
      }

-- ---- the path that a membership line shows of a group other than the root

module _ {live : ℕ → Bool} {up depth : ℕ → ℕ} (s : Sound live up depth) where
  -- steps enough are enough
  path-alike : (n m g : ℕ) → live g ≡ true → depth g ≤ n → depth g ≤ m → path up n g ≡ path up m g
  path-alike zero zero g l a b = refl
  path-alike zero (suc m) g l a b =
      whether g 0
      (λ e. path-root up zero g e ∙ sym (path-root up (suc m) g e))
      (λ ne. absurd (omega (arith, s.deeper g l ne)))
  path-alike (suc n) zero g l a b =
      whether g 0
      (λ e. path-root up (suc n) g e ∙ sym (path-root up zero g e))
      (λ ne. absurd (omega (arith, s.deeper g l ne)))
  path-alike (suc n) (suc m) g l a b =
      whether g 0
      (λ e. path-root up (suc n) g e ∙ sym (path-root up (suc m) g e))
      (λ ne.
      path-up up n g ne
      ∙ ap (λ (w : List ℕ). w ++ (bytes "/" ++ decimal g))
      (path-alike n m (up g) (s.above g l ne) (omega (arith, s.deeper g l ne)) (omega (arith, s.deeper g l ne)))
      ∙ sym (path-up up m g ne))

  path-depth : (g : ℕ) → live g ≡ true → path up (depth g) g ≡ path up deepest g
  path-depth g l = path-alike (depth g) deepest g l (omega arith) (s.shallow g l)

module _ {xs : List ℕ} {g deep : ℕ} (k : ThereAt xs g) (nz : g ≢ 0) (d : deep ≡ path_depths (view xs) g) where
  pub place-path : path (path_parents (view xs)) deep g ≡ place_path (view xs) g
  place-path = rw (d, ne_eqb g 0 nz) (path-depth (sound k) g k.there)

  pub place-room : (out : List ℕ) → length out + length (place_path (view xs) g) ≤ longest_membership → HasPath xs g deep out
  place-room out r = record { group = k; level = omega arith; room = omega (arith, ap length place-path, r) }

-- ---- its mark

pub mark-live : (t : Tree) (g : ℕ) → lives t g ≡ true → [] ≡ deleted_mark t g
mark-live t g l = rw l

pub mark-removed : (t : Tree) (g : ℕ) → lives t g ≡ false → bytes " (deleted)" ≡ deleted_mark t g
mark-removed t g n = rw n

pub length-mark : (t : Tree) (g : ℕ) → length (deleted_mark t g) ≤ longest_mark
length-mark t g =
    split (lives t g)
    (λ l. omega (arith, ap length (mark-live t g l)))
    (λ n. omega (arith, ap length (mark-removed t g n)))

-- ---- the membership line of a live process or a zombie

module _ {xs : List ℕ} {p : ℕ} (h : HasLine xs p) where
  pub last-at : (g : ℕ) → g ≡ last_group (view xs) p → ThereAt xs g
  last-at g e = record { kept = h.kept; there = rw e (last-there (view xs) h.kept.formed p h.taken) }

pub membership-text : (xs : List ℕ) (p g : ℕ) → g ≡ last_group (view xs) p
    → bytes "0::" ++ (place_path (view xs) g ++ (deleted_mark (view xs) g ++ (newline ∷ []))) ≡ membership_line (view xs) p
unfolding membership_line
membership-text xs p g e =
    rw e
    (ap (λ (w : List ℕ). bytes "0::" ++ w) (sym (append_assoc (place_path (view xs) (last_group (view xs) p)) (deleted_mark (view xs) (last_group (view xs) p)) (newline ∷ []))))
