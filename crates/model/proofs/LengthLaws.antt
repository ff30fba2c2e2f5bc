-- How long cgroup.procs and the membership line get. A listing is counted line by line: the lines of the numbers below p have
-- `bytes_below p` bytes, if all are listed. Assumes nothing.
use Rattle.std.specs.Prelude.{Ok}
use Prim.Native.Nat.{ℕ, zero, suc, ◌+◌, ◌-◌, ◌*◌, ◌≤◌, ◌<◌}
use native.Mathlib.Decide.{dec_lt}
use native.Mathlib.Numerals.{add-one}
use native.Mathlib.Omega.{arith}
use mathlib.Core.Bool.{Bool, true, false, ◌||◌}
use mathlib.Core.List.{[], ◌∷◌, ◌++◌}
use mathlib.Core.Logic.{◌≢◌}
use mathlib.Core.Path.{◌≡◌, refl, ap, ap₂, sym, ◌∙◌}
use lib.ListN.{length, length-append}
use borrow.Author.Tests.{eq-eqb, ne_eqb, le-leb, lt-leb}
use Rattle.model.specs.Functions.{mapped, or_else}
use Rattle.model.specs.Sizes.{processes, deepest, longest_listing, longest_live_membership, longest_membership}
use Rattle.model.specs.Checks.{bar, need, first, answer_number}
use Rattle.model.specs.Tree.{Tree, Place, nowhere, at, Process, Past, is_live, lives, places}
use Rattle.model.specs.Zombies.{is_zombie, path_parents, process_taken, last_group}
use Rattle.model.specs.Hierarchy.{facts_of}
use Rattle.model.specs.Text.{bytes, newline, ended, decimal}
use Rattle.model.specs.Names.{file_name}
use Rattle.model.specs.Rules.{stands_in}
use Rattle.model.specs.Files.{path_text, deleted_mark, process_lines, contents, path, membership_line}
use Rattle.model.specs.Calls.{admit, read, membership, file_text, checks, verdict}
use Rattle.model.specs.Effects.{effect, step, fresh, run}
use Rattle.model.specs.WellFormed.{Sound, WellFormed}
use Rattle.model.specs.Lengths.{Lengths, admissions, ListingReached}
use Rattle.model.specs.declared.File.TheVariants.{Procs}
use Rattle.model.specs.declared.Errno.TheVariants.{Enoent, Esrch, Einval, Enospc}
use Rattle.model.proofs.FunctionLaws.{split, whether, clash, upd_same, upd_other}
use Rattle.model.proofs.DecimalLaws.{length-decimal, length-decimal-least}
use Rattle.model.proofs.NameLaws.{file_named-file_name}
use Rattle.model.proofs.ZombieLaws.{last-there}
use Rattle.model.proofs.Steps.{process-lives, by-verdict, step-accepted, step-refused, well-formed-run}
use Rattle.model.proofs.Books.{reply-number}
use Rattle.model.proofs.Reached.{well-formed-fresh}

-- ---- a listing, by its next number

module _ (place : ℕ → Place) (g : ℕ) where
  pub lines-listed : (p n : ℕ) → stands_in (place p) g ≡ true
      → process_lines place g p (suc n) ≡ ended (decimal p) ++ process_lines place g (suc p) n
  unfolding process_lines
  lines-listed p n e = rw e

  pub lines-skipped : (p n : ℕ) → stands_in (place p) g ≡ false → process_lines place g p (suc n) ≡ process_lines place g (suc p) n
  unfolding process_lines
  lines-skipped p n e = rw e

  pub lines_none : (p : ℕ) → process_lines place g p 0 ≡ []
  unfolding process_lines
  lines_none p = refl

-- the bytes of the lines of the numbers from 1 on that are below p: two for each, and one more for each from 10, 100 and 1000 on
unfoldable pub bytes_below : ℕ → ℕ
bytes_below p = 2 * (p - 1) + (p - 10) + (p - 100) + (p - 1000)

-- a number that reaches a bound, or not, adds one above it, or none
above_more : (p k : ℕ) → k ≤ p → p + 1 - k ≡ (p - k) + 1
above_more p k h = omega arith

above-none : (p k : ℕ) → p < k → p + 1 - k ≡ (p - k) + 0
above-none p k h = omega arith

line-adds : (l n a b c x y z : ℕ) → l ≡ 1 + x + y + z → l + 1 + (2 * n + a + b + c) ≡ 2 * (n + 1) + (a + x) + (b + y) + (c + z)
line-adds l n a b c x y z e = omega arith

pub length-line : (p : ℕ) → 1 ≤ p → p < processes → length (ended (decimal p)) + bytes_below p ≡ bytes_below (p + 1)
unfolding bytes_below
length-line p one low =
    rw (length-append (decimal p) (10 ∷ []), above_more p 1 one)
    (elim (dec_lt p 10) [
      | yes a ↦
          rw (above-none p 10 a, above-none p 100 (omega arith), above-none p 1000 (omega arith))
          (line-adds (length (decimal p)) (p - 1) (p - 10) (p - 100) (p - 1000) 0 0 0
          (omega (arith, length-decimal p 1 (omega arith) (omega arith), length-decimal-least p 0 (omega arith))))
      | no a ↦
          elim (dec_lt p 100) [
            | yes b ↦
                rw (above_more p 10 (omega arith), above-none p 100 b, above-none p 1000 (omega arith))
                (line-adds (length (decimal p)) (p - 1) (p - 10) (p - 100) (p - 1000) 1 0 0
                (omega (arith, length-decimal p 2 (omega arith) (omega arith), length-decimal-least p 1 (omega arith))))
            | no b ↦
                elim (dec_lt p 1000) [
                  | yes c ↦
                      rw (above_more p 10 (omega arith), above_more p 100 (omega arith), above-none p 1000 c)
                      (line-adds (length (decimal p)) (p - 1) (p - 10) (p - 100) (p - 1000) 1 1 0
                      (omega (arith, length-decimal p 3 (omega arith) (omega arith), length-decimal-least p 2 (omega arith))))
                  | no c ↦
                      rw (above_more p 10 (omega arith), above_more p 100 (omega arith), above_more p 1000 (omega arith))
                      (line-adds (length (decimal p)) (p - 1) (p - 10) (p - 100) (p - 1000) 1 1 1
                      (omega (arith, length-decimal p 4 (omega arith) (omega arith), length-decimal-least p 3 (omega arith))))
                ]
          ]
    ])

pub bytes-of-none : bytes_below 1 ≡ 0
unfolding bytes_below
bytes-of-none = refl

pub bytes-of-all : bytes_below processes ≡ longest_listing
unfolding bytes_below
bytes-of-all = refl

-- the lines below some number are no more than all
pub bytes-to-all : (p : ℕ) → 1 ≤ p → p ≤ processes → bytes_below p ≤ longest_listing
bytes-to-all p one low = go (processes - p) p one (omega arith)
  where
    go : (n p : ℕ) → 1 ≤ p → p + n ≡ processes → bytes_below p ≤ longest_listing
    go zero p one e = let q : p ≡ processes = omega arith in rw q (omega (arith, bytes-of-all))
    go (suc n) p one e = omega (arith, length-line p one (omega arith), go n (p + 1) (omega arith) (omega arith))

-- ---- the listing of a group

module _ (place : ℕ → Place) (g : ℕ) where
  listing-short : (n p : ℕ) → 1 ≤ p → p + n ≡ processes → length (process_lines place g p n) + bytes_below p ≤ longest_listing
  listing-short zero p one e =
      let q : p ≡ processes = omega arith in
      rw (lines_none place g p, q) (omega (arith, bytes-of-all))
  listing-short (suc n) p one e =
      let low : p < processes = omega arith in
      let rest : length (process_lines place g (suc p) n) + bytes_below (suc p) ≤ longest_listing = listing-short n (suc p) (omega arith) (omega arith) in
      let line : length (ended (decimal p)) + bytes_below p ≡ bytes_below (suc p) = rw (add-one p) at (length-line p one low) in
      split (stands_in (place p) g)
      (λ y. rw (lines-listed place g p n y, length-append) (omega arith))
      (λ o. rw (lines-skipped place g p n o) (omega arith))

  listing_full : ((q : ℕ) → 1 ≤ q → q < processes → stands_in (place q) g ≡ true) → (n p : ℕ) → 1 ≤ p → p + n ≡ processes
      → length (process_lines place g p n) + bytes_below p ≡ longest_listing
  listing_full all zero p one e =
      let q : p ≡ processes = omega arith in
      rw (lines_none place g p, q) (omega (arith, bytes-of-all))
  listing_full all (suc n) p one e =
      let low : p < processes = omega arith in
      let rest : length (process_lines place g (suc p) n) + bytes_below (suc p) ≡ longest_listing = listing_full all n (suc p) (omega arith) (omega arith) in
      let line : length (ended (decimal p)) + bytes_below p ≡ bytes_below (suc p) = rw (add-one p) at (length-line p one low) in
      rw (lines-listed place g p n (all p one low), length-append) (omega arith)

  -- 0 is no process
  pub lines-from-one : place 0 ≡ nowhere → process_lines place g 0 processes ≡ process_lines place g 1 (processes - 1)
  lines-from-one e =
      let more : processes ≡ suc (processes - 1) = refl in
      ap (process_lines place g 0) more ∙ lines-skipped place g 0 (processes - 1) (rw e)

-- ---- where every process was admitted

module _ (user : ℕ) where
  -- an admission changes nobody else's place, and no zombie
  admitted-past : (t : Tree) (p : ℕ) → (step t (admit p user)).past ≡ t.past
  unfolding effect
  admitted-past t p =
      by-verdict t (admit p user)
      (λ e. ap (λ (u : Tree). u.past) (step-accepted t (admit p user) e))
      (λ x e. ap (λ (u : Tree). u.past) (step-refused t (admit p user) x e))

  admitted-other : (t : Tree) (p q : ℕ) → q ≢ p → (step t (admit p user)).process q ≡ t.process q
  unfolding effect
  admitted-other t p q ne =
      by-verdict t (admit p user)
      (λ e. ap (λ (u : Tree). u.process q) (step-accepted t (admit p user) e) ∙ upd_other t.process p _ q ne)
      (λ x e. ap (λ (u : Tree). u.process q) (step-refused t (admit p user) x e))

  admitted-here : (t : Tree) (p : ℕ) → p ≢ 0 → p < processes → process_taken t p ≡ false → places (step t (admit p user)) p ≡ at 0
  unfolding effect verdict checks first
  admitted-here t p nz low free =
      let e : verdict t (admit p user) ≡ Ok tt = rw (ne_eqb p 0 nz, lt-leb processes p low, free, first) in
      ap (λ (u : Tree). places u p) (step-accepted t (admit p user) e) ∙ ap (λ (x : Process). x.place) (upd_same t.process p _)

  admissions-before : (n p q : ℕ) (t : Tree) → q < p → (run t (admissions user p n)).process q ≡ t.process q
  unfolding run admissions
  admissions-before zero p q t l = refl
  admissions-before (suc n) p q t l =
      admissions-before n (suc p) q (step t (admit p user)) (omega arith) ∙ admitted-other t p q (λ e. omega arith)

  all-admitted : (n p : ℕ) (t : Tree) → 1 ≤ p → p + n ≤ processes → ((q : ℕ) → p ≤ q → process_taken t q ≡ false)
      → (q : ℕ) → p ≤ q → q < p + n → places (run t (admissions user p n)) q ≡ at 0
  unfolding run admissions
  all-admitted zero p t one few free q from to = absurd (omega arith)
  all-admitted (suc n) p t one few free q from to =
      let u : Tree = step t (admit p user) in
      whether q p
      (λ e. rw e
      (ap (λ (x : Process). x.place) (admissions-before n (suc p) p u (omega arith))
      ∙ admitted-here t p (λ z. omega arith) (omega arith) (free p (omega arith))))
      (λ ne. all-admitted n (suc p) u (omega arith) (omega arith)
      (λ r l. ap₂ (λ (x : Process) (z : Past). is_live x.place || is_zombie (z.zombie r)) (admitted-other t p r (λ e. omega arith)) (admitted-past t p)
      ∙ free r (omega arith)) q (omega arith) (omega arith))

unborn : (m q : ℕ) → process_taken (fresh m) q ≡ false
unfolding fresh
unborn m q = refl

pub listing-reached : ListingReached
unfolding contents
listing-reached m user =
    let u : Tree = run (fresh m) (admissions user 1 (processes - 1)) in
    let w : WellFormed u = well-formed-run (admissions user 1 (processes - 1)) (fresh m) (well-formed-fresh m) in
    let stands : (q : ℕ) → 1 ≤ q → q < processes → stands_in (places u q) 0 ≡ true =
    (λ q one low. ap (λ (l : Place). stands_in l 0) (all-admitted user (processes - 1) 1 (fresh m) (omega arith) (omega arith) (λ r _. unborn m r) q one (omega arith))) in
    ap length (lines-from-one (places u) 0 w.placed.none)
    ∙ omega (arith, listing_full (places u) 0 stands (processes - 1) 1 (omega arith) (omega arith), bytes-of-none)

-- ---- paths

pub path-root : (up : ℕ → ℕ) (n g : ℕ) → g ≡ 0 → path up n g ≡ []
unfolding path
path-root up zero g e = refl
path-root up (suc n) g e = rw (eq-eqb g 0 e)

pub path-none : (up : ℕ → ℕ) (deep g : ℕ) → deep ≡ 0 → [] ≡ path up deep g
unfolding path
path-none up deep g e = rw e

pub path-up : (up : ℕ → ℕ) (n g : ℕ) → g ≢ 0 → path up (suc n) g ≡ path up n (up g) ++ (bytes "/" ++ decimal g)
unfolding path
path-up up n g ne = rw (ne_eqb g 0 ne)

-- three digits and a "/" for each group on it
pub length-path : {live : ℕ → Bool} {up depth : ℕ → ℕ} (s : Sound live up depth) (n g : ℕ) → live g ≡ true → length (path up n g) ≤ n * 4
length-path {up = up} s zero g l = rw (← path-none up zero g refl) (omega arith)
length-path {up = up} s (suc n) g l =
    whether g 0
    (λ e. rw (path-root up (suc n) g e) (omega arith))
    (λ ne.
    rw (path-up up n g ne, length-append)
    (omega (
      arith,
      length-path s n (up g) (s.above g l ne),
      length-decimal g 3 (omega (arith, s.range g l)) (omega arith),
    )))

length-mark : (t : Tree) (g : ℕ) → length (deleted_mark t g) ≤ 10
length-mark t g = split (lives t g) (λ l. rw l (omega arith)) (λ n. rw n (omega arith))

length-text : (t : Tree) → WellFormed t → (p : ℕ) → process_taken t p ≡ true → length (path_text t (last_group t p)) ≤ 67
length-text t w p k =
    let g : ℕ = last_group t p in
    whether g 0
    (λ e. rw (eq-eqb g 0 e) (omega arith))
    (λ ne. rw (ne_eqb g 0 ne)
    (omega (arith, length-append (bytes "0::") (path (path_parents t) deepest g), length-path w.past.paths deepest g (last-there t w p k))))

length-with : (t : Tree) → WellFormed t → (p n : ℕ) → process_taken t p ≡ true → length (deleted_mark t (last_group t p)) ≤ n
    → length (membership_line t p) ≤ 68 + n
unfolding membership_line
length-with t w p n k m =
    let g : ℕ = last_group t p in
    omega (
      arith,
      length-append (path_text t g ++ deleted_mark t g) (newline ∷ []),
      length-append (path_text t g) (deleted_mark t g),
      length-text t w p k,
      m,
    )

length-membership : (t : Tree) → WellFormed t → (p : ℕ) → process_taken t p ≡ true → length (membership_line t p) ≤ longest_membership
length-membership t w p k = length-with t w p 10 k (length-mark t (last_group t p))

-- of a live process, whose group is live
length-live : (t : Tree) → WellFormed t → (p : ℕ) → is_live (places t p) ≡ true → length (membership_line t p) ≤ longest_live_membership
length-live t w p l =
    let home : lives t (last_group t p) ≡ true = rw l (process-lives t w p l) in
    length-with t w p 0 (rw l) (rw home (omega arith))

-- ---- a text that fits is not refused for room

read_fits : (a b c d : Bool) → d ≡ true → answer_number (first (bar a Einval ∷ need b Enoent ∷ need c Enoent ∷ need d Enospc ∷ [])) ≢ 28
unfolding first
read_fits true b c d h e = absurd (omega arith)
read_fits false false c d h e = absurd (omega arith)
read_fits false true false d h e = absurd (omega arith)
read_fits false true true true h e = absurd (omega arith)
read_fits false true true false h e = absurd (clash false h refl)

line-fits : (a b : Bool) → (a ≡ true → b ≡ true) → answer_number (first (need a Esrch ∷ need b Enospc ∷ [])) ≢ 28
unfolding first
line-fits false b h e = absurd (omega arith)
line-fits true true h e = absurd (omega arith)
line-fits true false h e = absurd (clash false (h refl) refl)

pub lengths : (t : Tree) → WellFormed t → Lengths t
unfolding contents verdict checks
lengths t w =
    record {
      listing = short;
      listing_fits = λ g buffer h.
          let e : file_text (facts_of t) g (file_name Procs) ≡ process_lines (places t) g 0 processes =
          ap (λ x. or_else [] (mapped (contents (facts_of t) g) x)) (file_named-file_name Procs) in
          λ z. read_fits _ _ _ _ (le-leb _ (length buffer) (omega (arith, h, short g, ap length e))) (sym (reply-number t (read g (file_name Procs) buffer)) ∙ z);
      line = length-membership t w;
      live_line = length-live t w;
      line_fits = λ p buffer h z.
          line-fits _ _ (λ l. le-leb _ (length buffer) (omega (arith, h, length-membership t w p l))) (sym (reply-number t (membership p buffer)) ∙ z);
    }
  where
    short : (g : ℕ) → length (process_lines (places t) g 0 processes) ≤ longest_listing
    short g =
        rw (lines-from-one (places t) g w.placed.none)
        (omega (arith, listing-short (places t) g (processes - 1) 1 (omega arith) (omega arith), bytes-of-none))
