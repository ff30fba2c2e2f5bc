-- Listing the processes of a group: how the loop of `list::put_procs` begins, goes on and ends. It ends where as many are listed as the
-- group has members. Assumes nothing.
use Prim.Native.Nat.{ℕ, zero, suc, ◌+◌, ◌-◌, ◌≤◌, ◌<◌}
use native.Mathlib.Numerals.{add-one}
use native.Mathlib.Omega.{arith}
use mathlib.Core.Bool.{Bool, true, false}
use mathlib.Core.List.{List, [], ◌∷◌, ◌++◌, append_assoc, append-nil}
use mathlib.Core.Logic.{◌≢◌}
use mathlib.Core.Path.{◌≡◌, ap, sym, ◌∙◌}
use lib.ListN.{length, length-append}
use Rattle.model.specs.Functions.{weigh, sum}
use Rattle.model.specs.Sizes.{processes, longest_listing}
use Rattle.model.specs.Tree.{Place, nowhere}
use Rattle.model.specs.Text.{ended, decimal}
use Rattle.model.specs.Rules.{stands_in}
use Rattle.model.specs.Files.{process_lines}
use Rattle.model.proofs.FunctionLaws.{split, whether, weigh-yes, weigh-no}
use Rattle.model.proofs.LengthLaws.{lines-listed, lines-skipped, lines_none, lines-from-one, bytes_below, length-line, bytes-to-all}
use Rattle.tree.specs.Kept.{members}

-- of the numbers below p, how many stand in g
abbrev passed : (ℕ → Place) → ℕ → ℕ → ℕ
passed place g p = sum p (λ q. weigh (stands_in (place q) g) 1)

-- the lines written so far, and those of the numbers from p on, are all the lines, of which `left` are not written; they have no more
-- bytes than all lines of the numbers before p
pub record Listing (place : ℕ → Place) (g : ℕ) (out : List ℕ) (p left : ℕ) : Type 0 where
  pub short : length out ≤ bytes_below p
  pub text : out ++ process_lines place g p (processes - p) ≡ process_lines place g 0 processes
  pub count : left + passed place g p ≡ members place g

line : (p : ℕ) → 1 ≤ p → p < processes → length (decimal p) + 1 + bytes_below p ≡ bytes_below (p + 1)
line p some h = rw (length-append (decimal p) (10 ∷ [])) at (length-line p some h)

module _ (place : ℕ → Place) (g : ℕ) where
  passed-next : (p : ℕ) → passed place g (p + 1) ≡ weigh (stands_in (place p) g) 1 + passed place g p
  unfolding sum
  passed-next p = ap (passed place g) (add-one p)

  passed-up : (p n : ℕ) → p ≤ n → passed place g p ≤ passed place g n
  passed-up p zero h = let z : p ≡ 0 = omega arith in rw z (omega arith)
  passed-up p (suc n) h =
      whether p (suc n)
      (λ e. rw e (omega arith))
      (λ ne. omega (arith, passed-up p n (omega arith), ap (passed place g) (sym (add-one n)), passed-next n))

  -- where none is left, the numbers from p on have no line
  none_left : (n p : ℕ) → p + n ≡ processes → passed place g p ≡ passed place g processes → process_lines place g p n ≡ []
  none_left zero p e h = lines_none place g p
  none_left (suc n) p e h =
      let more : passed place g (p + 1) ≤ passed place g processes = passed-up (p + 1) processes (omega arith) in
      split (stands_in (place p) g)
      (λ y. absurd (omega (arith, passed-next p, weigh-yes (stands_in (place p) g) 1 y)))
      (λ o. lines-skipped place g p n o
      ∙ rw (← add-one p) (none_left n (p + 1) (omega arith) (omega (arith, passed-next p, weigh-no (stands_in (place p) g) 1 o))))

  -- 0 is no process
  pub listing_start : place 0 ≡ nowhere → (left : ℕ) → left ≡ members place g → Listing place g [] 1 left
  unfolding sum
  listing_start none left e =
      record {
        short = omega arith;
        text = sym (lines-from-one place g none);
        count = omega (arith, weigh-no (stands_in (place 0) g) 1 (ap (λ (l : Place). stands_in l g) none));
      }

  module _ {out : List ℕ} {p left : ℕ} (l : Listing place g out p left) where
    -- a process that is not listed yet has a number
    pub listing-more : p ≤ processes → left ≢ 0 → p < processes
    unfolding members
    listing-more low more =
        whether p processes
        (λ e. absurd (omega (arith, ap (passed place g) e, l.count, more)))
        (λ ne. omega (arith, low))

    module _ (some : 1 ≤ p) (h : p < processes) where
      left_over : processes - p ≡ suc (processes - (p + 1))
      left_over = omega arith

      -- the line of a number has room, whether it is to be listed or not
      pub listing-room : length out + length (decimal p) + 1 ≤ longest_listing
      listing-room = omega (arith, l.short, line p some h, bytes-to-all (p + 1) (omega arith) (omega arith))

      pub listing-line : {b : Bool} → b ≡ stands_in (place p) g → b ≡ true → left ≢ 0 → {new : List ℕ} {n : ℕ}
          → new ≡ out ++ ended (decimal p) → n ≡ left - 1 → Listing place g new (p + 1) n
      listing-line s y nz a m =
          let e : stands_in (place p) g ≡ true = sym s ∙ y in
          rw (a, m)
          record {
            short = omega (arith, l.short, length-append out (ended (decimal p)), length-append (decimal p) (10 ∷ []), line p some h);
            text =
                rw append_assoc
                (rw (left_over, lines-listed place g p (processes - (p + 1)) e, ← add-one p) at l.text);
            count = omega (arith, l.count, passed-next p, weigh-yes (stands_in (place p) g) 1 e);
          }

      pub listing-skip : {b : Bool} → b ≡ stands_in (place p) g → b ≡ false → {new : List ℕ} {n : ℕ} → new ≡ out → n ≡ left → Listing place g new (p + 1) n
      listing-skip s y a m =
          let e : stands_in (place p) g ≡ false = sym s ∙ y in
          rw (a, m)
          record {
            short = omega (arith, l.short, line p some h);
            text = rw (left_over, lines-skipped place g p (processes - (p + 1)) e, ← add-one p) at l.text;
            count = omega (arith, l.count, passed-next p, weigh-no (stands_in (place p) g) 1 e);
          }

    -- the line of the next number has room while a process is left to be listed
    pub listing-left-room : 1 ≤ p → p ≤ processes → left ≢ 0 → length out + length (decimal p) + 1 ≤ longest_listing
    listing-left-room some low more = listing-room some (listing-more low more)

    -- where none is left
    pub listing-done : left ≡ 0 → p ≤ processes → out ≡ process_lines place g 0 processes
    unfolding members
    listing-done z low =
        let all : passed place g p ≡ passed place g processes = omega (arith, l.count) in
        sym (append-nil out) ∙ (rw (none_left (processes - p) p (omega arith) all) at l.text)

    -- and where every number was passed
    pub listing-end : p ≡ processes → out ≡ process_lines place g 0 processes
    listing-end e =
        let z : processes - p ≡ 0 = omega arith in
        sym (append-nil out) ∙ (rw (z, lines_none place g p) at l.text)
