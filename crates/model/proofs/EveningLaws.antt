-- An evening holds where it does with the tree after each call taken from the number that the call must answer, and not from its checks
-- once more: a third less work. What the book is fed in an evening that holds is then in the table, and needs no tree. Assumes nothing.
use Prim.Native.Nat.{ℕ, zero, suc}
use mathlib.Core.Bool.{Bool, true, false}
use mathlib.Core.List.{List, [], ◌∷◌, map}
use mathlib.Core.Path.{◌≡◌, refl, sym, ap, ap₂, ◌∙◌, subst}
use lib.ListN.{take}
use borrow.Author.Tests.{eqb-true}
use Rattle.model.specs.Checks.{errno_number, answer_number}
use Rattle.model.specs.Tree.{Tree}
use Rattle.model.specs.Calls.{Call}
use Rattle.model.specs.Effects.{effect, step, fresh}
use Rattle.model.specs.Replies.{Reply, reply}
use Rattle.model.specs.Book.{Book, Entry, fresh_book, fed}
use Rattle.model.specs.Lists.{log}
use Rattle.model.specs.Totals.{brought, taken, total}
use Rattle.model.specs.declared.Resource.TheVariants.{Pages, Processes}
use Rattle.model.specs.Worked.{Exchange, Evening, same_reply, holds, all_hold, BookState, book_of_evening, is_booked, all_booked, log_of_evening, totals}
use Rattle.model.proofs.FunctionLaws.{split, clash, and_left}
use Rattle.model.proofs.CheckLaws.{errno-positive}
use Rattle.model.proofs.Steps.{step-accepted, step-refused, by-verdict}
use Rattle.model.proofs.Books.{reply-number}

-- the tree after a call that answers this number
abbrev pub tree_after : Tree → Call → ℕ → Tree
tree_after t c zero = effect t c
tree_after t c (suc n) = t

unfoldable pub holds_by : Tree → List Exchange → Bool
holds_by t [] = true
holds_by t (r ∷ rs) =
    elim (same_reply (reply t r.call) r.expected) [ true ↦ holds_by (tree_after t r.call r.expected.number) rs | false ↦ false ]

unfoldable pub all_hold_by : List Evening → Bool
all_hold_by [] = true
all_hold_by (e ∷ es) = elim (holds_by (fresh e.machine) e.exchanges) [ true ↦ all_hold_by es | false ↦ false ]

refused-after : (t : Tree) (c : Call) (n m : ℕ) → n ≡ m → (n ≡ 0 → t ≡ effect t c) → tree_after t c m ≡ t
refused-after t c n zero e f = sym (f e)
refused-after t c n (suc m) e f = refl

tree-after : (t : Tree) (c : Call) (a : Reply) → same_reply (reply t c) a ≡ true → tree_after t c a.number ≡ step t c
tree-after t c a h =
    let e : (reply t c).number ≡ a.number = eqb-true (reply t c).number a.number (and_left _ _ h) in
    by-verdict t c
    (λ d. ap (tree_after t c) (sym e ∙ (reply-number t c ∙ ap answer_number d)) ∙ sym (step-accepted t c d))
    (λ x d.
    refused-after t c (errno_number x) a.number (sym (reply-number t c ∙ ap answer_number d) ∙ e) (λ z. errno-positive x z)
    ∙ sym (step-refused t c x d))

holds_by_lem : (t : Tree) (rs : List Exchange) → holds_by t rs ≡ true → holds t rs ≡ true
unfolding holds_by holds
holds_by_lem t [] h = refl
holds_by_lem t (r ∷ rs) h =
    split (same_reply (reply t r.call) r.expected)
    (λ s.
    let k : holds_by (tree_after t r.call r.expected.number) rs ≡ true = rw (s, holds_by) at h in
    let m : holds_by (step t r.call) rs ≡ true = subst (λ (u : Tree). holds_by u rs ≡ true) (tree-after t r.call r.expected s) k in
    rw (s, holds) (holds_by_lem (step t r.call) rs m))
    (λ s. clash false (rw (s, holds_by) at h) refl)

pub all-hold-by : (es : List Evening) → all_hold_by es ≡ true → all_hold es ≡ true
unfolding all_hold_by all_hold
all-hold-by [] h = refl
all-hold-by (e ∷ es) h =
    split (holds_by (fresh e.machine) e.exchanges)
    (λ s. let k : all_hold_by es ≡ true = rw (s, all_hold_by) at h in rw (holds_by_lem (fresh e.machine) e.exchanges s, all_hold) (all-hold-by es k))
    (λ s. clash false (rw (s, all_hold_by) at h) refl)

-- the first evening of a table that holds
pub first_holds : (e : Evening) (es : List Evening) → all_hold (e ∷ es) ≡ true → holds (fresh e.machine) e.exchanges ≡ true
unfolding all_hold
first_holds e es h = split (holds (fresh e.machine) e.exchanges) (λ s. s) (λ s. clash false (rw (s, all_hold) at h) refl)

-- What is fed to the book in an evening that holds is in the table: the calls with the numbers that they must answer.
abbrev pub entry_of : Exchange → Entry
entry_of r = record { call = r.call; number = r.expected.number }

abbrev pub entries_of : Evening → ℕ → List Entry
entries_of e n = map entry_of (take n e.exchanges)

log-by : (t : Tree) (rs : List Exchange) (n : ℕ) → holds t rs ≡ true
    → log t (map (λ (r : Exchange). r.call) (take n rs)) ≡ map entry_of (take n rs)
unfolding holds log
log-by t rs zero h = refl
log-by t [] (suc n) h = refl
log-by t (r ∷ rs) (suc n) h =
    split (same_reply (reply t r.call) r.expected)
    (λ s.
    let k : holds (step t r.call) rs ≡ true = rw (s, holds) at h in
    let e : (reply t r.call).number ≡ r.expected.number = eqb-true (reply t r.call).number r.expected.number (and_left _ _ s) in
    ap₂ (λ (n : ℕ) (es : List Entry). record { call = r.call; number = n } ∷ es) e (log-by (step t r.call) rs n k))
    (λ s. clash false (rw (s, holds) at h) refl)

log-of-evening : (e : Evening) → holds (fresh e.machine) e.exchanges ≡ true → (n : ℕ) → log_of_evening e n ≡ entries_of e n
log-of-evening e h n = log-by (fresh e.machine) e.exchanges n h

abbrev pub totals_of : List Entry → List ℕ
totals_of es = total (brought Pages) es ∷ total (taken Pages) es ∷ total (brought Processes) es ∷ total (taken Processes) es ∷ []

pub totals-by : (e : Evening) → holds (fresh e.machine) e.exchanges ≡ true → (n : ℕ) → totals e n ≡ totals_of (entries_of e n)
totals-by e h n = ap totals_of (log-of-evening e h n)

-- the book's states, from the table alone
unfoldable pub all_booked_by : Evening → List BookState → Bool
all_booked_by e [] = true
all_booked_by e (x ∷ xs) =
    elim (is_booked (fed (fresh_book e.machine) (entries_of e x.calls)) x) [ true ↦ all_booked_by e xs | false ↦ false ]

pub all-booked-by : (e : Evening) (xs : List BookState) → holds (fresh e.machine) e.exchanges ≡ true → all_booked_by e xs ≡ true
    → all_booked e xs ≡ true
unfolding all_booked_by all_booked
all-booked-by e [] h k = refl
all-booked-by e (x ∷ xs) h k =
    let same : book_of_evening e x.calls ≡ fed (fresh_book e.machine) (entries_of e x.calls) =
    ap (fed (fresh_book e.machine)) (log-of-evening e h x.calls) in
    split (is_booked (fed (fresh_book e.machine) (entries_of e x.calls)) x)
    (λ s.
    let b : is_booked (book_of_evening e x.calls) x ≡ true = subst (λ (y : Book). is_booked y x ≡ true) (sym same) s in
    let l : all_booked_by e xs ≡ true = rw (s, all_booked_by) at k in
    rw (b, all_booked) (all-booked-by e xs h l))
    (λ s. clash false (rw (s, all_booked_by) at k) refl)
