-- The cases of document 01, "Evenings we have worked through", that are marked P: calls with the whole reply that each
-- must get, from the bytes of the lines to the bytes of the reply buffer; and what the book of demand 3 keeps in P1 to P4.
-- proofs/Worked.antt shows that all hold.
-- Assumes nothing.
use Rattle.std.specs.Prelude.{ℕ, Bool, true, false, ◌&&◌, List, [], ◌∷◌, ◌++◌, map, eqb, length, take, Option, Some, None}
use Prim.Native.String.{String}
use Rattle.model.specs.Tree.{Tree}
use Rattle.model.specs.Text.{bytes, same_bytes}
use Rattle.model.specs.Calls.{Call, make, remove, hand_over, write_procs, write_control, write_setting, admit, exit, charge, release, read, membership}
use Rattle.model.specs.Effects.{step, fresh}
use Rattle.model.specs.Replies.{Reply, reply}
use Rattle.model.specs.Book.{Book, in_book, fresh_book, Entry}
use Rattle.model.specs.Lists.{log, book_after}
use Rattle.model.specs.Totals.{brought, taken, total}
use Rattle.model.specs.declared.Resource.TheVariants.{Pages, Processes}
use Rattle.model.specs.declared.Limit.{Limit}
use Rattle.model.specs.declared.Limit.TheVariants.{NoLimit, Figure}

-- a call and the whole reply that it must get
pub record Exchange : Type 0 where
  pub call : Call
  pub expected : Reply

abbrev pub exchange : Call → ℕ → Option ℕ → ℕ → ℕ → List ℕ → Exchange
exchange c n g k l b = record { call = c; expected = record { number = n; group = g; consulted = k; size = l; buffer = b } }

-- success, or a number, with nothing to tell
abbrev pub succeeds : Call → Exchange
succeeds c = exchange c 0 None 0 0 []

abbrev pub refuses : Call → ℕ → Exchange
refuses c n = exchange c n None 0 0 []

-- a charge or a fork that found room, and one that did not
abbrev pub granted : Call → ℕ → Exchange
granted c k = exchange c 0 None k 0 []

abbrev pub stopped : Call → ℕ → ℕ → ℕ → Exchange
stopped c n g k = exchange c n (Some g) k 0 []

-- a text delivered into a buffer that is four bytes longer
abbrev pub sentinels : List ℕ
sentinels = 1 ∷ 2 ∷ 3 ∷ 4 ∷ []

abbrev pub blank_bytes : List ℕ → List ℕ
blank_bytes [] = []
blank_bytes (b ∷ bs) = 0 ∷ blank_bytes bs

abbrev pub reads : ℕ → String → String → Exchange
reads g file text =
    exchange (read g (bytes file) (blank_bytes (bytes text) ++ sentinels)) 0 None 0 (length (bytes text)) (bytes text ++ sentinels)

abbrev pub belongs : ℕ → String → Exchange
belongs p text =
    exchange (membership p (blank_bytes (bytes text) ++ sentinels)) 0 None 0 (length (bytes text)) (bytes text ++ sentinels)

-- lines as text
abbrev pub setting : ℕ → ℕ → String → String → Call
setting user g file line = write_setting user g (bytes file) (bytes line)

abbrev pub control : ℕ → ℕ → String → Call
control user g line = write_control user g (bytes line)

abbrev pub procs : ℕ → ℕ → String → Call
procs user g line = write_procs user g (bytes line)

-- An evening, in document 01's word: calls one after the other, from a fresh tree.
pub record Evening : Type 0 where
  pub machine : ℕ
  pub exchanges : List Exchange

abbrev pub evening : ℕ → List Exchange → Evening
evening m exchanges = record { machine = m; exchanges = exchanges }

abbrev pub same_option : Option ℕ → Option ℕ → Bool
same_option None None = true
same_option None (Some b) = false
same_option (Some a) None = false
same_option (Some a) (Some b) = eqb a b

abbrev pub same_reply : Reply → Reply → Bool
same_reply a b =
    eqb a.number b.number
    && (same_option a.group b.group
    && (eqb a.consulted b.consulted && (eqb a.size b.size && same_bytes a.buffer b.buffer)))

unfoldable pub holds : Tree → List Exchange → Bool
holds t [] = true
holds t (r ∷ rs) = elim (same_reply (reply t r.call) r.expected) [ true ↦ holds (step t r.call) rs | false ↦ false ]

unfoldable pub all_hold : List Evening → Bool
all_hold [] = true
all_hold (e ∷ es) = elim (holds (fresh e.machine) e.exchanges) [ true ↦ all_hold es | false ↦ false ]

abbrev pub limits_and_charges : Evening
limits_and_charges =
    evening 1024
    (succeeds (make 0 0 1)
    ∷ succeeds (make 0 1 2)
    ∷ succeeds (control 0 0 "+memory\n")
    ∷ succeeds (control 0 1 "+memory\n")
    ∷ succeeds (setting 0 1 "memory.max" "40960\n")
    ∷ succeeds (setting 0 2 "memory.max" "32768\n")
    ∷ succeeds (admit 5 7)
    ∷ succeeds (procs 0 2 "5\n")
    -- P1
    ∷ granted (charge 5 8) 3
    ∷ reads 1 "memory.current" "32768\n"
    -- P2
    ∷ stopped (charge 5 1) 12 2 1
    -- P3
    ∷ succeeds (release 2 2)
    ∷ succeeds (setting 0 1 "memory.max" "20480\n")
    ∷ reads 1 "memory.current" "24576\n"
    -- P4
    ∷ stopped (charge 5 1) 12 1 2
    -- P5, in either order
    ∷ succeeds (exit 5)
    ∷ succeeds (remove 0 2)
    ∷ refuses (release 1 7) 34
    ∷ succeeds (release 1 6)
    ∷ refuses (release 1 7) 34
    ∷ [])

-- P6, as order 2 has it, and P7
abbrev pub rounding : Evening
rounding =
    evening 0
    (succeeds (make 0 0 1)
    ∷ succeeds (control 0 0 "+memory")
    ∷ succeeds (setting 0 1 "memory.max" "4097")
    ∷ reads 1 "memory.max" "4096\n"
    ∷ succeeds (setting 0 1 "memory.max" "0")
    ∷ reads 1 "memory.max" "0\n"
    ∷ refuses (setting 0 1 "memory.max" "4503599627370497") 34
    ∷ reads 1 "memory.max" "0\n"
    ∷ [])

-- P8
abbrev pub weights : Evening
weights =
    evening 0
    (succeeds (make 0 0 1)
    ∷ succeeds (control 0 0 "+cpu")
    ∷ succeeds (setting 0 1 "cpu.weight" "1")
    ∷ reads 1 "cpu.weight" "1\n"
    ∷ succeeds (setting 0 1 "cpu.weight" "10000")
    ∷ reads 1 "cpu.weight" "10000\n"
    ∷ refuses (setting 0 1 "cpu.weight" "0") 34
    ∷ refuses (setting 0 1 "cpu.weight" "10001") 34
    ∷ refuses (setting 0 1 "cpu.weight" "1 2") 22
    ∷ reads 1 "cpu.weight" "10000\n"
    ∷ [])

-- P9
abbrev pub last_word : Evening
last_word =
    evening 0
    (succeeds (control 0 0 "+cpu -cpu +memory")
    ∷ reads 0 "cgroup.subtree_control" "memory\n"
    ∷ [])

-- P10: 1 is the parent; 2 is C0, with C00, which is 4, and C01, which is 6, below it; 3 is C1, with C10, which is 5
abbrev pub delegation : Evening
delegation =
    evening 0
    (succeeds (make 0 0 1)
    ∷ succeeds (make 0 1 2)
    ∷ succeeds (make 0 1 3)
    ∷ succeeds (hand_over 0 2 7)
    ∷ succeeds (hand_over 0 3 7)
    ∷ succeeds (make 7 2 4)
    ∷ succeeds (make 7 2 6)
    ∷ succeeds (make 7 3 5)
    ∷ succeeds (admit 9 7)
    ∷ succeeds (procs 0 5 "9")
    ∷ refuses (procs 7 4 "9") 13
    ∷ reads 5 "cgroup.procs" "9\n"
    ∷ [])

-- P11
abbrev pub membership_path : Evening
membership_path =
    evening 0
    (succeeds (make 0 0 3)
    ∷ succeeds (make 0 3 7)
    ∷ succeeds (admit 1 0)
    ∷ succeeds (procs 0 7 "1")
    ∷ belongs 1 "0::/3/7\n"
    ∷ [])

unfoldable pub table : List Evening
table = limits_and_charges ∷ rounding ∷ weights ∷ last_word ∷ delegation ∷ membership_path ∷ []

-- What the book of demand 3 keeps of a group's pages after the first calls of an evening: the limit, the usage and the mark.
pub record BookState : Type 0 where
  pub calls : ℕ
  pub group : ℕ
  pub limit : ℕ
  pub usage : ℕ
  pub mark : ℕ

abbrev pub book_state : ℕ → ℕ → ℕ → ℕ → ℕ → BookState
book_state n g l u m = record { calls = n; group = g; limit = l; usage = u; mark = m }

abbrev pub first_calls : Evening → ℕ → List Call
first_calls e n = map (λ (r : Exchange). r.call) (take n e.exchanges)

abbrev pub book_of_evening : Evening → ℕ → Book
book_of_evening e n = book_after (fresh e.machine) (fresh_book e.machine) (first_calls e n)

abbrev pub is_figure : ℕ → Limit → Bool
is_figure n NoLimit = false
is_figure n (Figure m) = eqb m n

abbrev pub is_booked : Book → BookState → Bool
is_booked b x =
    is_figure x.limit ((b.group x.group).limit Pages)
    && (eqb (in_book b Pages x.group) x.usage && eqb (b.mark x.group) x.mark)

unfoldable pub all_booked : Evening → List BookState → Bool
all_booked e [] = true
all_booked e (x ∷ xs) = elim (is_booked (book_of_evening e x.calls) x) [ true ↦ all_booked e xs | false ↦ false ]

-- P1 to P4, in pages: after each of the two limits, after P1, after P3's release, after P3, after P4. After P3 group 1 has as many
-- as its mark, and more than its limit; after P1 group 2 has as many as its limit.
unfoldable pub marks : List BookState
marks =
    book_state 5 1 10 0 0 ∷ book_state 6 2 8 0 0 ∷ book_state 9 1 10 8 0 ∷ book_state 9 2 8 8 0
    ∷ book_state 12 1 10 6 0 ∷ book_state 13 1 5 6 6 ∷ book_state 13 2 8 6 0 ∷ book_state 15 1 5 6 6 ∷ []

-- A second write marks anew, less than before too; a limit of processes, a charge, a release and a refused write leave the mark.
abbrev pub rewriting : Evening
rewriting =
    evening 16
    (succeeds (make 0 0 1)
    ∷ succeeds (control 0 0 "+memory +pids")
    ∷ succeeds (admit 5 0)
    ∷ succeeds (procs 0 1 "5")
    ∷ granted (charge 5 6) 2
    ∷ succeeds (setting 0 1 "memory.max" "20480")
    ∷ succeeds (release 1 4)
    ∷ succeeds (setting 0 1 "memory.max" "40960")
    ∷ granted (charge 5 1) 2
    ∷ succeeds (setting 0 1 "pids.max" "3")
    ∷ refuses (setting 0 1 "memory.max" "x") 22
    ∷ [])

unfoldable pub rewritten : List BookState
rewritten = book_state 6 1 5 6 6 ∷ book_state 7 1 5 2 6 ∷ book_state 8 1 10 2 2 ∷ book_state 9 1 10 3 2 ∷ book_state 10 1 10 3 2 ∷ book_state 11 1 10 3 2 ∷ []

-- Pages and processes that came in and went out in P1 to P5, all but the last three calls: 8 charged and 2 released, one birth and one
-- exit; and at the end, where 6 more are released and a release of 7 is refused twice.
abbrev pub log_of_evening : Evening → ℕ → List Entry
log_of_evening e n = log (fresh e.machine) (first_calls e n)

abbrev pub totals : Evening → ℕ → List ℕ
totals e n =
    let es : List Entry = log_of_evening e n in
    total (brought Pages) es ∷ total (taken Pages) es ∷ total (brought Processes) es ∷ total (taken Processes) es ∷ []
