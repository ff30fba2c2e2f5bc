-- A fifth table of evenings, of order 5: what a zombie's number and the number of a removed group answer in every call, and that the
-- earlier of two refusals wins; what a zombie does not count for; which numbers a collect frees; and its membership line. P5 of document
-- 01 goes on to hold, in Worked.antt, where 5 is a zombie when 2 is removed. Assumes nothing.
use Rattle.std.specs.Prelude.{ℕ, List, [], ◌∷◌, ◌++◌, map, reverse, length, drop, replicate, None}
use Prim.Native.String.{String}
use Rattle.model.specs.Sizes.{longest_membership}
use Rattle.model.specs.Text.{bytes}
use Rattle.model.specs.Calls.{make, remove, hand_over, write_procs, admit, fork, exit, collect, charge, release, membership}
use Rattle.model.specs.Worked.{Exchange, exchange, succeeds, refuses, granted, stopped, reads, belongs, setting, control, procs, Evening, evening}
use Rattle.model.specs.Refusals.{all_succeed, all_get, padded, unknown, begun, descent, deep_chain}
use Rattle.model.specs.Outcomes.{fills, absent}

-- a membership line that fills its buffer, and one that does not fit into n bytes
abbrev pub fills_line : ℕ → String → Exchange
fills_line p line =
    let n : ℕ = length (bytes line) in
    exchange (membership p (replicate n 0)) 0 None 0 n (bytes line)

abbrev pub overflows_line : ℕ → ℕ → Exchange
overflows_line p n = exchange (membership p (replicate n 1)) 28 None 0 0 (replicate n 1)

-- Collect: 3, for a live process, for a free number and for numbers out of range, and a second time. It is of one zombie.
abbrev pub collecting : Evening
collecting =
    evening 0
    (begun
    ++ all_succeed (admit 1 7 ∷ admit 1024 7 ∷ []) ++ all_get 3 (map collect (0 ∷ 1 ∷ 5 ∷ 9 ∷ 1024 ∷ 1025 ∷ []))
    ++ all_succeed (map exit (1 ∷ 5 ∷ 6 ∷ 1024 ∷ []))
    ++ all_get 3 (map collect (0 ∷ 9 ∷ 261 ∷ 1025 ∷ 1029 ∷ 65541 ∷ 2147483653 ∷ 4294967301 ∷ []))
    ++ succeeds (collect 5) ∷ refuses (collect 5) 3 ∷ unknown 5 3 ∷ unknown 1030 3 ∷ belongs 6 "0::/\n" ∷ []
    ++ all_get 17 (map (λ p. admit p 8) (1 ∷ 6 ∷ 1024 ∷ []))
    ++ all_succeed (map collect (1024 ∷ 6 ∷ 1 ∷ []) ++ map (λ p. admit p 8) (1 ∷ 5 ∷ 6 ∷ 1024 ∷ [])))

-- "cannot be moved, charged to or forked from (3)", nor ended again: 3 before 22, 17 and 12, and in cgroup.procs after all that comes before
-- it there and before 13 and 16, for user 0 too. 5 ended in 2, and 6, user 8's, in the root.
abbrev pub named_in_calls : Evening
named_in_calls =
    evening 8
    (begun
    ++ all_succeed (control 0 0 "+cpu" ∷ control 7 1 "+cpu" ∷ procs 0 2 "5" ∷ exit 5 ∷ exit 6 ∷ admit 4 7 ∷ [])
    ++ all_get 3 (exit 5 ∷ exit 6 ∷ map (charge 5) (1 ∷ 9 ∷ 0 ∷ 1048577 ∷ []) ++ map (fork 5) (10 ∷ 0 ∷ 1025 ∷ 4 ∷ 5 ∷ []))
    ++ all_get 22 (procs 8 256 "5" ∷ procs 0 258 "5" ∷ procs 7 2 "5 5" ∷ procs 7 2 "5\n\n" ∷ write_procs 7 2 (padded 129 "5") ∷ [])
    ++ all_get 2 (procs 8 9 "5" ∷ [])
    ++ all_get 13 (procs 8 2 "5" ∷ procs 7 0 "5" ∷ [])
    ++ all_get 3 (map (λ g. procs 0 g "5") (0 ∷ 1 ∷ 2 ∷ 3 ∷ []) ++ map (λ g. procs 7 g "5") (1 ∷ 2 ∷ 3 ∷ []))
    ++ all_get 3 (procs 7 1 "6" ∷ procs 7 2 "6" ∷ procs 0 2 " 006\n" ∷ [])
    ++ belongs 5 "0::/1/2\n" ∷ belongs 6 "0::/\n" ∷ [])

-- "Its number is taken: admit and fork answer 17", before 11 and after 22 and 3, until it is collected. The process that has the
-- number then is of its own user, or of its parent's, and not of the zombie's.
abbrev pub number_taken : Evening
number_taken =
    evening 0
    (begun
    ++ all_succeed (control 0 0 "+pids" ∷ setting 0 1 "pids.max" "1" ∷ procs 0 2 "5" ∷ procs 0 2 "6" ∷ exit 5 ∷ [])
    ++ all_get 22 (admit 1029 8 ∷ fork 6 1029 ∷ [])
    ++ all_get 17 (admit 5 8 ∷ admit 5 7 ∷ fork 6 5 ∷ []) ++ refuses (fork 9 5) 3 ∷ stopped (fork 6 4) 11 1 2 ∷ []
    ++ succeeds (collect 5) ∷ stopped (fork 6 5) 11 1 2 ∷ succeeds (setting 0 1 "pids.max" "2") ∷ granted (fork 6 5) 3 ∷ []
    ++ all_get 13 (procs 7 3 "5" ∷ [])
    ++ all_succeed (exit 6 ∷ collect 6 ∷ admit 6 7 ∷ procs 0 2 "6" ∷ procs 7 3 "6" ∷ [])
    ++ belongs 6 "0::/1/3\n" ∷ belongs 5 "0::/1/2\n" ∷ [])

-- "A zombie isn't in cgroup.procs", "doesn't count as live"; "pids.current counts live ones only", and so do pids.max and cgroup.events.
abbrev pub uncounted : Evening
uncounted =
    evening 0
    (begun
    ++ all_succeed (control 0 0 "+pids" ∷ setting 0 1 "pids.max" "2" ∷ procs 0 2 "5" ∷ procs 0 2 "6" ∷ [])
    ++ stopped (fork 6 4) 11 1 2 ∷ succeeds (exit 5) ∷ reads 1 "pids.current" "1\n" ∷ granted (fork 6 4) 3 ∷ stopped (fork 6 10) 11 1 2 ∷ []
    ++ reads 2 "cgroup.procs" "4\n6\n" ∷ succeeds (exit 6) ∷ reads 1 "cgroup.events" "populated 1\n" ∷ []
    ++ succeeds (exit 4) ∷ reads 1 "cgroup.events" "populated 0\n" ∷ []
    ++ reads 1 "pids.current" "0\n" ∷ fills 2 "cgroup.procs" "" ∷ [])

-- A zombie is no process of the inner-process rule, and "doesn't stop a removal", of its group and of those above; nor does a removed
-- child, which holds no controller either. The pages that zombies charged stay, and pass up as all do.
abbrev pub no_inner_process : Evening
no_inner_process =
    evening 8
    (begun
    ++ all_succeed (control 0 0 "+memory +pids" ∷ procs 0 1 "6" ∷ procs 0 2 "5" ∷ [])
    ++ granted (charge 5 3) 3 ∷ granted (charge 6 1) 2 ∷ []
    ++ succeeds (exit 5) ∷ refuses (control 7 1 "+pids") 16 ∷ succeeds (exit 6) ∷ []
    ++ all_succeed (control 7 1 "+memory +pids" ∷ control 7 2 "+pids" ∷ []) ++ refuses (control 7 1 "-pids") 16 ∷ []
    ++ reads 2 "memory.current" "12288\n" ∷ succeeds (remove 7 2) ∷ succeeds (control 7 1 "-pids") ∷ refuses (release 1 5) 34 ∷ []
    ++ all_succeed (release 1 2 ∷ remove 7 3 ∷ remove 0 1 ∷ []) ++ refuses (release 0 3) 34 ∷ succeeds (release 0 2) ∷ []
    ++ belongs 5 "0::/1/2 (deleted)\n" ∷ belongs 6 "0::/1 (deleted)\n" ∷ [])

-- the tree of `begun` where 5 ended in 2
abbrev pub one_ended : List Exchange
one_ended = begun ++ all_succeed (procs 0 2 "5" ∷ exit 5 ∷ [])

-- "until then make answers 17": 22, 2, 17, 13. In every other call the number of a removed group is not live, 2, before what else it could
-- be refused for there.
abbrev pub removed_number : Evening
removed_number =
    evening 0
    (one_ended
    ++ all_succeed (control 0 0 "+memory" ∷ control 7 1 "+memory" ∷ remove 7 2 ∷ [])
    ++ all_get 22 (make 0 256 2 ∷ make 0 2 256 ∷ make 0 1 258 ∷ make 0 258 4 ∷ [])
    ++ all_get 2 (make 0 9 2 ∷ make 0 2 2 ∷ make 0 2 3 ∷ make 8 2 4 ∷ make 0 2 4 ∷ [])
    ++ all_get 17 (make 0 1 2 ∷ make 7 3 2 ∷ make 8 1 2 ∷ make 7 0 2 ∷ admit 5 8 ∷ [])
    ++ all_get 13 (make 8 1 4 ∷ [])
    ++ all_get 2 (remove 0 2 ∷ remove 8 2 ∷ hand_over 0 2 8 ∷ hand_over 7 2 8 ∷ procs 0 2 "6" ∷ procs 7 2 "5" ∷ procs 8 2 "x" ∷ [])
    ++ all_get 2 (control 0 2 "" ∷ control 8 2 "x" ∷ setting 7 2 "memory.max" "max" ∷ setting 8 2 "memory.max" "x" ∷ release 2 1 ∷ [])
    ++ all_get 22 (release 2 0 ∷ [])
    ++ absent 2 ("cgroup.procs" ∷ "cgroup.controllers" ∷ "cgroup.subtree_control" ∷ "cgroup.events" ∷ "memory.current" ∷ "memory.max" ∷ [])
    ++ belongs 5 "0::/1/2 (deleted)\n" ∷ [])

-- The same of a removed group further up. Both numbers are taken, and no other; after the collect both can be made again, elsewhere too,
-- and the line of a process there has no mark.
abbrev pub removed_chain : Evening
removed_chain =
    evening 0
    (one_ended
    ++ all_succeed (remove 7 2 ∷ remove 7 3 ∷ remove 0 1 ∷ [])
    ++ all_get 17 (make 0 0 1 ∷ make 8 0 2 ∷ [])
    ++ all_get 2 (make 0 1 2 ∷ make 0 2 1 ∷ make 0 1 4 ∷ remove 0 1 ∷ hand_over 0 1 8 ∷ procs 0 1 "6" ∷ control 0 1 "" ∷ release 1 1 ∷ [])
    ++ absent 1 ("cgroup.procs" ∷ "cgroup.events" ∷ [])
    ++ all_succeed (make 0 0 3 ∷ make 0 3 4 ∷ []) ++ all_get 17 (make 0 4 1 ∷ [])
    ++ belongs 5 "0::/1/2 (deleted)\n" ∷ []
    ++ all_succeed (collect 5 ∷ make 0 3 2 ∷ make 0 2 1 ∷ procs 0 1 "6" ∷ []) ++ belongs 6 "0::/3/2/1\n" ∷ [])

-- 5 ended in 2 under 1 and 6 in 1, and both groups were removed
abbrev pub two_ended : List Exchange
two_ended =
    all_succeed (descent 0 (1 ∷ 2 ∷ []) ++ admit 5 0 ∷ admit 6 0 ∷ procs 0 2 "5" ∷ procs 0 1 "6" ∷ [])
    ++ all_succeed (exit 5 ∷ exit 6 ∷ remove 0 2 ∷ remove 0 1 ∷ [])

-- The zombie of 2 collected first: 2 is free, and 1 is not.
abbrev pub lower_first : Evening
lower_first =
    evening 0
    (two_ended
    ++ succeeds (collect 5) ∷ refuses (make 0 0 1) 17 ∷ succeeds (make 0 0 2) ∷ unknown 5 3 ∷ belongs 6 "0::/1 (deleted)\n" ∷ []
    ++ all_succeed (collect 6 ∷ make 0 2 1 ∷ []))

-- The zombie of 1 collected first: nothing is free.
abbrev pub upper_first : Evening
upper_first =
    evening 0
    (two_ended
    ++ succeeds (collect 6) ∷ refuses (make 0 0 1) 17 ∷ refuses (make 0 0 2) 17 ∷ belongs 5 "0::/1/2 (deleted)\n" ∷ []
    ++ all_succeed (collect 5 ∷ make 0 0 2 ∷ make 0 0 1 ∷ []))

-- Two zombies of one group: the last frees its number. In a group made again a process, and a zombie, have a line without " (deleted)".
abbrev pub made_again : Evening
made_again =
    evening 0
    (begun
    ++ all_succeed (procs 0 2 "5" ∷ procs 0 2 "6" ∷ exit 5 ∷ exit 6 ∷ remove 7 2 ∷ collect 5 ∷ [])
    ++ refuses (make 7 1 2) 17 ∷ belongs 6 "0::/1/2 (deleted)\n" ∷ []
    ++ all_succeed (collect 6 ∷ make 7 3 2 ∷ admit 5 7 ∷ procs 0 2 "5" ∷ []) ++ belongs 5 "0::/1/3/2\n" ∷ []
    ++ succeeds (exit 5) ∷ belongs 5 "0::/1/3/2\n" ∷ [])

-- Three levels, of which the first stays live: it is made under, written, charged and handed over as before, and no line changes. The
-- zombie of 4 frees 4, and 2 is on the other's path.
abbrev pub under_live : Evening
under_live =
    evening 8
    (begun
    ++ all_succeed (make 7 2 4 ∷ procs 0 4 "5" ∷ procs 0 2 "6" ∷ exit 5 ∷ exit 6 ∷ remove 7 4 ∷ remove 7 2 ∷ [])
    ++ all_succeed (make 7 1 10 ∷ remove 7 3 ∷ make 7 10 3 ∷ admit 11 7 ∷ procs 0 1 "11" ∷ control 0 0 "+pids" ∷ [])
    ++ all_succeed (setting 0 1 "pids.max" "1" ∷ hand_over 0 1 8 ∷ []) ++ granted (charge 11 1) 2 ∷ []
    ++ belongs 5 "0::/1/2/4 (deleted)\n" ∷ belongs 6 "0::/1/2 (deleted)\n" ∷ belongs 11 "0::/1\n" ∷ []
    ++ all_get 17 (make 8 1 2 ∷ make 8 1 4 ∷ [])
    ++ succeeds (collect 5) ∷ refuses (make 8 1 2) 17 ∷ succeeds (make 8 1 4) ∷ belongs 6 "0::/1/2 (deleted)\n" ∷ [])

-- Three levels, all removed: the zombie of the lowest frees it and the one above, and the first is on the other's path.
abbrev pub three_levels : Evening
three_levels =
    evening 0
    (all_succeed (descent 0 (1 ∷ 2 ∷ 4 ∷ []) ++ admit 5 7 ∷ procs 0 4 "5" ∷ admit 6 8 ∷ procs 0 1 "6" ∷ exit 6 ∷ exit 5 ∷ [])
    ++ all_succeed (remove 0 4 ∷ remove 0 2 ∷ remove 0 1 ∷ []) ++ all_get 17 (map (make 0 0) (1 ∷ 2 ∷ 4 ∷ []))
    ++ succeeds (collect 5) ∷ refuses (make 0 0 1) 17 ∷ succeeds (make 0 0 4) ∷ succeeds (make 0 4 2) ∷ belongs 6 "0::/1 (deleted)\n" ∷ [])

-- A group that was removed with no zombie inside is free at once, though zombies ended beside it, above it and in the root. No
-- " (deleted)" while the zombie's own group is live, and the root always is.
abbrev pub beside : Evening
beside =
    evening 0
    (begun
    ++ all_succeed (procs 0 2 "5" ∷ procs 0 1 "6" ∷ admit 4 0 ∷ exit 4 ∷ exit 5 ∷ exit 6 ∷ [])
    ++ all_succeed (remove 7 3 ∷ make 7 2 3 ∷ remove 7 3 ∷ [])
    ++ belongs 5 "0::/1/2\n" ∷ belongs 6 "0::/1\n" ∷ succeeds (remove 7 2) ∷ belongs 6 "0::/1\n" ∷ []
    ++ all_succeed (remove 0 1 ∷ make 0 0 3 ∷ []) ++ belongs 4 "0::/\n" ∷ [])

-- A line that fits, and one byte less: 28, and the buffer stays. After the collect 3, before 28.
abbrev pub line_lengths : Evening
line_lengths =
    evening 0
    (one_ended
    ++ fills_line 5 "0::/1/2\n" ∷ overflows_line 5 7 ∷ succeeds (remove 7 2) ∷ overflows_line 5 8 ∷ overflows_line 5 17 ∷ []
    ++ fills_line 5 "0::/1/2 (deleted)\n" ∷ succeeds (collect 5) ∷ unknown 5 3 ∷ [])

-- the membership line of a zombie that ended at the end of `deep_chain`, the longest that there is
abbrev pub removed_line : String
removed_line = "0::/240/241/242/243/244/245/246/247/248/249/250/251/252/253/254/255 (deleted)\n"

-- 17 before 11, and 2 before 11 where the parent was removed. The longest line fits its 78 bytes, and not 77: all sixteen groups of
-- the longest chain are removed, from the bottom, and the highest is taken as the lowest is.
abbrev pub longest_path : Evening
longest_path =
    evening 0
    (all_succeed (descent 0 deep_chain ++ make 0 254 1 ∷ admit 5 0 ∷ procs 0 255 "5" ∷ exit 5 ∷ remove 0 255 ∷ [])
    ++ refuses (make 0 1 255) 17 ∷ refuses (make 0 1 2) 11 ∷ refuses (make 0 255 2) 2 ∷ succeeds (remove 0 1) ∷ []
    ++ all_succeed (map (remove 0) (drop 1 (reverse deep_chain)))
    ++ overflows_line 5 77 ∷ exchange (membership 5 (replicate longest_membership 1)) 0 None 0 78 (bytes removed_line) ∷ []
    ++ refuses (make 0 0 240) 17 ∷ [])

unfoldable pub zombie_evenings : List Evening
zombie_evenings =
    collecting ∷ named_in_calls ∷ number_taken ∷ uncounted ∷ no_inner_process ∷ removed_number ∷ removed_chain ∷ lower_first ∷ upper_first
    ∷ made_again ∷ under_live ∷ three_levels ∷ beside ∷ line_lengths ∷ longest_path ∷ []
