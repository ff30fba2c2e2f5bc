-- A third table of evenings, beside Worked.antt and Refusals.antt: what the accepted calls of document 01 and of order 2 do and
-- what they leave as it is, the ends of ranges from inside, and each file where it is and where it is not, empty and full.
-- Assumes nothing.
use Rattle.std.specs.Prelude.{ℕ, List, [], ◌∷◌, ◌++◌, map, length, replicate, None}
use Prim.Native.String.{String}
use Rattle.model.specs.Text.{bytes}
use Rattle.model.specs.Calls.{make, remove, hand_over, write_setting, admit, fork, exit, collect, charge, release, read, membership}
use Rattle.model.specs.Worked.{Exchange, exchange, succeeds, refuses, granted, stopped, reads, belongs, setting, control, procs, Evening, evening}
use Rattle.model.specs.Refusals.{all_succeed, all_get, all_controllers, unread, begun, descent, deep_chain, deep_line}

-- a text that fills its buffer, and one that does not fit into n bytes
abbrev pub fills : ℕ → String → String → Exchange
fills g file text =
    let n : ℕ = length (bytes text) in
    exchange (read g (bytes file) (replicate n 0)) 0 None 0 n (bytes text)

abbrev pub overflows : ℕ → String → ℕ → Exchange
overflows g file n = exchange (read g (bytes file) (replicate n 1)) 28 None 0 0 (replicate n 1)

-- files that are only where their controller is on
abbrev pub resource_files : List String
resource_files = "memory.current" ∷ "pids.current" ∷ "cpu.weight" ∷ "cpu.max" ∷ "io.max" ∷ "memory.max" ∷ "pids.max" ∷ []

abbrev pub absent : ℕ → List String → List Exchange
absent g files = map (λ file. unread g file 2) files

-- one setting of several groups, written and read
abbrev pub set_in : List ℕ → String → String → List Exchange
set_in gs file line = all_succeed (map (λ g. setting 0 g file line) gs)

abbrev pub reads_in : List ℕ → String → String → List Exchange
reads_in gs file text = map (λ g. reads g file text) gs

-- a line of memory.max, what it reads then, and the same when that is written back
abbrev pub becomes : String → String → List Exchange
becomes line text =
    succeeds (setting 0 1 "memory.max" line) ∷ reads 1 "memory.max" text ∷ []
    ++ succeeds (setting 0 1 "memory.max" text) ∷ reads 1 "memory.max" text ∷ []

-- Make: "Owner is the user; set empty; defaults; no pages", under a parent that has a set, settings and pages too, and where a
-- group had the number before that had them. A group with a process may get a child and be handed over, and the process stays.
-- A group with a set and pages may be removed.
abbrev pub made : Evening
made =
    evening 8
    (all_succeed (make 0 0 1 ∷ control 0 0 all_controllers ∷ setting 0 1 "cpu.weight" "5" ∷ setting 0 1 "cpu.max" "2000 5000" ∷ [])
    ++ all_succeed (setting 0 1 "memory.max" "32768" ∷ setting 0 1 "pids.max" "3" ∷ admit 5 8 ∷ procs 0 1 "5" ∷ [])
    ++ granted (charge 5 1) 2 ∷ []
    ++ all_succeed (hand_over 0 1 8 ∷ make 8 1 2 ∷ []) ++ belongs 5 "0::/1\n" ∷ []
    ++ all_succeed (procs 8 2 "5" ∷ control 8 1 all_controllers ∷ setting 8 2 "cpu.weight" "6" ∷ setting 8 2 "cpu.max" "3000 4000" ∷ [])
    ++ all_succeed (setting 8 2 "memory.max" "16384" ∷ setting 8 2 "pids.max" "2" ∷ []) ++ granted (charge 5 2) 3 ∷ []
    ++ all_succeed (exit 5 ∷ collect 5 ∷ control 8 2 "+cpu" ∷ hand_over 0 1 7 ∷ remove 7 2 ∷ make 7 1 2 ∷ [])
    ++ reads 2 "cgroup.subtree_control" "" ∷ reads 2 "cpu.weight" "100\n" ∷ reads 2 "cpu.max" "max 100000\n" ∷ []
    ++ reads 2 "memory.max" "max\n" ∷ reads 2 "pids.max" "max\n" ∷ reads 2 "memory.current" "0\n" ∷ refuses (release 2 1) 34 ∷ []
    ++ reads 1 "cgroup.subtree_control" "cpu io memory pids\n" ∷ reads 1 "memory.current" "12288\n" ∷ []
    ++ refuses (make 8 2 3) 13 ∷ succeeds (make 7 2 3) ∷ [])

-- Hand over: the owner changes and nothing else. Children keep their owners, processes their users; set, settings, pages stay.
abbrev pub handed_on : Evening
handed_on =
    evening 8
    (begun
    ++ all_succeed (control 0 0 all_controllers ∷ control 7 1 all_controllers ∷ procs 0 2 "5" ∷ [])
    ++ all_succeed (setting 7 2 "cpu.weight" "5" ∷ setting 7 2 "memory.max" "8192" ∷ setting 7 2 "pids.max" "1" ∷ [])
    ++ granted (charge 5 1) 3 ∷ []
    ++ all_succeed (hand_over 0 1 8 ∷ hand_over 0 2 8 ∷ [])
    ++ all_get 13 (make 7 1 4 ∷ make 7 2 4 ∷ make 8 3 4 ∷ procs 8 2 "5" ∷ [])
    ++ all_succeed (make 7 3 4 ∷ make 8 2 10 ∷ make 8 1 11 ∷ [])
    ++ reads 1 "cgroup.subtree_control" "cpu io memory pids\n" ∷ reads 2 "cpu.weight" "5\n" ∷ reads 2 "memory.max" "8192\n" ∷ []
    ++ reads 2 "pids.max" "1\n" ∷ reads 2 "memory.current" "4096\n" ∷ [])

-- Remove: "Own pages pass to the parent", no further, and where the parent's owner removes another's group too; the parent keeps
-- its own pages, set, settings and owner. A group with children and no set takes a process.
abbrev pub passed_up : Evening
passed_up =
    evening 8
    (begun
    ++ all_succeed (control 0 0 "+memory" ∷ setting 0 1 "memory.max" "28672" ∷ procs 0 1 "5" ∷ [])
    ++ granted (charge 5 1) 2 ∷ []
    ++ all_succeed (procs 7 2 "5" ∷ control 7 1 "+memory" ∷ setting 7 2 "memory.max" "12288" ∷ [])
    ++ granted (charge 5 3) 3 ∷ []
    ++ all_succeed (procs 7 3 "5" ∷ hand_over 0 2 8 ∷ remove 7 2 ∷ [])
    ++ reads 1 "memory.current" "16384\n" ∷ reads 1 "memory.max" "28672\n" ∷ reads 1 "cgroup.subtree_control" "memory\n" ∷ []
    ++ all_get 34 (release 0 1 ∷ release 1 5 ∷ [])
    ++ all_succeed (release 1 1 ∷ make 7 1 2 ∷ remove 7 2 ∷ exit 5 ∷ remove 7 3 ∷ remove 0 1 ∷ [])
    ++ refuses (release 0 4) 34 ∷ succeeds (release 0 3) ∷ [])

-- Who moves what. Who may write the target is asked, not who may write the source; up or down, one of the two is the lowest group
-- on both chains. A move to where the process stands is a move. A process keeps its user, and a fork has its parent's, not the
-- group owner's.
abbrev pub movers : Evening
movers =
    evening 0
    (begun
    ++ all_succeed (hand_over 0 3 8 ∷ procs 0 3 "5" ∷ []) ++ granted (fork 5 4) 3 ∷ belongs 4 "0::/1/3\n" ∷ []
    ++ all_get 13 (procs 7 3 "5" ∷ procs 8 3 "5" ∷ [])
    ++ all_succeed (procs 7 2 "5" ∷ procs 7 2 "4" ∷ procs 7 2 "5" ∷ procs 0 2 "5" ∷ [])
    ++ all_get 13 (procs 7 3 "5" ∷ procs 7 0 "5" ∷ [])
    ++ all_succeed (procs 7 1 "5" ∷ procs 7 1 "5" ∷ procs 7 2 "5" ∷ procs 0 2 "6" ∷ [])
    ++ all_get 13 (procs 7 2 "6" ∷ procs 8 2 "6" ∷ procs 8 3 "6" ∷ [])
    ++ all_succeed (procs 0 3 "6" ∷ procs 8 3 "6" ∷ admit 10 7 ∷ admit 11 65543 ∷ [])
    ++ all_get 13 (procs 7 0 "10" ∷ procs 7 2 "10" ∷ [])
    ++ all_succeed (procs 0 0 "10" ∷ procs 0 2 "11" ∷ [])
    ++ all_get 13 (procs 7 1 "11" ∷ [])
    ++ reads 2 "cgroup.procs" "4\n5\n11\n" ∷ reads 1 "cgroup.procs" "" ∷ reads 0 "cgroup.procs" "10\n" ∷ [])

-- No limit stops a move, and pages move neither with a process nor when it exits. Limits outlast it.
abbrev pub staying : Evening
staying =
    evening 8
    (begun
    ++ all_succeed (control 0 0 "+memory +pids" ∷ control 7 1 "+memory +pids" ∷ [])
    ++ all_succeed (setting 7 3 "pids.max" "0" ∷ setting 7 3 "memory.max" "0" ∷ procs 0 2 "5" ∷ [])
    ++ granted (charge 5 8) 3 ∷ succeeds (procs 7 3 "5") ∷ []
    ++ reads 2 "memory.current" "32768\n" ∷ reads 3 "memory.current" "0\n" ∷ reads 3 "pids.current" "1\n" ∷ []
    ++ stopped (fork 5 4) 11 3 1 ∷ stopped (charge 5 1) 12 3 1 ∷ []
    ++ succeeds (exit 5) ∷ reads 1 "memory.current" "32768\n" ∷ reads 3 "memory.max" "0\n" ∷ reads 3 "pids.max" "0\n" ∷ [])

-- A root with a set takes processes and children, and is charged, released and forked in as before. An exit is of one process.
abbrev pub in_root : Evening
in_root =
    evening 4
    (begun
    ++ all_succeed (control 0 0 all_controllers ∷ admit 10 7 ∷ make 0 0 4 ∷ [])
    ++ granted (charge 6 2) 1 ∷ granted (fork 6 11) 1 ∷ fills 0 "cgroup.procs" "5\n6\n10\n11\n" ∷ []
    ++ succeeds (exit 6) ∷ fills 0 "cgroup.procs" "5\n10\n11\n" ∷ []
    ++ stopped (charge 11 3) 12 0 1 ∷ granted (charge 11 2) 1 ∷ refuses (release 0 5) 34 ∷ []
    ++ succeeds (release 0 4) ∷ refuses (release 0 1) 34 ∷ [])

-- Group 255 and processes 1 and 1024, each in every role.
abbrev pub ends : Evening
ends =
    evening 8
    (all_succeed (make 0 0 1 ∷ make 0 1 255 ∷ control 0 0 all_controllers ∷ control 0 1 all_controllers ∷ admit 1 7 ∷ [])
    ++ granted (fork 1 1024) 1 ∷ []
    ++ all_succeed (procs 0 255 "1" ∷ procs 0 255 "1024" ∷ exit 1 ∷ collect 1 ∷ [])
    ++ all_get 16 (control 0 255 "+cpu" ∷ remove 0 255 ∷ [])
    ++ granted (fork 1024 1) 3 ∷ granted (charge 1024 1) 3 ∷ granted (charge 1 1) 3 ∷ []
    ++ belongs 1 "0::/1/255\n" ∷ belongs 1024 "0::/1/255\n" ∷ reads 255 "cgroup.procs" "1\n1024\n" ∷ []
    ++ reads 1 "pids.current" "2\n" ∷ reads 1 "memory.current" "8192\n" ∷ []
    ++ all_succeed (exit 1024 ∷ exit 1 ∷ release 255 2 ∷ setting 0 255 "cpu.weight" "5" ∷ control 0 255 "+cpu" ∷ [])
    ++ all_get 16 (control 0 1 "-cpu" ∷ remove 0 1 ∷ [])
    ++ all_succeed (control 0 255 "-cpu" ∷ control 0 1 "-cpu" ∷ control 0 1 "+cpu" ∷ []) ++ reads 255 "cpu.weight" "100\n" ∷ []
    ++ all_succeed (hand_over 0 255 7 ∷ make 7 255 254 ∷ remove 7 254 ∷ remove 0 255 ∷ []))

-- The longest chain. A process at depth 16 is counted in the group at depth 1 and stopped by its limits; its move to another child of that
-- group asks who owns the group. The longest line of a live process fits its 68 bytes, and not 67.
abbrev pub far_up : Evening
far_up =
    evening 8
    (all_succeed (descent 0 deep_chain)
    ++ all_succeed (make 0 240 1 ∷ hand_over 0 1 7 ∷ control 0 0 "+memory +pids" ∷ admit 5 7 ∷ procs 0 255 "5" ∷ [])
    ++ exchange (membership 5 (replicate 67 1)) 28 None 0 0 (replicate 67 1) ∷ []
    ++ exchange (membership 5 (replicate 68 1)) 0 None 0 68 (bytes deep_line) ∷ []
    ++ all_succeed (setting 0 240 "memory.max" "4096" ∷ setting 0 240 "pids.max" "1" ∷ []) ++ granted (charge 5 1) 17 ∷ []
    ++ stopped (charge 5 1) 12 240 16 ∷ stopped (fork 5 6) 11 240 16 ∷ reads 240 "memory.current" "4096\n" ∷ []
    ++ reads_in (240 ∷ 247 ∷ 248 ∷ 255 ∷ []) "cgroup.events" "populated 1\n"
    ++ refuses (procs 7 1 "5") 13 ∷ succeeds (hand_over 0 240 7) ∷ succeeds (procs 7 1 "5") ∷ belongs 5 "0::/240/1\n" ∷ []
    ++ reads_in (241 ∷ 248 ∷ 255 ∷ []) "cgroup.events" "populated 0\n" ++ reads 240 "pids.current" "1\n" ∷ []
    ++ reads 240 "memory.current" "4096\n" ∷ succeeds (release 255 1) ∷ reads 240 "memory.current" "0\n" ∷ [])

-- "would pass memory.max": usage and charge together, of the group and all inside it; of several groups without room the first
-- going up is told. A child's limit may be larger than its parent's, and a pids limit smaller than what is there.
abbrev pub rooms : Evening
rooms =
    evening 4
    (begun
    ++ all_succeed (control 0 0 "+memory +pids" ∷ control 7 1 "+memory +pids" ∷ procs 0 2 "5" ∷ procs 0 3 "6" ∷ [])
    ++ all_succeed (setting 0 1 "memory.max" "12288" ∷ setting 7 2 "memory.max" "16384" ∷ setting 7 2 "memory.max" "8192" ∷ [])
    ++ granted (charge 5 1) 3 ∷ stopped (charge 5 2) 12 2 1 ∷ stopped (charge 5 4) 12 2 1 ∷ granted (charge 5 1) 3 ∷ []
    ++ stopped (charge 6 2) 12 1 2 ∷ granted (charge 6 1) 3 ∷ stopped (charge 6 1) 12 1 2 ∷ []
    ++ reads 1 "memory.current" "12288\n" ∷ reads 2 "memory.current" "8192\n" ∷ reads 3 "memory.current" "4096\n" ∷ []
    ++ succeeds (setting 0 1 "pids.max" "2") ∷ stopped (fork 5 4) 11 1 2 ∷ succeeds (setting 7 2 "pids.max" "0") ∷ []
    ++ stopped (fork 5 4) 11 2 1 ∷ reads 1 "pids.current" "2\n" ∷ [])

-- "A controller that leaves resets its settings in all children." With "+" as its last word it does not leave.
abbrev pub resetting : Evening
resetting =
    evening 0
    (all_succeed (make 0 0 1 ∷ control 0 0 all_controllers ∷ control 0 1 "+cpu" ∷ setting 0 1 "cpu.weight" "5" ∷ [])
    ++ all_succeed (setting 0 1 "cpu.max" "2000 5000" ∷ setting 0 1 "memory.max" "4096" ∷ setting 0 1 "pids.max" "3" ∷ [])
    ++ succeeds (control 0 0 "-cpu +cpu") ∷ reads 1 "cpu.weight" "5\n" ∷ []
    ++ all_succeed (control 0 1 "-cpu" ∷ control 0 0 "-cpu -memory" ∷ control 0 0 "+cpu +memory" ∷ [])
    ++ reads 1 "cpu.weight" "100\n" ∷ reads 1 "cpu.max" "max 100000\n" ∷ []
    ++ reads 1 "memory.max" "max\n" ∷ reads 1 "pids.max" "3\n" ∷ [])

-- A reset leaves the settings of other controllers, the pages, the group itself and the children of other groups as they are.
abbrev pub neighbours : Evening
neighbours =
    evening 8
    (all_succeed (make 0 0 1 ∷ make 0 1 2 ∷ make 0 0 3 ∷ make 0 3 4 ∷ admit 5 0 ∷ procs 0 2 "5" ∷ [])
    ++ all_succeed (map (λ g. control 0 g all_controllers) (0 ∷ 1 ∷ 3 ∷ [])) ++ granted (charge 5 1) 3 ∷ []
    ++ set_in (1 ∷ 2 ∷ 4 ∷ []) "cpu.weight" "5"
    ++ set_in (1 ∷ 2 ∷ 4 ∷ []) "memory.max" "8192"
    ++ set_in (1 ∷ 2 ∷ 4 ∷ []) "pids.max" "3"
    ++ all_succeed (control 0 1 "-memory" ∷ control 0 1 "+memory" ∷ []) ++ reads 2 "memory.max" "max\n" ∷ []
    ++ reads 2 "cpu.weight" "5\n" ∷ reads 2 "pids.max" "3\n" ∷ reads 2 "memory.current" "4096\n" ∷ []
    ++ all_succeed (setting 0 2 "memory.max" "8192" ∷ control 0 1 "-pids" ∷ control 0 1 "+pids" ∷ [])
    ++ reads 2 "pids.max" "max\n" ∷ reads 2 "cpu.weight" "5\n" ∷ reads 2 "memory.max" "8192\n" ∷ []
    ++ all_succeed (control 0 1 "-cpu" ∷ control 0 1 "+cpu" ∷ [])
    ++ reads 2 "cpu.weight" "100\n" ∷ reads 2 "memory.max" "8192\n" ∷ []
    ++ reads_in (1 ∷ 4 ∷ []) "cpu.weight" "5\n"
    ++ reads_in (1 ∷ 4 ∷ []) "memory.max" "8192\n"
    ++ reads_in (1 ∷ 4 ∷ []) "pids.max" "3\n")

-- Order 2: the odd bytes of memory.max are dropped, and what is left is the limit that charges meet; below one page nothing is
-- left. "0 to 4503599627370496" is asked of the figure as written: above it is 34, though rounded it may be the top figure.
abbrev pub rounded_down : Evening
rounded_down =
    evening 8
    (all_succeed (make 0 0 1 ∷ control 0 0 "+memory" ∷ admit 5 0 ∷ procs 0 1 "5" ∷ [])
    ++ becomes "4503599627370496" "4503599627370496\n" ++ becomes "4503599627370495" "4503599627366400\n"
    ++ all_get 34 (map (setting 0 1 "memory.max") ("4503599627370497" ∷ "4503599627374591" ∷ "4503599627374592" ∷ []))
    ++ reads 1 "memory.max" "4503599627366400\n" ∷ refuses (setting 0 1 "memory.max" "18446744073709551616") 34 ∷ []
    ++ becomes "1" "0\n" ++ stopped (charge 5 1) 12 1 1 ∷ []
    ++ becomes "4095" "0\n" ++ stopped (charge 5 1) 12 1 1 ∷ []
    ++ becomes "4096" "4096\n" ++ stopped (charge 5 2) 12 1 1 ∷ granted (charge 5 1) 2 ∷ stopped (charge 5 1) 12 1 1 ∷ []
    ++ becomes "4097" "4096\n" ++ stopped (charge 5 1) 12 1 1 ∷ []
    ++ becomes "8191" "4096\n" ++ stopped (charge 5 1) 12 1 1 ∷ []
    ++ becomes "8192" "8192\n" ++ granted (charge 5 1) 2 ∷ stopped (charge 5 1) 12 1 1 ∷ reads 1 "memory.current" "8192\n" ∷ []
    ++ becomes "4095" "0\n" ++ reads 1 "memory.current" "8192\n" ∷ stopped (charge 5 1) 12 1 1 ∷ [])

-- The ends of the other ranges pass, and a figure beyond 64 bits is 34. "leading zeros allowed". "One word leaves the period",
-- where a space follows it too, and two set it, beside "max" too.
abbrev pub setting_ranges : Evening
setting_ranges =
    evening 0
    (all_succeed (make 0 0 1 ∷ control 0 0 all_controllers ∷ setting 0 1 "pids.max" "4194304" ∷ [])
    ++ all_get 34 (map (setting 0 1 "pids.max") ("4194305" ∷ "18446744073709551616" ∷ []))
    ++ reads 1 "pids.max" "4194304\n" ∷ succeeds (setting 0 1 "pids.max" "0") ∷ reads 1 "pids.max" "0\n" ∷ []
    ++ succeeds (setting 0 1 "pids.max" "max") ∷ reads 1 "pids.max" "max\n" ∷ []
    ++ all_succeed (map (setting 0 1 "cpu.max") ("1000 1000" ∷ "1000000000 1000000" ∷ "0002000 " ∷ []))
    ++ reads 1 "cpu.max" "2000 1000000\n" ∷ succeeds (setting 0 1 "cpu.max" "max") ∷ reads 1 "cpu.max" "max 1000000\n" ∷ []
    ++ succeeds (setting 0 1 "cpu.max" " max  5000") ∷ refuses (setting 0 1 "cpu.max" "3000 999") 34 ∷ []
    ++ reads 1 "cpu.max" "max 5000\n" ∷ []
    ++ succeeds (write_setting 0 1 (bytes "cpu.weight") (replicate 127 48 ++ bytes "5")) ∷ reads 1 "cpu.weight" "5\n" ∷ [])

-- A setting is written to its group alone, and leaves the others there as they are.
abbrev pub settings_apart : Evening
settings_apart =
    evening 0
    (all_succeed (make 0 0 1 ∷ make 0 0 2 ∷ make 0 1 3 ∷ control 0 0 all_controllers ∷ control 0 1 all_controllers ∷ [])
    ++ all_succeed (setting 0 1 "memory.max" "4096" ∷ setting 0 1 "pids.max" "3" ∷ setting 0 1 "cpu.weight" "5" ∷ [])
    ++ all_succeed (map (setting 0 1 "cpu.max") ("2000 5000" ∷ "3000" ∷ []))
    ++ reads 1 "memory.max" "4096\n" ∷ reads 1 "pids.max" "3\n" ∷ reads 1 "cpu.weight" "5\n" ∷ []
    ++ all_succeed (setting 0 1 "cpu.weight" "6" ∷ setting 0 1 "memory.max" "max" ∷ [])
    ++ reads 1 "pids.max" "3\n" ∷ reads 1 "cpu.weight" "6\n" ∷ reads 1 "cpu.max" "3000 5000\n" ∷ []
    ++ reads_in (1 ∷ 2 ∷ 3 ∷ []) "memory.max" "max\n" ++ reads_in (2 ∷ 3 ∷ []) "pids.max" "max\n"
    ++ reads_in (2 ∷ 3 ∷ []) "cpu.weight" "100\n" ++ reads_in (2 ∷ 3 ∷ []) "cpu.max" "max 100000\n")

-- "processes 200, 3, 12 give "3\n12\n200\n", 9 bytes; an 8-byte buffer gets 28. Set of cpu and memory: "cpu memory\n", 11 bytes."
-- An empty text fits a buffer of no bytes. A membership line of 8 bytes fits 8 bytes, and not 7.
abbrev pub whole_replies : Evening
whole_replies =
    evening 0
    (all_succeed (make 0 0 3 ∷ make 0 3 7 ∷ admit 200 0 ∷ admit 3 0 ∷ admit 12 0 ∷ [])
    ++ overflows 0 "cgroup.procs" 8 ∷ fills 0 "cgroup.procs" "3\n12\n200\n" ∷ []
    ++ fills 0 "cgroup.controllers" "cpu io memory pids\n" ∷ fills 0 "cgroup.subtree_control" "" ∷ []
    ++ fills 3 "cgroup.controllers" "" ∷ fills 3 "cgroup.subtree_control" "" ∷ fills 3 "cgroup.procs" "" ∷ []
    ++ succeeds (control 0 0 "+cpu +memory") ∷ fills 0 "cgroup.subtree_control" "cpu memory\n" ∷ []
    ++ succeeds (procs 0 7 "12") ∷ exchange (membership 12 (replicate 7 1)) 28 None 0 0 (replicate 7 1) ∷ []
    ++ exchange (membership 12 (replicate 8 1)) 0 None 0 8 (bytes "0::/3/7\n") ∷ [])

-- 3 under 2 under 1; in 2 two processes, 5 and 6, and one page, which was charged while memory was off
abbrev pub standing : List Exchange
standing =
    all_succeed (make 0 0 1 ∷ make 0 1 2 ∷ make 0 2 3 ∷ admit 5 0 ∷ procs 0 2 "5" ∷ [])
    ++ granted (charge 5 1) 3 ∷ granted (fork 5 6) 3 ∷ []

-- "only where on": each file where nothing is on; in the root, where nothing is on though it has a set; and where all is on.
abbrev pub showing : Evening
showing =
    evening 8
    (standing
    ++ absent 1 resource_files ++ succeeds (control 0 0 all_controllers) ∷ absent 0 ("cgroup.events" ∷ resource_files)
    ++ succeeds (procs 0 1 "6") ∷ reads 1 "cgroup.procs" "6\n" ∷ reads 1 "cgroup.controllers" "cpu io memory pids\n" ∷ []
    ++ reads 1 "cgroup.subtree_control" "" ∷ reads 1 "cgroup.events" "populated 1\n" ∷ []
    ++ reads 1 "memory.current" "4096\n" ∷ reads 1 "pids.current" "2\n" ∷ reads 1 "cpu.weight" "100\n" ∷ []
    ++ reads 1 "cpu.max" "max 100000\n" ∷ reads 1 "io.max" "" ∷ reads 1 "memory.max" "max\n" ∷ reads 1 "pids.max" "max\n" ∷ [])

-- Each file in a group where memory alone is on, and below it, where nothing is; above it cgroup.controllers lists what is in the
-- set and what is not. cgroup.procs shows "processes of G itself"; the other counts take in all inside. A group that has pages and
-- no process is not populated.
abbrev pub showing_below : Evening
showing_below =
    evening 8
    (standing
    ++ all_succeed (control 0 0 all_controllers ∷ control 0 1 "+memory" ∷ [])
    ++ reads 1 "cgroup.procs" "" ∷ reads 1 "cgroup.subtree_control" "memory\n" ∷ reads 1 "pids.current" "2\n" ∷ []
    ++ reads_in (0 ∷ 1 ∷ []) "cgroup.controllers" "cpu io memory pids\n"
    ++ reads 2 "cgroup.procs" "5\n6\n" ∷ reads 2 "cgroup.controllers" "memory\n" ∷ reads 2 "cgroup.subtree_control" "" ∷ []
    ++ reads 2 "cgroup.events" "populated 1\n" ∷ reads 2 "memory.current" "4096\n" ∷ reads 2 "memory.max" "max\n" ∷ []
    ++ absent 2 ("pids.current" ∷ "cpu.weight" ∷ "cpu.max" ∷ "io.max" ∷ "pids.max" ∷ []) ++ absent 3 resource_files
    ++ reads 3 "cgroup.procs" "" ∷ reads 3 "cgroup.controllers" "" ∷ reads 3 "cgroup.events" "populated 0\n" ∷ []
    ++ reads 1 "cgroup.events" "populated 1\n" ∷ succeeds (exit 5) ∷ succeeds (exit 6) ∷ []
    ++ reads 1 "cgroup.events" "populated 0\n" ∷ reads 2 "cgroup.procs" "" ∷ reads 2 "memory.current" "4096\n" ∷ [])

unfoldable pub outcomes : List Evening
outcomes =
    made ∷ handed_on ∷ passed_up ∷ movers ∷ staying ∷ in_root ∷ ends ∷ far_up ∷ rooms ∷ resetting ∷ neighbours ∷ rounded_down
    ∷ setting_ranges ∷ settings_apart ∷ whole_replies ∷ showing ∷ showing_below ∷ []
