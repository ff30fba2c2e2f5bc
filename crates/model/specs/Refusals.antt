-- A second table of evenings, beside the paper's own in Worked.antt: for each call of document 01 the number of each refusal and,
-- wherever two checks can both fail, that the earlier one's number wins; who may; and the lines that are malformed. The ends of ranges
-- are order 4's, and of the numbers further out each would be in range if it were kept in 8, 10 or 32 bits. What accepted calls do, and
-- what readers see, is in Outcomes.antt. Group 9 and process 9 are never live. Assumes nothing.
use Rattle.std.specs.Prelude.{ℕ, ◌-◌, List, [], ◌∷◌, ◌++◌, map, length, replicate, None}
use Prim.Native.String.{String}
use Rattle.model.specs.Text.{bytes, space, ended}
use Rattle.model.specs.Calls.{Call, make, remove, hand_over, write_procs, write_control, write_setting, admit, fork, exit, collect, charge, release, read, membership}
use Rattle.model.specs.Worked.{Exchange, exchange, succeeds, refuses, granted, stopped, sentinels, reads, belongs, setting, control, procs, Evening, evening}

-- calls that all succeed, and calls that all get one number
abbrev pub all_succeed : List Call → List Exchange
all_succeed cs = map succeeds cs

abbrev pub all_get : ℕ → List Call → List Exchange
all_get n cs = map (λ c. refuses c n) cs

-- every controller wanted
abbrev pub all_controllers : String
all_controllers = "+cpu +io +memory +pids"

-- a text with spaces after it, n bytes in all
abbrev pub padded : ℕ → String → List ℕ
padded n text = bytes text ++ replicate (n - length (bytes text)) space

-- a reader who is refused, and whose bytes stay as they were
abbrev pub unread : ℕ → String → ℕ → Exchange
unread g file n = exchange (read g (bytes file) sentinels) n None 0 0 sentinels

abbrev pub unknown : ℕ → ℕ → Exchange
unknown p n = exchange (membership p sentinels) n None 0 0 sentinels

-- groups 2 and 3 under 1, all three user 7's; in the root process 5, user 7's, and process 6, user 8's
abbrev pub begun : List Exchange
begun = all_succeed (make 0 0 1 ∷ hand_over 0 1 7 ∷ make 7 1 2 ∷ make 7 1 3 ∷ admit 5 7 ∷ admit 6 8 ∷ [])

-- Make: 22, 2, 17, 13. The root is live, and user 0's. "Owner is the user", user 0 too, and the parent's owner stays. Neither who
-- owns a group above the parent may, nor who owns one below it. "Users are 32-bit numbers."
abbrev pub making : Evening
making =
    evening 0
    (begun
    ++ all_get 22 (make 0 256 4 ∷ make 0 256 1 ∷ make 0 9 256 ∷ make 8 1 256 ∷ make 7 257 4 ∷ make 7 1 260 ∷ [])
    ++ all_get 2 (make 0 9 1 ∷ make 0 9 9 ∷ make 8 9 4 ∷ [])
    ++ all_get 17 (make 8 1 2 ∷ make 8 0 0 ∷ make 7 1 1 ∷ [])
    ++ all_get 13 (make 8 1 4 ∷ make 7 0 4 ∷ [])
    ++ all_succeed (make 0 1 255 ∷ make 7 1 4 ∷ [])
    ++ all_get 13 (make 7 255 5 ∷ [])
    ++ all_succeed (hand_over 0 255 8 ∷ [])
    ++ all_get 13 (make 7 255 5 ∷ make 8 1 5 ∷ [])
    ++ all_succeed (make 8 255 5 ∷ hand_over 0 5 4294967295 ∷ make 4294967295 5 6 ∷ make 4294967295 6 7 ∷ [])
    ++ all_get 13 (map (λ user. make user 1 8) (65543 ∷ 2147483655 ∷ 65536 ∷ 2147483648 ∷ [])))

-- groups one below the other, and a chain of as many as there can be: 240 at depth 1 to 255 at depth 16
abbrev pub descent : ℕ → List ℕ → List Call
descent above [] = []
descent above (g ∷ gs) = make 0 above g ∷ descent g gs

abbrev pub deep_chain : List ℕ
deep_chain = 240 ∷ 241 ∷ 242 ∷ 243 ∷ 244 ∷ 245 ∷ 246 ∷ 247 ∷ 248 ∷ 249 ∷ 250 ∷ 251 ∷ 252 ∷ 253 ∷ 254 ∷ 255 ∷ []

-- the membership line there, the longest of a live process
abbrev pub deep_line : String
deep_line = "0::/240/241/242/243/244/245/246/247/248/249/250/251/252/253/254/255\n"

-- Make under depth 15 passes, under depth 16 is 11, and 22, 17 and 13 before 11. From depth 16 seventeen groups are consulted, and the
-- root's refusal counts as many as success. "Pages are counted everywhere", here with memory on nowhere.
abbrev pub deepening : Evening
deepening =
    evening 1
    (all_succeed (descent 0 deep_chain)
    ++ all_get 22 (make 0 255 256 ∷ [])
    ++ all_get 17 (make 0 255 240 ∷ [])
    ++ all_get 13 (make 7 255 9 ∷ [])
    ++ all_get 11 (make 0 255 9 ∷ [])
    ++ all_succeed (admit 5 7 ∷ procs 0 255 "5" ∷ [])
    ++ granted (charge 5 1) 17 ∷ stopped (charge 5 1) 12 0 17 ∷ granted (fork 5 6) 17 ∷ []
    ++ belongs 6 deep_line ∷ [])

-- Remove: 22, 2, 13, 16. To own the group alone gives nothing, and to own a group further up nothing either; the parent's owner
-- removes another's group. The root is 16 for user 0, empty or not, and 13 for others. "The number may be used again."
abbrev pub removing : Evening
removing =
    evening 0
    (refuses (remove 0 0) 16
    ∷ begun
    ++ all_succeed (procs 0 2 "5" ∷ [])
    ++ all_get 22 (remove 7 256 ∷ remove 0 258 ∷ remove 0 4294967298 ∷ [])
    ++ all_get 2 (remove 7 9 ∷ [])
    ++ all_get 13 (remove 7 1 ∷ remove 7 0 ∷ remove 8 2 ∷ [])
    ++ all_get 16 (remove 0 0 ∷ remove 0 1 ∷ remove 7 2 ∷ [])
    ++ all_succeed (exit 5 ∷ collect 5 ∷ remove 7 2 ∷ [])
    ++ all_get 2 (remove 7 2 ∷ [])
    ++ all_succeed (make 7 3 2 ∷ hand_over 0 3 0 ∷ [])
    ++ all_get 13 (remove 7 2 ∷ [])
    ++ all_succeed (remove 0 2 ∷ remove 7 3 ∷ make 7 1 2 ∷ remove 0 2 ∷ remove 0 1 ∷ []))

-- Hand over: 22, 2, 13, for the owner and the parent's owner too. To the present owner, and to user 0, it succeeds.
abbrev pub handing : Evening
handing =
    evening 0
    (begun
    ++ all_get 22 (hand_over 7 0 7 ∷ hand_over 7 256 7 ∷ hand_over 0 257 7 ∷ hand_over 0 4294967297 7 ∷ [])
    ++ all_get 2 (hand_over 7 9 7 ∷ [])
    ++ all_get 13 (hand_over 7 1 8 ∷ hand_over 7 2 8 ∷ make 8 1 4 ∷ [])
    ++ all_succeed (hand_over 0 1 7 ∷ hand_over 0 1 0 ∷ [])
    ++ all_get 13 (make 7 1 4 ∷ []))

-- cgroup.procs: 22, 2, 13, 22 of the line, 3, 13, 16. "any value": 2^32 + 5 and 2^64 + 5 are no process. "/" and ":" stand beside
-- the digits and are none. The second 13 asks for the common ancestor and for the process's user. The root's set bars nothing.
abbrev pub moving : Evening
moving =
    evening 0
    (begun
    ++ all_succeed (control 0 0 "+cpu" ∷ control 7 1 "+cpu" ∷ [])
    ++ all_get 22 (map (procs 8 256) ("x" ∷ "1025" ∷ []) ++ procs 0 258 "5" ∷ procs 0 4294967298 "5" ∷ [])
    ++ all_get 2 (map (procs 8 9) ("x" ∷ "1025" ∷ []))
    ++ all_get 13 (map (procs 8 2) ("x" ∷ "0" ∷ "9" ∷ "1025" ∷ []))
    ++ all_get 13 (write_procs 8 2 (padded 129 "5") ∷ procs 7 0 "5" ∷ [])
    ++ all_get 22 (map (procs 7 2) ("" ∷ "x" ∷ "5 6" ∷ "+5" ∷ "-1" ∷ "5\t" ∷ "5\n\n" ∷ "5\r\n" ∷ "0" ∷ "000" ∷ []))
    ++ all_get 22 (map (procs 7 2) ("5:" ∷ "/5" ∷ ":" ∷ "\n5" ∷ []))
    ++ all_get 22 (map (write_procs 7 2) (padded 129 "9" ∷ padded 129 "1025" ∷ ended (padded 128 "5") ∷ []))
    ++ all_get 3 (map (procs 7 2) ("9" ∷ "1025" ∷ "1029" ∷ "4294967301" ∷ "18446744073709551621" ∷ []))
    ++ all_get 13 (procs 7 2 "5" ∷ [])
    ++ all_succeed (procs 0 2 "5" ∷ procs 0 2 "6" ∷ [])
    ++ all_get 13 (procs 7 3 "6" ∷ procs 7 1 "6" ∷ [])
    ++ all_get 16 (procs 7 1 "5" ∷ procs 0 1 "5" ∷ [])
    ++ all_succeed (procs 7 3 " 5" ∷ write_procs 7 2 (padded 128 "0005") ∷ write_procs 7 3 (replicate 127 48 ++ bytes "5") ∷ [])
    ++ belongs 5 "0::/1/3\n" ∷ succeeds (procs 0 0 "5") ∷ [])

-- cgroup.subtree_control: 22, 2, 13, 22 of the line, 2. The owner may, and user 0; not the parent's owner. A space alone parts
-- words. 128 bytes pass, newline counted, and a longer line is 22 even where it has no words. Wanted is what a last word wants.
-- "All or nothing."
abbrev pub controlling : Evening
controlling =
    evening 0
    (begun
    ++ all_succeed (control 0 0 "+cpu +memory" ∷ hand_over 0 3 8 ∷ [])
    ++ all_get 22 (control 8 256 "x" ∷ control 0 257 "" ∷ control 0 4294967297 "" ∷ [])
    ++ all_get 2 (control 8 9 "x" ∷ [])
    ++ all_get 13 (map (control 8 1) ("x" ∷ "+pids" ∷ []))
    ++ all_get 13 (write_control 8 1 (padded 129 "") ∷ control 7 3 "" ∷ control 7 0 "" ∷ [])
    ++ all_get 22 (map (control 7 1) ("+pids x" ∷ "+cpu x" ∷ "+" ∷ "-" ∷ "cpu" ∷ "*cpu" ∷ "++cpu" ∷ "+cpu+memory" ∷ "+CPU" ∷ []))
    ++ all_get 22 (map (control 7 1) ("-disk" ∷ "+cpu\t+memory" ∷ "+cpu,+memory" ∷ "\n+cpu" ∷ "\n\n" ∷ []))
    ++ all_get 22 (map (write_control 7 1) (padded 129 "" ∷ padded 129 "+pids" ∷ ended (padded 128 "") ∷ []))
    ++ all_get 22 (write_control 7 1 (bytes "+cpu" ++ 0 ∷ []) ∷ [])
    ++ all_succeed (map (write_control 7 1) (padded 128 "" ∷ ended (padded 127 "") ∷ []))
    ++ all_succeed (map (control 7 1) ("" ∷ "\n" ∷ "-pids" ∷ "+pids -pids" ∷ []))
    ++ all_get 2 (control 7 1 "-pids +pids" ∷ control 7 2 "+cpu" ∷ control 7 2 "+memory" ∷ [])
    ++ reads 1 "cgroup.subtree_control" "" ∷ succeeds (control 7 1 "  +memory  +cpu\n") ∷ []
    ++ refuses (control 7 1 "-memory +pids") 2 ∷ reads 1 "cgroup.subtree_control" "cpu memory\n" ∷ []
    ++ succeeds (control 0 1 "-memory -cpu +cpu -cpu +memory") ∷ reads 1 "cgroup.subtree_control" "memory\n" ∷ [])

-- 2 before either 16. Only a process in the group itself bars, and only what joins; in the root it bars nothing.
abbrev pub occupied : Evening
occupied =
    evening 0
    (begun
    ++ all_succeed (control 0 0 "+cpu +memory" ∷ control 7 1 "+cpu" ∷ control 7 2 "+cpu" ∷ procs 0 3 "5" ∷ [])
    ++ all_get 2 (control 7 1 "-cpu +pids" ∷ control 7 3 "+cpu +pids" ∷ [])
    ++ all_get 16 (control 7 1 "-cpu" ∷ control 7 3 "+cpu" ∷ [])
    ++ all_succeed (map (control 7 3) ("" ∷ "-cpu" ∷ "+cpu -cpu" ∷ []))
    ++ all_succeed (control 7 1 "+memory" ∷ control 0 0 "+pids" ∷ []))

-- Either 16, and that of cgroup.procs, for each controller; 13 and 22 come before. What no child has in its set may leave, and a
-- group that has a set and no child takes no process.
abbrev pub holding : Evening
holding =
    evening 0
    (begun
    ++ all_succeed (map (λ g. control 0 g all_controllers) (0 ∷ 1 ∷ 2 ∷ []) ++ procs 0 3 "5" ∷ [])
    ++ all_get 13 (control 8 1 "-cpu" ∷ control 8 3 "+cpu" ∷ [])
    ++ all_get 22 (map (write_control 7 1) (bytes "-cpu x" ∷ padded 129 "-cpu" ∷ []))
    ++ all_get 22 (map (write_control 7 3) (bytes "+cpu x" ∷ padded 129 "+cpu" ∷ []))
    ++ all_get 16 (map (control 7 1) ("-cpu" ∷ "-io" ∷ "-memory" ∷ "-pids" ∷ []))
    ++ all_get 16 (map (control 7 3) ("+cpu" ∷ "+io" ∷ "+memory" ∷ "+pids" ∷ []))
    ++ succeeds (control 7 2 "-cpu -pids -io") ∷ refuses (procs 7 2 "5") 16 ∷ succeeds (control 7 1 "-cpu") ∷ []
    ++ succeeds (control 7 2 "-memory +io") ∷ refuses (procs 7 2 "5") 16 ∷ succeeds (control 7 2 "-io") ∷ []
    ++ succeeds (control 7 2 "+pids") ∷ refuses (procs 7 2 "5") 16 ∷ []
    ++ succeeds (control 7 2 "-pids") ∷ succeeds (procs 7 2 "5") ∷ [])

-- A setting: 22, 2, 2, 13, 22, 34. Nothing is on in the root. The parent's owner may, and user 0; to own the group alone gives
-- nothing, and to own a group further up nothing either. "22 malformed (any word of it)".
abbrev pub setting_forms : Evening
setting_forms =
    evening 0
    (begun
    ++ all_succeed (control 0 0 "+cpu +memory" ∷ control 7 1 "+cpu" ∷ hand_over 0 2 8 ∷ make 8 2 4 ∷ control 8 2 "+cpu" ∷ [])
    ++ all_get 22 (setting 8 256 "cpu" "x" ∷ setting 0 258 "cpu.weight" "1" ∷ setting 0 4294967298 "cpu.weight" "1" ∷ [])
    ++ all_get 2 (setting 8 9 "cpu.max" "x" ∷ setting 8 2 "memory.max" "x" ∷ setting 0 0 "cpu.weight" "100" ∷ [])
    ++ all_get 2 (map (λ file. setting 8 1 file "x") ("cpu" ∷ "memory.current" ∷ "cpu.maxx" ∷ "cpu.max\n" ∷ "CPU.MAX" ∷ "" ∷ []))
    ++ all_get 13 (map (setting 8 2 "cpu.max") ("x" ∷ "5" ∷ []))
    ++ all_get 13 (write_setting 8 2 (bytes "cpu.max") (padded 129 "max") ∷ [])
    ++ all_get 13 (setting 7 1 "memory.max" "max" ∷ setting 7 4 "cpu.weight" "1" ∷ [])
    ++ all_succeed (map (λ user. setting user 2 "cpu.weight" "1") (7 ∷ 0 ∷ []))
    ++ all_get 22 (map (setting 7 2 "cpu.max") ("" ∷ "5 x" ∷ "x 5" ∷ "5 max" ∷ "5 5 5" ∷ []))
    ++ all_get 22 (map (setting 7 2 "cpu.max") ("Max" ∷ "maxx" ∷ "ma" ∷ "0x10" ∷ "1e3" ∷ []))
    ++ all_get 22 (map (setting 7 2 "cpu.weight") ("" ∷ "max" ∷ "0 0" ∷ "0 0 0" ∷ "+5" ∷ "5\t" ∷ "5\n\n" ∷ []))
    ++ all_get 22 (write_setting 7 2 (bytes "cpu.max") (padded 129 "5") ∷ [])
    ++ all_get 34 (map (setting 7 2 "cpu.max") ("5 5" ∷ "999" ∷ "1000000001" ∷ "1000 999" ∷ "max 1000001" ∷ [])))

-- memory.max and pids.max take one word, "max" or a number word.
abbrev pub limit_forms : Evening
limit_forms =
    evening 0
    (all_succeed (make 0 0 1 ∷ control 0 0 "+memory +pids" ∷ [])
    ++ all_get 22 (map (setting 0 1 "memory.max") ("" ∷ "x" ∷ "1 2" ∷ "1 2 3" ∷ "max max" ∷ "5:" ∷ "/5" ∷ "+5" ∷ "4K" ∷ []))
    ++ all_get 22 (map (setting 0 1 "pids.max") ("" ∷ "x" ∷ "1 2" ∷ "1 2 3" ∷ "max max" ∷ "5:" ∷ "/5" ∷ "-1" ∷ []))
    ++ all_succeed (map (λ file. setting 0 1 file "max") ("memory.max" ∷ "pids.max" ∷ [])))

-- Admit: 22, 17; "It starts in the root". Fork: 3, 22, 17, 11, where a parent out of range is 3; "Same group and user". Exit: 3.
abbrev pub births : Evening
births =
    evening 0
    (begun
    ++ all_get 22 (admit 0 7 ∷ admit 1025 7 ∷ admit 1026 7 ∷ admit 4294967304 7 ∷ [])
    ++ all_get 17 (admit 5 8 ∷ [])
    ++ succeeds (admit 1024 0) ∷ belongs 1024 "0::/\n" ∷ granted (fork 5 4) 1 ∷ []
    ++ all_succeed (control 0 0 "+pids" ∷ setting 0 1 "pids.max" "0" ∷ procs 0 2 "5" ∷ [])
    ++ all_get 3 (fork 0 1025 ∷ fork 1025 0 ∷ fork 1029 8 ∷ fork 4294967301 8 ∷ fork 9 0 ∷ fork 9 5 ∷ [])
    ++ all_get 22 (fork 5 0 ∷ fork 5 1025 ∷ fork 5 1032 ∷ fork 5 4294967304 ∷ [])
    ++ all_get 17 (fork 5 5 ∷ fork 5 6 ∷ [])
    ++ stopped (fork 5 7) 11 1 2 ∷ succeeds (setting 0 1 "pids.max" "2") ∷ granted (fork 5 7) 3 ∷ []
    ++ stopped (fork 5 8) 11 1 2 ∷ succeeds (procs 7 3 "7") ∷ belongs 7 "0::/1/3\n" ∷ []
    ++ all_get 3 (exit 0 ∷ exit 9 ∷ exit 1025 ∷ exit 1029 ∷ exit 4294967301 ∷ [])
    ++ succeeds (exit 7) ∷ refuses (exit 7) 3 ∷ succeeds (collect 7) ∷ succeeds (admit 7 0) ∷ [])

-- Charge: 3, 22, 12, where a process out of range is 3. A machine of no pages refuses every charge.
abbrev pub charging : Evening
charging =
    evening 0
    (begun
    ++ all_get 3 (charge 0 0 ∷ charge 1025 0 ∷ charge 1029 1 ∷ charge 4294967301 1 ∷ charge 9 1048577 ∷ [])
    ++ all_get 22 (charge 5 0 ∷ charge 5 1048577 ∷ [])
    ++ stopped (charge 5 1) 12 0 1 ∷ [])

-- The count takes in groups where memory is off. Release: 22, 2, 34, whoever asks.
abbrev pub releasing : Evening
releasing =
    evening 1048576
    (begun
    ++ all_succeed (control 0 0 "+memory" ∷ procs 0 2 "5" ∷ setting 0 1 "memory.max" "0" ∷ [])
    ++ stopped (charge 5 1) 12 1 2 ∷ succeeds (setting 0 1 "memory.max" "max") ∷ granted (charge 5 1048576) 3 ∷ []
    ++ stopped (charge 5 1) 12 0 3 ∷ stopped (charge 6 1) 12 0 1 ∷ []
    ++ all_get 22 (release 256 1 ∷ release 258 1 ∷ release 4294967298 1 ∷ release 9 0 ∷ release 9 1048577 ∷ release 1 1048577 ∷ [])
    ++ all_get 2 (release 9 1 ∷ [])
    ++ all_get 34 (release 1 1 ∷ [])
    ++ succeeds (release 2 1048576) ∷ refuses (release 2 1) 34 ∷ [])

-- Read: 22, 2, 2, 28; membership line: 3, 28; the buffer stays. A file's name is exact.
abbrev pub reading : Evening
reading =
    evening 0
    (all_succeed (make 0 0 1 ∷ admit 200 0 ∷ admit 3 0 ∷ admit 12 0 ∷ [])
    ++ unread 256 "cgroup" 22 ∷ unread 256 "cgroup.events" 22 ∷ unread 257 "cgroup.events" 22 ∷ unread 4294967297 "cgroup.events" 22 ∷ unread 9 "cgroup.events" 2 ∷ []
    ++ unread 0 "cgroup.events" 2 ∷ unread 1 "cpu.max" 2 ∷ unread 0 "cgroup.procs" 28 ∷ []
    ++ map (λ file. unread 1 file 2) ("cgroup" ∷ "cgroup.procsx" ∷ "cgroup.procs\n" ∷ "CGROUP.PROCS" ∷ "" ∷ [])
    ++ unknown 0 3 ∷ unknown 9 3 ∷ unknown 1025 3 ∷ unknown 1036 3 ∷ unknown 4294967308 3 ∷ unknown 12 28 ∷ [])

unfoldable pub refusals : List Evening
refusals =
    making ∷ deepening ∷ removing ∷ handing ∷ moving ∷ controlling ∷ occupied ∷ holding ∷ setting_forms ∷ limit_forms
    ∷ births ∷ charging ∷ releasing ∷ reading ∷ []
