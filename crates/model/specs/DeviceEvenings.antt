-- A fourth table of evenings, of io.max: the example of order 1; the number of each refusal, and that the earlier of two wins; the
-- ends of its ranges; what a line changes and leaves; room; and the table when io leaves. Assumes nothing.
use Rattle.std.specs.Prelude.{ℕ, List, [], ◌∷◌, ◌++◌, map, drop, replicate, None}
use Prim.Native.String.{String}
use Rattle.model.specs.Text.{bytes}
use Rattle.model.specs.Calls.{Call, make, remove, hand_over, write_setting, admit, fork, charge, release, read}
use Rattle.model.specs.Worked.{Exchange, exchange, succeeds, refuses, granted, reads, setting, control, procs, Evening, evening}
use Rattle.model.specs.Refusals.{all_succeed, all_get, all_controllers, padded, unread, begun}
use Rattle.model.specs.Outcomes.{fills, overflows}

-- user 0 writes io.max of group 1
abbrev pub limits : String → Call
limits line = setting 0 1 "io.max" line

abbrev pub started : List Exchange
started = all_succeed (make 0 0 1 ∷ control 0 0 "+io" ∷ [])

-- "8:16 rbps=2097152 wbps=max riops=max wiops=120", written whole, and in pairs in another order. A key that is not given keeps
-- what it had, and "no pair is no change".
abbrev pub device_line : Evening
device_line =
    evening 0
    (started ++ fills 1 "io.max" "" ∷ []
    ++ succeeds (limits "8:16 rbps=2097152 wbps=max riops=max wiops=120\n") ∷ []
    ++ reads 1 "io.max" "8:16 rbps=2097152 wbps=max riops=max wiops=120\n" ∷ []
    ++ succeeds (limits "8:16 wiops=max") ∷ reads 1 "io.max" "8:16 rbps=2097152 wbps=max riops=max wiops=max\n" ∷ []
    ++ succeeds (limits "8:16 wbps=4 riops=3") ∷ reads 1 "io.max" "8:16 rbps=2097152 wbps=4 riops=3 wiops=max\n" ∷ []
    ++ all_succeed (limits "8:16" ∷ limits "8:16\n" ∷ limits " 8:16  " ∷ limits "8:17" ∷ [])
    ++ reads 1 "io.max" "8:16 rbps=2097152 wbps=4 riops=3 wiops=max\n" ∷ []
    ++ succeeds (limits "8:16 riops=max rbps=max wbps=max") ∷ fills 1 "io.max" "" ∷ []
    ++ succeeds (limits "8:16  wiops=120   rbps=2097152 ") ∷ []
    ++ reads 1 "io.max" "8:16 rbps=2097152 wbps=max riops=max wiops=120\n" ∷ [])

-- 2 where io is off, 13, then 22 over the whole line. A device is one word of two numbers, a pair one word of a key and a value, and
-- a second device is no pair; a key twice is 22 with the same value too.
abbrev pub device_forms : Evening
device_forms =
    evening 0
    (begun
    ++ all_succeed (control 0 0 "+io" ∷ hand_over 0 1 8 ∷ [])
    ++ all_get 2 (setting 8 2 "io.max" "x" ∷ setting 0 0 "io.max" "8:16" ∷ setting 0 1 "io.maxx" "8:16" ∷ setting 0 1 "io" "8:16" ∷ [])
    ++ all_get 13 (map (setting 8 1 "io.max") ("x" ∷ "256:0" ∷ "8:16" ∷ []))
    ++ all_get 22 (map limits ("" ∷ "\n" ∷ " " ∷ "8" ∷ "8:" ∷ ":16" ∷ ":" ∷ "8:16:1" ∷ "8 :16" ∷ "8: 16" ∷ "x:16" ∷ "8:-1" ∷ "8:max" ∷ []))
    ++ all_get 22 (map limits ("max" ∷ "rbps=1" ∷ "8:16,rbps=1" ∷ "8=16 rbps=1" ∷ "8:16 rbps" ∷ "8:16 rbps=" ∷ "8:16 rbps=1=2" ∷ []))
    ++ all_get 22 (map limits ("8:16 =1" ∷ "8:16 =" ∷ "8:16 rbps = 1" ∷ "8:16 rbps:1" ∷ "8:16 rbps=+1" ∷ "8:16 rbps=1k" ∷ []))
    ++ all_get 22 (map limits ("8:16 Rbps=1" ∷ "8:16 rbp=1" ∷ "8:16 rbpss=1" ∷ "8:16 iops=1" ∷ "8:16 rbps=Max" ∷ "8:16 rbps=maxx" ∷ []))
    ++ all_get 22 (map limits ("8:16\trbps=1" ∷ "8:16\n\n" ∷ "\n8:16" ∷ "8:16 rbps=1\nwbps=1" ∷ []))
    ++ all_get 22 (map limits ("8:16 8:17" ∷ "8:16 rbps=1 8:17" ∷ "8:16 rbps=1\n8:17 rbps=1\n" ∷ []))
    ++ all_get 22 (map limits ("8:16 rbps=1 rbps=1" ∷ "8:16 wiops=max wbps=2 wiops=max" ∷ "8:16 rbps=1 riops=2 wbps=3 riops=2" ∷ []))
    ++ all_get 22 (map limits ("8:16 wbps=2 wbps=2" ∷ "8:16 rbps=1 wbps=2 riops=3 wiops=4 rbps=1" ∷ "8:16 rbps=1 wbps=2 riops=3 wiops=4 x" ∷ []))
    ++ all_get 22 (map limits ("8:16 rbps=1 rbps=max" ∷ "8:16 rbps=max rbps=1" ∷ "8:16 rbps=1 rbps=x" ∷ "8:16 iops=max" ∷ "8:16 xriops=1" ∷ []))
    ++ all_get 22 (map limits ("8:16 rbps=1 iops=2" ∷ "8:16 wiops=1 rbps=x" ∷ []))
    ++ all_get 22 (map limits ("rbps=1 8:16" ∷ "8:16 max" ∷ "max:16" ∷ "8.16" ∷ "8 rbps=1 wbps=1 riops=1 wiops=1" ∷ ":16 rbps=1 wbps=1 riops=1 wiops=1" ∷ []))
    ++ all_get 22 (map (write_setting 0 1 (bytes "io.max")) (padded 129 "8:16" ∷ padded 129 "256:0" ∷ []))
    ++ fills 1 "io.max" "" ∷ [])

-- The ranges, "34 outside their range", of the device too, after 22 of any word; the ends pass. A figure may have any length.
abbrev pub device_ranges : Evening
device_ranges =
    evening 0
    (started
    ++ all_get 22 (map limits ("256:0 rbps=x" ∷ "256:x" ∷ "8:16 rbps=0 rbps=1" ∷ "8:16 rbps=0 x" ∷ "8:16 rbps=1 wiops=0 8:17" ∷ "256:" ∷ []))
    ++ all_get 34 (map limits ("256:0" ∷ "0:256" ∷ "18446744073709551624:16" ∷ "8:18446744073709551632" ∷ "8:16 rbps=0" ∷ []))
    ++ all_get 34 (map limits ("8:16 wbps=0" ∷ "8:16 riops=0" ∷ "8:16 wiops=0" ∷ "8:16 rbps=max wbps=1 riops=000" ∷ "256:0 rbps=max" ∷ []))
    ++ all_get 34 (map limits ("8:16 rbps=4503599627370497" ∷ "8:16 wbps=max wiops=4503599627370497" ∷ "8:16 riops=18446744073709551617" ∷ []))
    ++ all_get 34 (map limits ("8:16 wbps=4503599627370497" ∷ "8:16 riops=4503599627370497" ∷ []))
    ++ all_get 34 (write_setting 0 1 (bytes "io.max") (bytes "8:16 wbps=" ++ replicate 118 57) ∷ [])
    ++ fills 1 "io.max" "" ∷ []
    ++ succeeds (write_setting 0 1 (bytes "io.max") (padded 128 "08:0016 rbps=0001 wbps=4503599627370496 riops=04503599627370496")) ∷ []
    ++ reads 1 "io.max" "8:16 rbps=1 wbps=4503599627370496 riops=4503599627370496 wiops=max\n" ∷ []
    ++ all_succeed (limits "0:0 wiops=1" ∷ limits "255:255 riops=4503599627370496" ∷ limits "8:16 rbps=max wbps=max riops=max" ∷ [])
    ++ reads 1 "io.max" "0:0 rbps=max wbps=max riops=max wiops=1\n255:255 rbps=max wbps=max riops=4503599627370496 wiops=max\n" ∷ [])

-- "A group holds four devices; a fifth, unless all "max", is 28, tested last". No pair, and all "max", is no fifth; a held device is none
-- either. "room is free again once a device's line is all "max"". "devices ascending", by major and then by minor, as numbers.
abbrev pub device_room : Evening
device_room =
    evening 0
    (started
    ++ all_succeed (map limits ("10:0 rbps=5" ∷ "8:16 riops=7" ∷ "8:2 wbps=6" ∷ "255:255 wiops=8" ∷ []))
    ++ all_get 28 (map limits ("9:0 rbps=1" ∷ "0:0 rbps=max wiops=1" ∷ "8:3 riops=1" ∷ "255:254 wbps=1" ∷ []))
    ++ all_get 34 (map limits ("9:0 rbps=0" ∷ "9:256 rbps=1" ∷ "9:0 rbps=1 wiops=4503599627370497" ∷ []))
    ++ all_get 22 (map limits ("9:0 rbps=1 rbps=1" ∷ "9:0 rbps=1 x" ∷ []))
    ++ all_get 22 (write_setting 0 1 (bytes "io.max") (padded 129 "9:0 rbps=1") ∷ []) ++ all_get 13 (setting 8 1 "io.max" "9:0 rbps=1" ∷ [])
    ++ all_succeed (map limits ("9:0" ∷ "8:2" ∷ "9:0 rbps=max wiops=max" ∷ "8:2 wiops=9" ∷ "255:255 wiops=8 rbps=max" ∷ []))
    ++ reads 1 "io.max"
    "8:2 rbps=max wbps=6 riops=max wiops=9\n8:16 rbps=max wbps=max riops=7 wiops=max\n10:0 rbps=5 wbps=max riops=max wiops=max\n255:255 rbps=max wbps=max riops=max wiops=8\n" ∷ []
    ++ succeeds (limits "8:16 riops=max") ∷ succeeds (limits "9:0 rbps=1") ∷ refuses (limits "8:16 rbps=1") 28 ∷ []
    ++ all_succeed (map limits ("255:255 wiops=max" ∷ "8:2 wbps=max" ∷ "8:2 wiops=max" ∷ "0:0 riops=2" ∷ []))
    ++ reads 1 "io.max"
    "0:0 rbps=max wbps=max riops=2 wiops=max\n9:0 rbps=1 wbps=max riops=max wiops=max\n10:0 rbps=5 wbps=max riops=max wiops=max\n" ∷ [])

-- The longest line that is shown has 98 bytes, and may be written back. Four of them have 392 bytes.
abbrev pub longest_device : String
longest_device = "255:255 rbps=4503599627370496 wbps=4503599627370496 riops=4503599627370496 wiops=4503599627370496\n"

-- the same line of another device
abbrev pub longest_of : String → List ℕ
longest_of device = bytes device ++ drop 7 (bytes longest_device)

abbrev pub device_lengths : Evening
device_lengths =
    evening 0
    (started ++ succeeds (limits longest_device) ∷ overflows 1 "io.max" 97 ∷ fills 1 "io.max" longest_device ∷ []
    ++ succeeds (limits longest_device) ∷ fills 1 "io.max" longest_device ∷ []
    ++ all_succeed (map (λ d. write_setting 0 1 (bytes "io.max") (longest_of d)) ("255:252" ∷ "255:253" ∷ "255:254" ∷ []))
    ++ overflows 1 "io.max" 391
    ∷ exchange (read 1 (bytes "io.max") (replicate 392 0)) 0 None 0 392
    (longest_of "255:252" ++ (longest_of "255:253" ++ (longest_of "255:254" ++ longest_of "255:255"))) ∷ [])

-- "A controller that leaves resets its settings in all children": io.max too, and no other controller's; "-io +io" is no leaving. A
-- table is its group's alone, and a new group has none.
abbrev pub device_resets : Evening
device_resets =
    evening 0
    (all_succeed (make 0 0 1 ∷ make 0 1 2 ∷ make 0 0 3 ∷ control 0 0 "+io +cpu +memory" ∷ control 0 1 "+io" ∷ [])
    ++ all_succeed (limits "0:0 rbps=1" ∷ setting 0 1 "cpu.weight" "5" ∷ setting 0 1 "memory.max" "4096" ∷ [])
    ++ fills 2 "io.max" "" ∷ fills 3 "io.max" "" ∷ []
    ++ all_succeed (setting 0 2 "io.max" "8:2 wbps=3" ∷ setting 0 3 "io.max" "8:3 wbps=4" ∷ [])
    ++ all_succeed (control 0 0 "-io +io -cpu" ∷ control 0 1 "-io" ∷ [])
    ++ unread 2 "io.max" 2 ∷ reads 1 "io.max" "0:0 rbps=1 wbps=max riops=max wiops=max\n" ∷ []
    ++ succeeds (control 0 1 "+io") ∷ fills 2 "io.max" "" ∷ reads 3 "io.max" "8:3 rbps=max wbps=4 riops=max wiops=max\n" ∷ []
    ++ all_succeed (control 0 1 "-io" ∷ control 0 0 "-io" ∷ []) ++ refuses (limits "0:0 rbps=1") 2 ∷ unread 3 "io.max" 2 ∷ []
    ++ succeeds (control 0 0 "+io") ∷ fills 1 "io.max" "" ∷ fills 3 "io.max" "" ∷ reads 1 "memory.max" "4096\n" ∷ []
    ++ all_succeed (setting 0 3 "io.max" "8:3 wbps=4" ∷ remove 0 3 ∷ make 0 0 3 ∷ []) ++ fills 3 "io.max" "" ∷ [])

-- Four devices bar no other setting; no other call, and no other controller that leaves, changes them; they change no other setting,
-- nor does io that leaves; and they take no room in a group beside or below.
abbrev pub four_devices : String
four_devices =
    "8:0 rbps=1 wbps=max riops=max wiops=max\n8:1 rbps=max wbps=2 riops=max wiops=max\n8:2 rbps=max wbps=max riops=3 wiops=max\n8:3 rbps=max wbps=max riops=max wiops=4\n"

abbrev pub devices_apart : Evening
devices_apart =
    evening 8
    (all_succeed (make 0 0 1 ∷ make 0 0 3 ∷ control 0 0 all_controllers ∷ admit 5 0 ∷ procs 0 1 "5" ∷ [])
    ++ all_succeed (map limits ("8:0 rbps=1" ∷ "8:1 wbps=2" ∷ "8:2 riops=3" ∷ "8:3 wiops=4" ∷ []))
    ++ all_succeed (setting 0 1 "cpu.weight" "5" ∷ setting 0 1 "cpu.max" "2000 5000" ∷ setting 0 1 "cpu.max" "3000" ∷ [])
    ++ all_succeed (setting 0 1 "memory.max" "8192" ∷ setting 0 1 "pids.max" "3" ∷ [])
    ++ granted (charge 5 2) 2 ∷ granted (fork 5 6) 2 ∷ succeeds (release 1 1) ∷ succeeds (hand_over 0 1 7) ∷ reads 1 "io.max" four_devices ∷ []
    ++ all_succeed (limits "8:0 rbps=max" ∷ limits "8:0 rbps=1" ∷ [])
    ++ reads 1 "cpu.weight" "5\n" ∷ reads 1 "cpu.max" "3000 5000\n" ∷ reads 1 "memory.max" "8192\n" ∷ reads 1 "pids.max" "3\n" ∷ []
    ++ all_succeed (setting 0 3 "io.max" "9:0 rbps=1" ∷ procs 0 0 "5" ∷ procs 0 0 "6" ∷ control 0 1 "+io" ∷ make 0 1 2 ∷ [])
    ++ fills 2 "io.max" "" ∷ succeeds (setting 0 2 "io.max" "9:0 rbps=1") ∷ []
    ++ all_succeed (control 0 0 "-memory -pids" ∷ []) ++ reads 1 "io.max" four_devices ∷ []
    ++ all_succeed (control 0 1 "-io" ∷ control 0 0 "-io" ∷ []) ++ reads 1 "cpu.weight" "5\n" ∷ reads 1 "cpu.max" "3000 5000\n" ∷ [])

-- io is a controller as the others are: wanted and not available, held by a child, and joining where a process is.
abbrev pub io_controls : Evening
io_controls =
    evening 0
    (begun
    ++ all_get 22 (map (control 7 1) ("+IO" ∷ "+i" ∷ "+io.max" ∷ "io" ∷ []))
    ++ all_get 2 (control 7 1 "+io" ∷ [])
    ++ all_succeed (control 0 0 "+pids +io" ∷ []) ++ reads 0 "cgroup.subtree_control" "io pids\n" ∷ []
    ++ reads 1 "cgroup.controllers" "io pids\n" ∷ reads 0 "cgroup.controllers" "cpu io memory pids\n" ∷ []
    ++ all_succeed (control 7 1 "+io" ∷ control 7 2 "+io" ∷ procs 0 3 "5" ∷ setting 7 3 "io.max" "8:16 rbps=1" ∷ [])
    ++ all_get 16 (control 0 0 "-io" ∷ control 7 1 "-io" ∷ control 7 3 "+io" ∷ procs 7 2 "5" ∷ [])
    ++ all_succeed (control 7 2 "-io" ∷ procs 7 2 "5" ∷ control 7 1 "-io" ∷ control 0 0 "-io" ∷ [])
    ++ reads 0 "cgroup.subtree_control" "pids\n" ∷ reads 1 "cgroup.controllers" "pids\n" ∷ [])

unfoldable pub device_evenings : List Evening
device_evenings =
    device_line ∷ device_forms ∷ device_ranges ∷ device_room ∷ device_lengths ∷ device_resets ∷ devices_apart ∷ io_controls ∷ []
