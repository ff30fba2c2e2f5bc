-- The sizes of document 01, "What the host keeps" and "Lines", and of orders 1, 4 and 5, each named once. Assumes nothing.
use Rattle.std.specs.Prelude.{ℕ}

-- order 4: group numbers are below this: "Groups go to 0 to 255"
abbrev pub groups : ℕ
groups = 256

-- process numbers are above 0 and below this: "processes to 1 to 1024"
abbrev pub processes : ℕ
processes = 1025

-- "A child's depth is its parent's plus one", at most this: "depth to 16"
abbrev pub deepest : ℕ
deepest = 16

-- "the longest cgroup.procs reply becomes 4,013 bytes"
abbrev pub longest_listing : ℕ
longest_listing = 4013

-- and no membership line of a live process is longer: "0::", for each level a "/" and a number, and a newline
abbrev pub longest_live_membership : ℕ
longest_live_membership = 68

-- nor any other: with order 5's " (deleted)"
abbrev pub longest_membership : ℕ
longest_membership = 78

-- "pages of 4,096 bytes"
abbrev pub page_bytes : ℕ
page_bytes = 4096

-- "0 to 2^40 pages, a larger figure counts as 2^40"
abbrev pub largest_machine : ℕ
largest_machine = 1099511627776

-- the pages of one charge or release: "1 to 1048576"
abbrev pub largest_charge : ℕ
largest_charge = 1048576

-- "At most 128 bytes, newline counted"
abbrev pub longest_line : ℕ
longest_line = 128

-- order 1: both numbers of a device are below this: "each 0 to 255"
abbrev pub device_numbers : ℕ
device_numbers = 256

-- "each 1 to 4503599627370496"
abbrev pub largest_rate : ℕ
largest_rate = 4503599627370496

-- "A group holds four devices"
abbrev pub most_devices : ℕ
most_devices = 4

-- no settings file shows a longer line, newline counted
abbrev pub longest_shown : ℕ
longest_shown = 98
