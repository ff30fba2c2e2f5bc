-- The calls, with their arguments as they arrive, and the checks of each in the paper's order: document 01, "Calls and the
-- order of their checks" and "What a reader sees", and orders 1 and 5. A line of the paper with "either" or "or" is two entries with one
-- number. Assumes nothing.
use Rattle.std.specs.Prelude.{ℕ, not, ◌&&◌, List, [], ◌∷◌, ◌++◌, eqb, leb, ltb, Option, Some, None}
use Rattle.model.specs.Functions.{known, passes, or_else, mapped}
use Rattle.model.specs.Sizes.{deepest, largest_charge}
use Rattle.model.specs.Checks.{Check, bar, need, first, Answer}
use Rattle.model.specs.Tree.{Tree, is_live, lives, parents, depths, sets, settings_at, places, zombies}
use Rattle.model.specs.Hierarchy.{on, Facts, facts_of}
use Rattle.model.specs.Zombies.{is_zombie, group_taken, process_taken}
use Rattle.model.specs.Text.{too_long, line_words}
use Rattle.model.specs.Names.{setting_named, file_named}
use Rattle.model.specs.Control.{asked, is_wanted, has_bad_word, any_controller}
use Rattle.model.specs.Settings.{setting_controller, value_of, in_range, has_room}
use Rattle.model.specs.Rooms.{room_for, is_full, shortage}
use Rattle.model.specs.Rules.{no_group_number, no_process_number, may_write, available, process_group, has_child, has_process, held_by_child, number_line, line_process, may_move, joining, leaving}
use Rattle.model.specs.Files.{is_present, contents, membership_line, fits}
use Rattle.model.specs.declared.Resource.{Resource}
use Rattle.model.specs.declared.Resource.TheVariants.{Pages, Processes}
use Rattle.model.specs.declared.Setting.{Setting}
use Rattle.model.specs.declared.SettingValue.{SettingValue}
use Rattle.model.specs.declared.Errno.TheVariants.{Enoent, Esrch, Eagain, Eacces, Ebusy, Eexist, Einval, Enospc, Erange}

-- Lines, file names and reply buffers are bytes of any content and length.
pub data Call : Type 0 where
  make : (user parent new : ℕ) → Call
  remove : (user g : ℕ) → Call
  hand_over : (user g owner : ℕ) → Call
  write_procs : (user g : ℕ) (line : List ℕ) → Call
  write_control : (user g : ℕ) (line : List ℕ) → Call
  write_setting : (user g : ℕ) (file line : List ℕ) → Call
  admit : (p user : ℕ) → Call
  fork : (parent new : ℕ) → Call
  exit : (p : ℕ) → Call
  collect : (p : ℕ) → Call
  charge : (p n : ℕ) → Call
  release : (g n : ℕ) → Call
  read : (g : ℕ) (file buffer : List ℕ) → Call
  membership : (p : ℕ) (buffer : List ℕ) → Call

-- the value that a line gives the setting of that name
abbrev pub setting_value : Option Setting → List ℕ → Option SettingValue
setting_value None line = None
setting_value (Some s) line = value_of s (line_words line)

abbrev pub line_value : List ℕ → List ℕ → Option SettingValue
line_value file line = setting_value (setting_named file) line

-- the text of the file of that name
abbrev pub file_text : Facts → ℕ → List ℕ → List ℕ
file_text f g file = or_else [] (mapped (contents f g) (file_named file))

-- The checks before room is asked for: what a charge or a fork may be refused for otherwise.
unfoldable pub charge_checks : Tree → ℕ → ℕ → List Check
charge_checks t p n =
    need (is_live (places t p)) Esrch
    ∷ bar (eqb n 0) Einval
    ∷ bar (ltb largest_charge n) Einval
    ∷ []

unfoldable pub fork_checks : Tree → ℕ → ℕ → List Check
fork_checks t p new =
    need (is_live (places t p)) Esrch
    ∷ bar (eqb new 0) Einval
    ∷ bar (no_process_number new) Einval
    ∷ bar (process_taken t new) Eexist
    ∷ []

-- the same of a setting, whose last check asks for room for a device
unfoldable pub setting_checks : Tree → ℕ → ℕ → List ℕ → List ℕ → List Check
setting_checks t user g file line =
    bar (no_group_number g) Einval
    ∷ need (lives t g) Enoent
    ∷ need (known (setting_named file)) Enoent
    ∷ need (passes (setting_named file) (λ s. on t (setting_controller s) g)) Enoent
    ∷ need (may_write t user (parents t g)) Eacces
    ∷ bar (too_long line) Einval
    ∷ need (known (line_value file line)) Einval
    ∷ need (passes (line_value file line) in_range) Erange
    ∷ []

-- "a fifth, unless all "max", is 28, tested last"
abbrev pub device_check : Tree → ℕ → List ℕ → List ℕ → List Check
device_check t g file line = need (passes (line_value file line) (has_room (settings_at t g))) Enospc ∷ []

-- "would pass memory.max", "would hold more live processes inside than pids.max"
abbrev pub room_check : Facts → Resource → ℕ → ℕ → List Check
room_check f r n p = bar (is_full (room_for f r n (process_group f.tree p))) (shortage r) ∷ []

unfoldable pub checks : Facts → Call → List Check
checks f (make user parent new) =
    bar (no_group_number parent) Einval
    ∷ bar (no_group_number new) Einval
    ∷ need (lives f.tree parent) Enoent
    ∷ bar (group_taken f.tree new) Eexist
    ∷ need (may_write f.tree user parent) Eacces
    ∷ bar (leb deepest (depths f.tree parent)) Eagain
    ∷ []
checks f (remove user g) =
    bar (no_group_number g) Einval
    ∷ need (lives f.tree g) Enoent
    ∷ need (may_write f.tree user (parents f.tree g)) Eacces
    ∷ bar (eqb g 0) Ebusy
    ∷ bar (has_child f.tree g) Ebusy
    ∷ bar (has_process f.tree g) Ebusy
    ∷ []
checks f (hand_over user g owner) =
    bar (eqb g 0) Einval
    ∷ bar (no_group_number g) Einval
    ∷ need (lives f.tree g) Enoent
    ∷ need (eqb user 0) Eacces
    ∷ []
checks f (write_procs user g line) =
    bar (no_group_number g) Einval
    ∷ need (lives f.tree g) Enoent
    ∷ need (may_write f.tree user g) Eacces
    ∷ bar (too_long line) Einval
    ∷ need (known (number_line line)) Einval
    ∷ bar (eqb (line_process line) 0) Einval
    ∷ bar (no_process_number (line_process line)) Esrch
    ∷ need (is_live (places f.tree (line_process line))) Esrch
    ∷ need (may_move f.tree user (line_process line) g) Eacces
    ∷ bar (not (eqb g 0) && any_controller (sets f.tree g)) Ebusy
    ∷ []
checks f (write_control user g line) =
    bar (no_group_number g) Einval
    ∷ need (lives f.tree g) Enoent
    ∷ need (may_write f.tree user g) Eacces
    ∷ bar (too_long line) Einval
    ∷ bar (has_bad_word line) Einval
    ∷ bar (any_controller (λ c. is_wanted (asked line c) && not (available f.tree c g))) Enoent
    ∷ bar (any_controller (λ c. leaving f.tree g line c && held_by_child f.tree g c)) Ebusy
    ∷ bar (not (eqb g 0) && (has_process f.tree g && any_controller (joining f.tree g line))) Ebusy
    ∷ []
checks f (write_setting user g file line) = setting_checks f.tree user g file line ++ device_check f.tree g file line
checks f (admit p user) =
    bar (eqb p 0) Einval
    ∷ bar (no_process_number p) Einval
    ∷ bar (process_taken f.tree p) Eexist
    ∷ []
checks f (fork p new) = fork_checks f.tree p new ++ room_check f Processes 1 p
checks f (exit p) =
    need (is_live (places f.tree p)) Esrch
    ∷ []
checks f (collect p) =
    need (is_zombie (zombies f.tree p)) Esrch
    ∷ []
checks f (charge p n) = charge_checks f.tree p n ++ room_check f Pages n p
checks f (release g n) =
    bar (no_group_number g) Einval
    ∷ bar (eqb n 0) Einval
    ∷ bar (ltb largest_charge n) Einval
    ∷ need (lives f.tree g) Enoent
    ∷ bar (ltb (f.tree.group g).core.own n) Erange
    ∷ []
checks f (read g file buffer) =
    bar (no_group_number g) Einval
    ∷ need (lives f.tree g) Enoent
    ∷ need (passes (file_named file) (is_present f.tree g)) Enoent
    ∷ need (fits (file_text f g file) buffer) Enospc
    ∷ []
checks f (membership p buffer) =
    need (process_taken f.tree p) Esrch
    ∷ need (fits (membership_line f.tree p) buffer) Enospc
    ∷ []

-- what a call answers: success, or the number of the first check that refuses
abbrev pub verdict_by : Facts → Call → Answer
verdict_by f c = first (checks f c)

unfoldable pub verdict : Tree → Call → Answer
verdict t c = verdict_by (facts_of t) c
