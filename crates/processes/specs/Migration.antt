-- The checks of a write to cgroup.procs by their subject, in the order of model's list: the group, the line, the move. Document 01,
-- "Write cgroup.procs". Assumes nothing.
use Rattle.std.specs.Prelude.{ℕ, Bool, not, ◌&&◌, List, [], ◌∷◌, eqb, Result, Ok, Err}
use Rattle.model.specs.Functions.{known}
use Rattle.model.specs.Checks.{Check, bar, need, Answer}
use Rattle.model.specs.Tree.{Tree, is_live, lives, sets, places}
use Rattle.model.specs.Text.{too_long}
use Rattle.model.specs.Control.{any_controller}
use Rattle.model.specs.Rules.{no_group_number, no_process_number, may_write, may_move, number_line, line_process}
use Rattle.model.specs.declared.ProcessId.{ProcessId}
use Rattle.model.specs.declared.Errno.{Errno}
use Rattle.model.specs.declared.Errno.TheVariants.{Enoent, Esrch, Eacces, Ebusy, Einval}

unfoldable pub group_checks : Tree → ℕ → ℕ → List Check
group_checks t user g =
    bar (no_group_number g) Einval
    ∷ need (lives t g) Enoent
    ∷ need (may_write t user g) Eacces
    ∷ []

-- the number of a line that is one number word
unfoldable pub number_checks : Tree → ℕ → List Check
number_checks t p =
    bar (eqb p 0) Einval
    ∷ bar (no_process_number p) Esrch
    ∷ need (is_live (places t p)) Esrch
    ∷ []

unfoldable pub line_checks : Tree → List ℕ → List Check
line_checks t line =
    bar (too_long line) Einval
    ∷ need (known (number_line line)) Einval
    ∷ number_checks t (line_process line)

-- the inner-process rule
abbrev pub is_closed : Tree → ℕ → Bool
is_closed t g = not (eqb g 0) && any_controller (sets t g)

unfoldable pub move_checks : Tree → ℕ → ℕ → ℕ → List Check
move_checks t user p g =
    need (may_move t user p g) Eacces
    ∷ bar (is_closed t g) Ebusy
    ∷ []

-- the process p, or the refusal
abbrev pub named_by : Answer → ℕ → Result ProcessId Errno
named_by (Ok tt) p = Ok (record { 0 = p })
named_by (Err e) p = Err e
