-- The book of demand 3, in document 01's word ("The book of demand 3"): a ledger that is fed the machine size, then each
-- call's arguments and the number it answered, and nothing else. It is written from its own paragraph and shares none of the
-- calls' effects. With the calls it shares types, sums (`usage`, `amount`), who is a child (`child_of`), where a process stands
-- (`group_of`), whose limit counts what (`controller_of`), and the reading of lines (`line_process`, `line_value`, `asked`,
-- `is_dropped`, `to_amount`, `map_limit`). Assumes nothing.
use Rattle.std.specs.Prelude.{ℕ, zero, suc, ◌+◌, ◌-◌, min, true, false, List, [], ◌∷◌, Option, Some, None}
use Rattle.model.specs.Functions.{upd, pick}
use Rattle.model.specs.Sizes.{largest_machine}
use Rattle.model.specs.Tree.{Tree, Core, Place, nowhere, at, group_of, controller_of, cores, places}
use Rattle.model.specs.Hierarchy.{usage, amount, child_of}
use Rattle.model.specs.Control.{asked, is_dropped}
use Rattle.model.specs.Settings.{map_limit, to_amount}
use Rattle.model.specs.Rules.{line_process}
use Rattle.model.specs.Calls.{Call, line_value}
use Rattle.model.specs.declared.Resource.{Resource}
use Rattle.model.specs.declared.Resource.TheVariants.{Pages, Processes}
use Rattle.model.specs.declared.Limit.{Limit}
use Rattle.model.specs.declared.Limit.TheVariants.{NoLimit}
use Rattle.model.specs.declared.SettingValue.{SettingValue}
use Rattle.model.specs.declared.SettingValue.TheVariants.{Weight, Quota, Bandwidth, Device, Maximum}

-- "It keeps the live groups with parent, own pages, memory limit, pids limit and a mark, and where each live process stands."
-- The mark, in document 01's word, is the usage when the memory limit was last written. It is read only beside a limit, so
-- what it is in a group that has none does not matter.
pub record Book : Type 0 where
  pub machine : ℕ
  pub group : ℕ → Core
  pub mark : ℕ → ℕ
  pub place : ℕ → Place

-- what the book says stands inside a group
abbrev pub in_book : Book → Resource → ℕ → ℕ
in_book b = amount b.group b.place

-- One entry changed.
abbrev pub enter_group : Book → ℕ → Core → Book
enter_group b g c = record { machine = b.machine; group = upd b.group g c; mark = b.mark; place = b.place }

abbrev pub enter_place : Book → ℕ → Place → Book
enter_place b p l = record { machine = b.machine; group = b.group; mark = b.mark; place = upd b.place p l }

-- a group that is live under its parent, "no pages, no limits", and one that is not live
abbrev pub entry_under : ℕ → Core
entry_under parent = record { live = true; parent = parent; own = 0; limit = λ r. NoLimit }

abbrev pub no_entry : Core
no_entry = record { live = false; parent = 0; own = 0; limit = λ r. NoLimit }

-- own pages entered
abbrev pub enter_own : Book → ℕ → ℕ → Book
enter_own b g n =
    let c : Core = b.group g in
    enter_group b g (record { live = c.live; parent = c.parent; own = n; limit = c.limit })

-- "G's own pages go to its parent; G is no longer live."
abbrev pub enter_removal : Book → ℕ → Book
enter_removal b g =
    let h : ℕ = (b.group g).parent in
    enter_group (enter_own b h ((b.group h).own + (b.group g).own)) g no_entry

-- "G's limit becomes the line's, as that call reads it; for memory.max the mark becomes G's usage at that moment."
abbrev pub mark_after : Resource → Book → ℕ → ℕ → ℕ
mark_after Pages b g = upd b.mark g (usage b.group g)
mark_after Processes b g = b.mark

abbrev pub limit_entered : Resource → Limit → (Resource → Limit) → Resource → Limit
limit_entered Pages l old Pages = l
limit_entered Pages l old Processes = old Processes
limit_entered Processes l old Pages = old Pages
limit_entered Processes l old Processes = l

-- limits entered in one group
abbrev pub with_entries : (Resource → Limit) → Core → Core
with_entries l c = record { live = c.live; parent = c.parent; own = c.own; limit = l }

abbrev pub enter_limit : Book → ℕ → Resource → Limit → Book
enter_limit b g r l =
    record {
      machine = b.machine;
      group = upd b.group g (with_entries (limit_entered r l (b.group g).limit) (b.group g));
      mark = mark_after r b g;
      place = b.place;
    }

-- what the book enters of a value: no step for any setting but the two
abbrev pub entry_of : SettingValue → Option (Resource × Limit)
entry_of (Weight n) = None
entry_of (Quota q) = None
entry_of (Bandwidth q p) = None
entry_of (Device a b p) = None
entry_of (Maximum r l) = Some (r, map_limit (to_amount r) l)

abbrev pub enter_entry : Book → ℕ → Option (Resource × Limit) → Book
enter_entry b g None = b
enter_entry b g (Some e) = enter_limit b g e.0 e.1

abbrev pub enter_value : Book → ℕ → Option SettingValue → Book
enter_value b g None = b
enter_value b g (Some v) = enter_entry b g (entry_of v)

-- "where the last word on memory is "-memory", G's children lose their memory limits; the same for pids"
abbrev pub limits_after : List ℕ → (Resource → Limit) → Resource → Limit
limits_after line l r = pick (is_dropped (asked line (controller_of r))) NoLimit (l r)

abbrev pub child_after : ℕ → List ℕ → ℕ → Core → Core
child_after g line k c = elim (child_of g k c) [ true ↦ with_entries (limits_after line c.limit) c | false ↦ c ]

-- an accepted call
unfoldable pub enter : Book → Call → Book
enter b (Call.make user parent new) = enter_group b new (entry_under parent)
enter b (Call.remove user g) = enter_removal b g
enter b (Call.hand_over user g owner) = b
enter b (Call.write_procs user g line) = enter_place b (line_process line) (at g)
enter b (Call.write_control user g line) =
    record { machine = b.machine; group = λ k. child_after g line k (b.group k); mark = b.mark; place = b.place }
enter b (Call.write_setting user g file line) = enter_value b g (line_value file line)
enter b (Call.admit p user) = enter_place b p (at 0)
enter b (Call.fork p new) = enter_place b new (b.place p)
enter b (Call.exit p) = enter_place b p nowhere
enter b (Call.collect p) = b
enter b (Call.charge p n) =
    let g : ℕ = group_of (b.place p) in
    enter_own b g ((b.group g).own + n)
enter b (Call.release g n) = enter_own b g ((b.group g).own - n)
enter b (Call.read g file buffer) = b
enter b (Call.membership p buffer) = b

-- a call and the number that it answered: "No step: a refused call"
unfoldable pub book_step : Book → Call → ℕ → Book
book_step b c zero = enter b c
book_step b c (suc n) = b

-- "It begins with the root, no pages, no limit, no process."
unfoldable pub fresh_book : ℕ → Book
fresh_book m =
    record {
      machine = min m largest_machine;
      group = upd (λ g. no_entry) 0 (entry_under 0);
      mark = λ g. 0;
      place = λ p. nowhere;
    }

-- The book of a tree, for a list of calls that begins there: what the tree keeps, each limit taken as written at that moment.
abbrev pub book_of : Tree → Book
book_of t = record { machine = t.machine; group = cores t; mark = usage (cores t); place = places t }

pub record Entry : Type 0 where
  pub call : Call
  pub number : ℕ

unfoldable pub fed : Book → List Entry → Book
fed b [] = b
fed b (e ∷ es) = fed (book_step b e.call e.number) es
