-- The checks of a value, what a write is given by them, when a value can be stored, and what storing it leaves. Assumes nothing.
use Rattle.std.specs.Prelude.{ℕ, Bool, true, List, [], ◌∷◌, ◌≡◌, Option, Some, Result, Ok, Err}
use Rattle.model.specs.Functions.{pick, known, passes}
use Rattle.model.specs.Tree.{settings_at}
use Rattle.model.specs.Effects.{written}
use Rattle.model.specs.Checks.{Check, bar, need, first, Answer}
use Rattle.model.specs.Text.{too_long, line_words}
use Rattle.model.specs.Settings.{value_of, in_range, has_room}
use Rattle.model.specs.Calls.{line_value, setting_checks}
use Rattle.model.specs.declared.Setting.{Setting}
use Rattle.model.specs.declared.SettingValue.{SettingValue}
use Rattle.model.specs.declared.Errno.{Errno}
use Rattle.model.specs.declared.Errno.TheVariants.{Einval, Enospc, Erange}
use Rattle.tree.specs.Layout.{view}
use Rattle.tree.specs.Changes.{Wrote}
use Rattle.tree.specs.Kept.{KeptAt}
use Rattle.control.specs.Stores.{changed_at}

-- the checks of a line, once its setting is known: "22 malformed (any word of it); 34 range"
unfoldable pub value_checks : Setting → List ℕ → List Check
value_checks s line =
    bar (too_long line) Einval
    ∷ need (known (value_of s (line_words line))) Einval
    ∷ need (passes (value_of s (line_words line)) in_range) Erange
    ∷ []

-- after success the value of the line, else the refusal
abbrev pub Gives : Answer → Option SettingValue → Result SettingValue Errno → Type 0
Gives answer value (Ok v) = (Ok tt ≡ answer) × (value ≡ Some v)
Gives answer value (Err e) = Err e ≡ answer

-- what a write is vetted to, before room is asked for
abbrev pub Vetted : List ℕ → ℕ → ℕ → List ℕ → List ℕ → Result SettingValue Errno → Type 0
Vetted xs user g file line = Gives (first (setting_checks (view xs) user g file line)) (line_value file line)

-- a live group, and a value in its range
pub record Settable (xs : List ℕ) (g : ℕ) (value : SettingValue) : Type 0 where
  pub at : KeptAt xs g
  pub within : in_range value ≡ true

-- success where there is room, else 28
abbrev pub store_answer : Bool → Answer
store_answer b = pick b (Ok tt) (Err Enospc)

-- whether there was room for the value; where there was, it is stored, and else nothing changed
pub record Stored (xs ys : List ℕ) (g : ℕ) (value : SettingValue) (r : Answer) : Type 0 where
  pub room : r ≡ store_answer (has_room (settings_at (view xs) g) value)
  pub done : r ≡ Ok tt → Wrote xs ys (changed_at (view xs) g (written (Some value)))
  pub same : r ≡ Err Enospc → ys ≡ xs
