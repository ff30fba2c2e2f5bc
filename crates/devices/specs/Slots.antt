-- The table that slots stand for, and a pass over them. Assumes nothing.
use Rattle.std.specs.Prelude.{ℕ, ◌-◌, ◌≤◌, ◌<◌, Bool, true, List, [], ◌∷◌, ◌++◌, ◌≡◌, eqb, ltb, length, replicate, Option, Some, None, unwrap_or}
use Rattle.std.specs.List.{find}
use Rattle.model.specs.Functions.{pick, All}
use Rattle.model.specs.Sizes.{most_devices}
use Rattle.model.specs.Devices.{DeviceLimits, changed, with_device, after_line, Ascending, Pairs}
use Rattle.model.specs.declared.Limit.{Limit}
use Rattle.model.specs.declared.Key.{Key}
use Rattle.model.specs.declared.Key.TheVariants.{Rbps, Wbps, Riops, Wiops}
use Rattle.devices.specs.LimitWords.{limit_in}
use Rattle.devices.specs.declared.slot.Slot.{Slot}

-- a slot of a device with no limits, and a free one
abbrev pub unlimited : ℕ → Slot
unlimited w = record { device = w; limits = record { rbps = 0; wbps = 0; riops = 0; wiops = 0 } }

abbrev pub free_slot : Slot
free_slot = unlimited 0

abbrev pub is_free : Slot → Bool
is_free s = eqb s.device 0

abbrev pub limits_of : Slot → Key → Limit
limits_of s Rbps = limit_in s.limits.rbps
limits_of s Wbps = limit_in s.limits.wbps
limits_of s Riops = limit_in s.limits.riops
limits_of s Wiops = limit_in s.limits.wiops

abbrev pub line_of : Slot → DeviceLimits
line_of s = record { device = s.device - 1; limit = limits_of s }

-- the table: the slots before the first free one
unfoldable pub table_of : List Slot → List DeviceLimits
table_of [] = []
table_of (s ∷ ss) = pick (is_free s) [] (line_of s ∷ table_of ss)

-- after a free slot all are free
unfoldable pub Packed : List Slot → Type 0
Packed [] = Unit {0}
Packed (s ∷ ss) = (is_free s ≡ true → All (λ x. x ≡ free_slot) (s ∷ ss)) × Packed ss

-- what is kept of slots: packed, and the table ascending
pub record InOrder (xs : List Slot) : Type 0 where
  pub packed : Packed xs
  pub ascending : Ascending 0 (table_of xs)

-- four free slots
abbrev pub no_slots : List Slot
no_slots = replicate most_devices free_slot

-- One place of a pass that carries a slot: what stays there, and what is carried on.
abbrev pub stepped : Slot → Slot → Slot × Slot
stepped x c =
    pick (is_free c) (x, c)
    (pick (is_free x) (c, x)
    (pick (ltb c.device x.device) (c, x)
    (pick (eqb c.device x.device) (c, free_slot) (x, c))))

-- the places after a pass that carries c, and what it carries out of them
unfoldable pub kept : Slot → List Slot → List Slot
kept c [] = []
kept c (x ∷ xs) = (stepped x c).0 ∷ kept (stepped x c).1 xs

unfoldable pub carried : Slot → List Slot → Slot
carried c [] = c
carried c (x ∷ xs) = carried (stepped x c).1 xs

-- the places where nothing is carried out of them
abbrev pub put_in : Slot → List Slot → Option (List Slot)
put_in c xs = pick (is_free (carried c xs)) (Some (kept c xs)) None

-- the slots without a device, told by its word
unfoldable pub without : ℕ → List Slot → List Slot
without w [] = []
without w (x ∷ xs) = pick (eqb x.device w) (xs ++ (free_slot ∷ [])) (x ∷ without w xs)

-- What stands for a table of devices: packed slots, or none where it has more devices than a group holds.
pub record Held (t : List DeviceLimits) (s : List Slot) : Type 0 where
  pub few : length t ≤ most_devices
  pub table : table_of s ≡ t
  pub packed : Packed s

abbrev pub Holds : List DeviceLimits → Option (List Slot) → Type 0
Holds t None = most_devices < length t
Holds t (Some s) = Held t s

-- what writing x leaves
abbrev pub Written : List Slot → Slot → Option (List Slot) → Type 0
Written s x = Holds (with_device (x.device - 1) (limits_of x) (table_of s))

-- the slot of a device, told by its word, and whether a slot is its
abbrev pub is_of : ℕ → Slot → Bool
is_of w x = eqb x.device w

abbrev pub slot_of : ℕ → List Slot → Slot
slot_of w xs = unwrap_or (find (is_of w) xs) (unlimited w)

-- what a line leaves of a slot
pub record SlotChanged (x : Slot) (p : Pairs) (r : Slot) : Type 0 where
  pub device : r.device ≡ x.device
  pub limits : limits_of r ≡ changed p (limits_of x)

-- What a line for a device leaves: none, where the table after it has a device too many; else packed slots that stand for that table.
abbrev pub LineWritten : List Slot → ℕ → Pairs → Option (List Slot) → Type 0
LineWritten s device p = Holds (after_line device p (table_of s))
