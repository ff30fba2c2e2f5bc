-- The devices of io.max, and the table that a group keeps of them: order 1, "Disks need their share too". A device is kept as one
-- number, in which ascending is ascending by major and then by minor; a table has every device that has a limit, ascending, and no
-- other, so that one table has one description. How a line reads and is shown is in DeviceLines. Assumes nothing.
use Rattle.std.specs.Prelude.{ℕ, suc, ◌+◌, ◌*◌, ◌/◌, ◌%◌, ◌≤◌, Bool, true, false, ◌&&◌, List, [], ◌∷◌, ◌≡◌, eqb, ltb, length, Option, Some, None}
use Rattle.model.specs.Functions.{pick, All}
use Rattle.model.specs.Sizes.{device_numbers, most_devices}
use Rattle.model.specs.declared.Limit.{Limit}
use Rattle.model.specs.declared.Limit.TheVariants.{NoLimit, Figure}
use Rattle.model.specs.declared.Key.{Key}
use Rattle.model.specs.declared.PerKey.{PerKey}
use Rattle.model.specs.declared.Key.TheVariants.{Rbps, Wbps, Riops, Wiops}

-- "a device major:minor, each 0 to 255", as one number, and its two numbers
abbrev pub device_of : ℕ → ℕ → ℕ
device_of major minor = major * device_numbers + minor

abbrev pub major_of : ℕ → ℕ
major_of d = d / device_numbers

abbrev pub minor_of : ℕ → ℕ
minor_of d = d % device_numbers

-- "all four keys in that order"
abbrev pub keys : List Key
keys = Rbps ∷ Wbps ∷ Riops ∷ Wiops ∷ []

-- whether every key passes the test
abbrev pub every_key : (Key → Bool) → Bool
every_key f = f Rbps && (f Wbps && (f Riops && f Wiops))

-- What a line gives its keys: nothing to one that it does not name.
abbrev pub Pairs : Type 0
Pairs = PerKey (Option Limit)

-- what a value for each key has for one of them
module _ {A : Type 0} where
  abbrev pub at_key : PerKey A → Key → A
  at_key v Rbps = v.rbps
  at_key v Wbps = v.wbps
  at_key v Riops = v.riops
  at_key v Wiops = v.wiops

-- What a line gives a key, and from what each is given.
abbrev pub pair_of : Pairs → Key → Option Limit
pair_of p k = at_key p k

abbrev pub pairs_of : (Key → Option Limit) → Pairs
pairs_of f = record { rbps = f Rbps; wbps = f Wbps; riops = f Riops; wiops = f Wiops }

-- a device and its limits
pub record DeviceLimits : Type 0 where
  pub device : ℕ
  pub limit : Key → Limit

-- "all four are "max""
abbrev pub is_max : Limit → Bool
is_max NoLimit = true
is_max (Figure n) = false

abbrev pub all_max : (Key → Limit) → Bool
all_max l = every_key (λ k. is_max (l k))

-- the limits of a device; none, where the table does not have it
unfoldable pub limits_at : ℕ → List DeviceLimits → Key → Limit
limits_at d [] k = NoLimit
limits_at d (x ∷ xs) k = pick (eqb x.device d) (x.limit k) (limits_at d xs k)

-- the limits after a line: what it gives, and the rest as before
abbrev pub or_before : Limit → Option Limit → Limit
or_before l None = l
or_before l (Some m) = m

abbrev pub changed : Pairs → (Key → Limit) → Key → Limit
changed p l k = or_before (l k) (pair_of p k)

-- a device before others; "no line where all four are "max""
abbrev pub entered : ℕ → (Key → Limit) → List DeviceLimits → List DeviceLimits
entered d l xs = pick (all_max l) xs (record { device = d; limit = l } ∷ xs)

-- the table in which a device has these limits
unfoldable pub with_device : ℕ → (Key → Limit) → List DeviceLimits → List DeviceLimits
with_device d l [] = entered d l []
with_device d l (x ∷ xs) =
    pick (ltb x.device d) (x ∷ with_device d l xs) (entered d l (pick (eqb x.device d) xs (x ∷ xs)))

-- the table after a line for a device
abbrev pub after_line : ℕ → Pairs → List DeviceLimits → List DeviceLimits
after_line d p xs = with_device d (changed p (limits_at d xs)) xs

-- "devices ascending": each from a bound on, which is beyond the one before it, so that no device comes twice
unfoldable pub Ascending : ℕ → List DeviceLimits → Type 0
Ascending n [] = Unit {0}
Ascending n (x ∷ xs) = (n ≤ x.device) × Ascending (suc x.device) xs

-- What a group may keep. That devices and figures are in range is said of what is shown, as for the other settings.
pub record Table (xs : List DeviceLimits) : Type 0 where
  pub ascending : Ascending 0 xs
  pub limited : All (λ x. all_max x.limit ≡ false) xs
  pub few : length xs ≤ most_devices
