-- What io.max keeps over a list of calls, as an account beside the book of demand 3: order 1, "Disks need their share too", for what
-- a line changes; document 01's reset rule, which takes in the new file, in the words that the book has for the other limits. The
-- account is the limits by group, device and key, with no table, no order and no number of devices. It is fed what the book is fed,
-- asks the book who is whose child, and shares none of the calls' effects. With the calls it shares types, a device's number
-- (`device_of`), who is a child (`child_of`) and the reading of lines (`line_value`, `pair_of`, `asked`, `is_dropped`), and where it meets a
-- tree the look-up of a device (`limits_at`); DeviceReplies says it of the text that readers get. Assumes nothing.
use Rattle.std.specs.Prelude.{ℕ, List, [], ◌∷◌, ◌≡◌, eqb, Option, Some, None}
use Rattle.model.specs.Functions.{upd, pick}
use Rattle.model.specs.Devices.{device_of, pair_of, limits_at}
use Rattle.model.specs.Tree.{Tree, Core, Group}
use Rattle.model.specs.Hierarchy.{child_of}
use Rattle.model.specs.Control.{asked, is_dropped}
use Rattle.model.specs.Calls.{Call, line_value}
use Rattle.model.specs.Book.{Book, book_step, Entry}
use Rattle.model.specs.Lists.{log}
use Rattle.model.specs.declared.Limit.{Limit}
use Rattle.model.specs.declared.Limit.TheVariants.{NoLimit}
use Rattle.model.specs.declared.Key.{Key}
use Rattle.model.specs.declared.Controller.TheVariants.{Io}
use Rattle.model.specs.declared.SettingValue.{SettingValue}
use Rattle.model.specs.declared.SettingValue.TheVariants.{Weight, Quota, Bandwidth, Device, Maximum}

-- the limits of one group, by device and key
abbrev pub Rates : Type 0
Rates = ℕ → Key → Limit

abbrev pub no_rates : Rates
no_rates d k = NoLimit

-- the account: those of every group
abbrev pub Account : Type 0
Account = ℕ → Rates

-- It begins with no limits at all, or with those that a tree has.
abbrev pub no_account : Account
no_account g = no_rates

abbrev pub rates_of : Group → Rates
rates_of v d k = limits_at d v.io k

abbrev pub account_of : Tree → Account
account_of t g = rates_of (t.group g)

-- A line for a device: each key that it gives becomes what it gives, and every other keeps what it had; "no pair is no change".
abbrev pub rate_after : Limit → Option Limit → Limit
rate_after l None = l
rate_after l (Some m) = m

-- what the account enters of a value: no step for any setting but io.max
abbrev pub rates_after : Rates → SettingValue → Rates
rates_after l (Weight n) = l
rates_after l (Quota q) = l
rates_after l (Bandwidth q p) = l
rates_after l (Device major minor p) =
    let d : ℕ = device_of major minor in
    upd l d (λ k. rate_after (l d k) (pair_of p k))
rates_after l (Maximum r m) = l

abbrev pub rates_written : Rates → Option SettingValue → Rates
rates_written l None = l
rates_written l (Some v) = rates_after l v

-- in the book's words: where the last word on io is "-io", G's children lose their limits
abbrev pub child_rates : ℕ → List ℕ → ℕ → Core → Rates → Rates
child_rates g line k c l = pick (child_of g k c) (pick (is_dropped (asked line Io)) no_rates l) l

-- an accepted call, where the groups were these
unfoldable pub enter_rates : (ℕ → Core) → Account → Call → Account
enter_rates group a (Call.make user parent new) = upd a new no_rates
enter_rates group a (Call.remove user g) = upd a g no_rates
enter_rates group a (Call.hand_over user g owner) = a
enter_rates group a (Call.write_procs user g line) = a
enter_rates group a (Call.write_control user g line) = λ k. child_rates g line k (group k) (a k)
enter_rates group a (Call.write_setting user g file line) = upd a g (rates_written (a g) (line_value file line))
enter_rates group a (Call.admit p user) = a
enter_rates group a (Call.fork p new) = a
enter_rates group a (Call.exit p) = a
enter_rates group a (Call.collect p) = a
enter_rates group a (Call.charge p n) = a
enter_rates group a (Call.release g n) = a
enter_rates group a (Call.read g file buffer) = a
enter_rates group a (Call.membership p buffer) = a

-- a call and the number that it answered; a refused call is no step
unfoldable pub account_step : Book → Account → Entry → Account
account_step b a e = pick (eqb e.number 0) (enter_rates b.group a e.call) a

unfoldable pub account_fed : Book → Account → List Entry → Account
account_fed b a [] = a
account_fed b a (e ∷ es) = account_fed (book_step b e.call e.number) (account_step b a e) es

-- the account after a list of calls on t, where a and the book b were those before
abbrev pub account_after : Tree → Book → Account → List Call → Account
account_after t b a cs = account_fed b a (log t cs)

-- The tables of a tree have the limits of the account and no others. `DeviceRules.one` says that no other tables do.
abbrev pub Accounted : Tree → Account → Type 0
Accounted t a = (g d : ℕ) (k : Key) → limits_at d (t.group g).io k ≡ a g d k
