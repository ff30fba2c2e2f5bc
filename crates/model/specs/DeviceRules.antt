-- What order 1 says of io.max, as statements about the definitions: what a line changes, when it finds no room, and that one table has
-- one description. What calls answer, 28 and the text of a read, is in DeviceReplies. proofs/DeviceRuleLaws.antt shows all of it.
-- Assumes nothing.
use Rattle.std.specs.Prelude.{ℕ, ◌<◌, true, false, List, ◌≢◌, ◌⊎◌, ◌≡◌, length}
use Rattle.model.specs.Sizes.{device_numbers, most_devices}
use Rattle.model.specs.Devices.{device_of, all_max, DeviceLimits, limits_at, changed, Table, Pairs}
use Rattle.model.specs.Tree.{Settings}
use Rattle.model.specs.DeviceLines.{no_pairs}
use Rattle.model.specs.Settings.{assign, has_room}
use Rattle.model.specs.declared.Key.{Key}
use Rattle.model.specs.declared.SettingValue.TheVariants.{Device}

-- ascending as numbers is ascending by major and then by minor, and two devices are not one number
pub record Numbered (a b c d : ℕ) : Type 0 where
  pub ascending : device_of a b < device_of c d → (a < c) ⊎ ((a ≡ c) × (b < d))
  pub apart : device_of a b ≡ device_of c d → (a ≡ c) × (b ≡ d)

-- A line for a device: the table has the limits of `changed` there, and no other device's limits change. The effect goes by `changed`
-- too; what ties it to the line's pairs is the account of DeviceBook, by `Accounted`.
pub record Written (st : Settings) (a b : ℕ) (p : Pairs) : Type 0 where
  pub here : (k : Key) → limits_at (device_of a b) (assign (Device a b p) st).io k ≡ changed p (limits_at (device_of a b) st.io) k
  pub elsewhere : (e : ℕ) → e ≢ device_of a b → (k : Key) → limits_at e (assign (Device a b p) st).io k ≡ limits_at e st.io k

-- "A group holds four devices; a fifth, unless all "max"": four are held, this is none of them, and it gets a limit
pub record Fifth (st : Settings) (a b : ℕ) (p : Pairs) : Type 0 where
  pub full : length st.io ≡ most_devices
  pub unheld : all_max (limits_at (device_of a b) st.io) ≡ true
  pub limited : all_max (changed p (limits_at (device_of a b) st.io)) ≡ false

pub record DeviceRules : Type 0 where
  pub numbered : (a b c d : ℕ) → b < device_numbers → d < device_numbers → Numbered a b c d
  pub written : (st : Settings) (a b : ℕ) (p : Pairs) → Table st.io → Written st a b p
  -- "no pair is no change"
  pub unchanged : (st : Settings) (a b : ℕ) → Table st.io → assign (Device a b no_pairs) st ≡ st
  -- no room exactly for a fifth device; that 28 is answered exactly then is `DeviceRefusal` of DeviceReplies
  pub fifth : (st : Settings) (a b : ℕ) (p : Pairs) → Table st.io → has_room st (Device a b p) ≡ false → Fifth st a b p
  pub refused : (st : Settings) (a b : ℕ) (p : Pairs) → Table st.io → Fifth st a b p → has_room st (Device a b p) ≡ false
  -- tables with the same limits are the same
  pub one : (xs ys : List DeviceLimits) → Table xs → Table ys → ((d : ℕ) (k : Key) → limits_at d xs k ≡ limits_at d ys k) → xs ≡ ys
