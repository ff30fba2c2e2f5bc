-- What order 1 says of io.max as a caller sees it. "A group holds four devices; a fifth, unless all "max", is 28, tested last": when a
-- write answers 28. "Reading gives devices ascending, all four keys in that order, and no line where all four are "max"": what a
-- read delivers, made from the limits alone by going over all devices, with no table and none of the words of DeviceLines.
-- proofs/DeviceReplyLaws.antt shows all of it. Assumes nothing.
use Rattle.std.specs.Prelude.{ℕ, zero, suc, ◌*◌, ◌/◌, ◌%◌, true, List, [], ◌++◌, ◌≡◌, Some, Ok}
use Rattle.model.specs.Functions.{pick}
use Rattle.model.specs.Sizes.{device_numbers}
use Rattle.model.specs.Checks.{first}
use Rattle.model.specs.Devices.{all_max, Pairs}
use Rattle.model.specs.Tree.{Tree, lives, settings_at}
use Rattle.model.specs.Hierarchy.{on, facts_of}
use Rattle.model.specs.Text.{bytes, decimal}
use Rattle.model.specs.Figures.{limit_text}
use Rattle.model.specs.Files.{contents, fits}
use Rattle.model.specs.Calls.{write_setting, read, line_value, setting_checks}
use Rattle.model.specs.Replies.{reply, text_reply}
use Rattle.model.specs.DeviceRules.{Fifth}
use Rattle.model.specs.DeviceBook.{Rates, Account}
use Rattle.model.specs.declared.Limit.{Limit}
use Rattle.model.specs.declared.Key.{Key}
use Rattle.model.specs.declared.Key.TheVariants.{Rbps, Wbps, Riops, Wiops}
use Rattle.model.specs.declared.Controller.TheVariants.{Io}
use Rattle.model.specs.declared.Setting.TheVariants.{IoMax}
use Rattle.model.specs.declared.SettingValue.TheVariants.{Device}
use Rattle.model.specs.declared.File.TheVariants.{Value}

-- a write of io.max that passes every other check, and whose device is a fifth
pub record FifthWrite (t : Tree) (user g : ℕ) (file line : List ℕ) : Type 0 where
  pub major : ℕ
  pub minor : ℕ
  pub pairs : Pairs
  pub name : file ≡ bytes "io.max"
  pub value : line_value file line ≡ Some (Device major minor pairs)
  pub others : first (setting_checks t user g file line) ≡ Ok tt
  pub fifth : Fifth (settings_at t g) major minor pairs

-- a write of a setting, io.max or another, answers 28 exactly then
pub record DeviceRefusal (t : Tree) : Type 0 where
  pub only : (user g : ℕ) (file line : List ℕ) → (reply t (write_setting user g file line)).number ≡ 28 → FifthWrite t user g file line
  pub always : (user g : ℕ) (file line : List ℕ) → FifthWrite t user g file line → (reply t (write_setting user g file line)).number ≡ 28

-- "8:16 rbps=2097152 wbps=max riops=max wiops=120": the line of a device with these limits
unfoldable pub plain_line : ℕ → (Key → Limit) → List ℕ
plain_line d l =
    decimal (d / device_numbers)
    ++ bytes ":"
    ++ decimal (d % device_numbers)
    ++ bytes " rbps="
    ++ limit_text (l Rbps)
    ++ bytes " wbps="
    ++ limit_text (l Wbps)
    ++ bytes " riops="
    ++ limit_text (l Riops)
    ++ bytes " wiops="
    ++ limit_text (l Wiops)
    ++ bytes "\n"

-- of the n devices from d on, the lines of those that have a limit; the devices are counted by major and then by minor
unfoldable pub device_lines_from : Rates → ℕ → ℕ → List ℕ
device_lines_from rates d zero = []
device_lines_from rates d (suc n) =
    pick (all_max (rates d)) [] (plain_line d (rates d)) ++ device_lines_from rates (suc d) n

-- of all devices, major and minor "each 0 to 255": the text of io.max where the limits are these
abbrev pub io_max_text : Rates → List ℕ
io_max_text rates = device_lines_from rates 0 (device_numbers * device_numbers)

-- what io.max shows of a tree whose limits are the account's, and that a read delivers it
pub record DeviceReading (t : Tree) (a : Account) : Type 0 where
  pub text : (g : ℕ) → lives t g ≡ true → contents (facts_of t) g (Value IoMax) ≡ io_max_text (a g)
  pub delivered : (g : ℕ) (buffer : List ℕ) → lives t g ≡ true → on t Io g ≡ true → fits (io_max_text (a g)) buffer ≡ true
      → reply t (read g (bytes "io.max") buffer) ≡ text_reply (Ok tt) (io_max_text (a g)) buffer
