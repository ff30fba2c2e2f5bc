-- The settings: their words, ranges, defaults, and what a reader sees of them. Document 01, "Write a setting" and "Settings and
-- defaults", and orders 1 and 2. A value is read in three steps, as the paper's two refusals ask: its form, its range, its effect;
-- io.max asks for room before the last.
-- What is particular to a controller is `piece`, its own piece of the settings. Assumes nothing.
use Rattle.std.specs.Prelude.{ℕ, suc, ◌*◌, ◌/◌, ◌≤◌, ◌<◌, Bool, true, ◌&&◌, List, [], ◌∷◌, ◌++◌, map, ◌≡◌, leb, length, Option, Some, None}
use Rattle.model.specs.Functions.{pick, mapped, All}
use Rattle.model.specs.Sizes.{page_bytes, most_devices}
use Rattle.model.specs.Devices.{device_of, major_of, minor_of, pairs_of, DeviceLimits, after_line, Table}
use Rattle.model.specs.DeviceLines.{device_words, device_in, pairs_in, line_text}
use Rattle.model.specs.Tree.{CpuSettings, default_cpu, Settings, new_settings, with_cpu, with_io, with_amounts, with_limit, controller_of}
use Rattle.model.specs.Text.{space, ended, one_word, number_word, decimal}
unfoldable pub use Rattle.model.specs.Figures.{limit_word}
pub use Rattle.model.specs.Figures.{between, figure_in, limit_text}
use Rattle.model.specs.declared.Resource.{Resource}
use Rattle.model.specs.declared.Resource.TheVariants.{Pages, Processes}
use Rattle.model.specs.declared.Limit.{Limit}
use Rattle.model.specs.declared.Limit.TheVariants.{NoLimit, Figure}
use Rattle.model.specs.declared.Controller.{Controller}
use Rattle.model.specs.declared.Controller.TheVariants.{Cpu, Io, Memory, Pids}
use Rattle.model.specs.declared.Setting.{Setting}
use Rattle.model.specs.declared.Setting.TheVariants.{CpuWeight, CpuMax, IoMax, Max}
use Rattle.model.specs.declared.SettingValue.{SettingValue}
use Rattle.model.specs.declared.SettingValue.TheVariants.{Weight, Quota, Bandwidth, Device, Maximum}

abbrev pub setting_controller : Setting → Controller
setting_controller CpuWeight = Cpu
setting_controller CpuMax = Cpu
setting_controller IoMax = Io
setting_controller (Max r) = controller_of r

-- The form of a value: "Settings take one word, cpu.max one or two."
-- a quota and a period, both well formed
abbrev pub bandwidth_of : Option Limit → Option ℕ → Option SettingValue
bandwidth_of None p = None
bandwidth_of (Some q) None = None
bandwidth_of (Some q) (Some p) = Some (Bandwidth q p)

abbrev pub bandwidth_words : List (List ℕ) → Option SettingValue
bandwidth_words [] = None
bandwidth_words (w ∷ []) = mapped Quota (limit_word w)
bandwidth_words (w ∷ v ∷ []) = bandwidth_of (limit_word w) (number_word v)
bandwidth_words (w ∷ v ∷ u ∷ us) = None

unfoldable pub value_of : Setting → List (List ℕ) → Option SettingValue
value_of CpuWeight ws = mapped Weight (one_word number_word ws)
value_of CpuMax ws = bandwidth_words ws
value_of IoMax ws = device_words ws
value_of (Max r) ws = mapped (Maximum r) (one_word limit_word ws)

-- The range of a value.
-- the largest figure of memory.max, in bytes, and of pids.max
abbrev pub largest : Resource → ℕ
largest Pages = 4503599627370496
largest Processes = 4194304

abbrev pub quota_in : Limit → Bool
quota_in q = figure_in 1000 1000000000 q

unfoldable pub in_range : SettingValue → Bool
in_range (Weight n) = between 1 10000 n
in_range (Quota q) = quota_in q
in_range (Bandwidth q p) = quota_in q && between 1000 1000000 p
in_range (Device major minor p) = device_in major minor && pairs_in p
in_range (Maximum r l) = figure_in 0 (largest r) l

-- The effect of a value.
-- order 2, "Rounding is down from now on": the whole pages, odd bytes dropped
abbrev pub to_pages : ℕ → ℕ
to_pages n = n / page_bytes

-- a figure of the file as an amount of the resource, and an amount as the file shows it
abbrev pub to_amount : Resource → ℕ → ℕ
to_amount Pages n = to_pages n
to_amount Processes n = n

abbrev pub to_figure : Resource → ℕ → ℕ
to_figure Pages n = n * page_bytes
to_figure Processes n = n

-- the order as a statement: a is the largest amount whose figure is no more than n
pub record RoundedDown (r : Resource) (n a : ℕ) : Type 0 where
  pub no_more : to_figure r a ≤ n
  pub next : n < to_figure r (suc a)

abbrev pub map_limit : (ℕ → ℕ) → Limit → Limit
map_limit f NoLimit = NoLimit
map_limit f (Figure n) = Figure (f n)

-- "One word leaves the period."
unfoldable pub assign : SettingValue → Settings → Settings
assign (Weight n) s = with_cpu (record { weight = n; quota = s.cpu.quota; period = s.cpu.period }) s
assign (Quota q) s = with_cpu (record { weight = s.cpu.weight; quota = q; period = s.cpu.period }) s
assign (Bandwidth q p) s = with_cpu (record { weight = s.cpu.weight; quota = q; period = p }) s
assign (Device major minor p) s = with_io (after_line (device_of major minor) p s.io) s
assign (Maximum r l) s = with_amounts (with_limit r (map_limit (to_amount r) l) s.limit) s

-- "A group holds four devices; a fifth, unless all "max", is 28": whether no device is too many after the line
unfoldable pub has_room : Settings → SettingValue → Bool
has_room s v = leb (length (assign v s).io) most_devices

-- What a reader sees of a setting: its values, one a line, and each as text.
abbrev pub shown_device : DeviceLimits → SettingValue
shown_device x = Device (major_of x.device) (minor_of x.device) (pairs_of (λ k. Some (x.limit k)))

unfoldable pub shown : Setting → Settings → List SettingValue
shown CpuWeight s = Weight s.cpu.weight ∷ []
shown CpuMax s = Bandwidth s.cpu.quota s.cpu.period ∷ []
shown IoMax s = map shown_device s.io
shown (Max r) s = Maximum r (map_limit (to_figure r) (s.limit r)) ∷ []

unfoldable pub value_text : SettingValue → List ℕ
value_text (Weight n) = decimal n
value_text (Quota q) = limit_text q
value_text (Bandwidth q p) = limit_text q ++ (space ∷ decimal p)
value_text (Device major minor p) = line_text major minor p
value_text (Maximum r l) = limit_text l

-- the lines of its file
abbrev pub shown_lines : Setting → Settings → List (List ℕ)
shown_lines x s = map ended (map value_text (shown x s))

-- the piece of the settings that is a controller's
abbrev pub Piece : Controller → Type 0
Piece Cpu = CpuSettings
Piece Io = List DeviceLimits
Piece Memory = Limit
Piece Pids = Limit

abbrev pub piece : (c : Controller) → Settings → Piece c
piece Cpu s = s.cpu
piece Io s = s.io
piece Memory s = s.limit Pages
piece Pids s = s.limit Processes

-- "Settings and defaults": whether a controller's settings are at their defaults
unfoldable pub AtDefault : Controller → Settings → Type 0
AtDefault c s = piece c s ≡ piece c new_settings

-- the settings with those of some controllers back at their defaults
unfoldable pub reset : (Controller → Bool) → Settings → Settings
reset gone s =
    record {
      limit = λ r. pick (gone (controller_of r)) NoLimit (s.limit r);
      cpu = pick (gone Cpu) default_cpu s.cpu;
      io = pick (gone Io) [] s.io;
    }

-- What writes leave: every value that is shown is in its range, and the devices are a table.
pub record Allowed (s : Settings) : Type 0 where
  pub values : (x : Setting) → All (λ v. in_range v ≡ true) (shown x s)
  pub table : Table s.io
