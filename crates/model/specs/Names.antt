-- The names of controllers and files, and which name is which: document 01, "What the host keeps" and "What a reader sees", and
-- order 1.
-- Assumes nothing.
use Rattle.std.specs.Prelude.{ℕ, List, [], ◌∷◌, ◌++◌, map, Option, Some, None}
use Rattle.model.specs.Functions.{pick}
use Rattle.model.specs.Text.{bytes, same_bytes}
use Rattle.model.specs.declared.Resource.TheVariants.{Pages, Processes}
use Rattle.model.specs.declared.Controller.{Controller}
use Rattle.model.specs.declared.Controller.TheVariants.{Cpu, Io, Memory, Pids}
use Rattle.model.specs.declared.Setting.{Setting}
use Rattle.model.specs.declared.Setting.TheVariants.{CpuWeight, CpuMax, IoMax, Max}
use Rattle.model.specs.declared.File.{File}
use Rattle.model.specs.declared.File.TheVariants.{Procs, Controllers, SubtreeControl, Events, Current, Value}

-- "always listed in this order": "cpu io memory pids"
abbrev pub controllers : List Controller
controllers = Cpu ∷ Io ∷ Memory ∷ Pids ∷ []

abbrev pub controller_name : Controller → List ℕ
controller_name Cpu = bytes "cpu"
controller_name Io = bytes "io"
controller_name Memory = bytes "memory"
controller_name Pids = bytes "pids"

-- document 01's four settings, each a file of one line; and order 1's
abbrev pub base_settings : List Setting
base_settings = CpuWeight ∷ CpuMax ∷ Max Pages ∷ Max Processes ∷ []

abbrev pub settings : List Setting
settings = base_settings ++ (IoMax ∷ [])

abbrev pub setting_name : Setting → List ℕ
setting_name CpuWeight = bytes "cpu.weight"
setting_name CpuMax = bytes "cpu.max"
setting_name IoMax = bytes "io.max"
setting_name (Max Pages) = bytes "memory.max"
setting_name (Max Processes) = bytes "pids.max"

-- the files of "What a reader sees" that are no settings: a group's own, and its controllers'
abbrev pub core_files : List File
core_files = Procs ∷ Controllers ∷ SubtreeControl ∷ Events ∷ []

abbrev pub controller_files : List File
controller_files = Current Pages ∷ Current Processes ∷ []

-- all files: no two have the same name, so their order decides nothing
abbrev pub files : List File
files = map Value settings ++ (core_files ++ controller_files)

abbrev pub file_name : File → List ℕ
file_name Procs = bytes "cgroup.procs"
file_name Controllers = bytes "cgroup.controllers"
file_name SubtreeControl = bytes "cgroup.subtree_control"
file_name Events = bytes "cgroup.events"
file_name (Current Pages) = bytes "memory.current"
file_name (Current Processes) = bytes "pids.current"
file_name (Value s) = setting_name s

-- the first of a list whose name it is
unfoldable pub named : {A : Type 0} → (A → List ℕ) → List ℕ → List A → Option A
named name w [] = None
named name w (a ∷ as') = pick (same_bytes w (name a)) (Some a) (named name w as')

abbrev pub controller_named : List ℕ → Option Controller
controller_named w = named controller_name w controllers

abbrev pub setting_named : List ℕ → Option Setting
setting_named w = named setting_name w settings

abbrev pub file_named : List ℕ → Option File
file_named w = named file_name w files
