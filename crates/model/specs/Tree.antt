-- The tree: document 01, "What the host keeps", and orders 1 and 5. Every field is a function of the number, and a number of which nothing is
-- kept has one blank value, so that one tree has one description. Assumes nothing.
use Rattle.std.specs.Prelude.{ℕ, Bool, true, false, List, []}
use Rattle.model.specs.Functions.{upd}
use Rattle.model.specs.Devices.{DeviceLimits}
use Rattle.model.specs.declared.Resource.{Resource}
use Rattle.model.specs.declared.Resource.TheVariants.{Pages, Processes}
use Rattle.model.specs.declared.Limit.{Limit}
use Rattle.model.specs.declared.Limit.TheVariants.{NoLimit}
use Rattle.model.specs.declared.Controller.{Controller}
use Rattle.model.specs.declared.Controller.TheVariants.{Memory, Pids}

-- a control set
abbrev pub Controls : Type 0
Controls = Controller → Bool

-- the controller whose limit counts the resource
abbrev pub controller_of : Resource → Controller
controller_of Pages = Memory
controller_of Processes = Pids

-- What the tree and the book of demand 3 both keep of a group; the limits are in pages and in processes.
pub record Core : Type 0 where
  pub live : Bool
  pub parent : ℕ
  pub own : ℕ
  pub limit : Resource → Limit

-- cpu.weight, and the two words of cpu.max.
pub record CpuSettings : Type 0 where
  pub weight : ℕ
  pub quota : Limit
  pub period : ℕ

pub record Group : Type 0 where
  pub core : Core
  pub depth : ℕ
  pub owner : ℕ
  pub set : Controls
  pub cpu : CpuSettings
  pub io : List DeviceLimits

-- where a process stands: nowhere if it is free
pub data Place : Type 0 where
  nowhere : Place
  at : ℕ → Place

pub record Process : Type 0 where
  pub place : Place
  pub user : ℕ

-- Order 5. What is kept of a removed group while a zombie's path runs through it, a dying cgroup in Linux's word: what the
-- zombie's membership line needs.
pub data Remnant : Type 0 where
  no_remnant : Remnant
  remnant : (parent depth : ℕ) → Remnant

-- What is kept of the dead: where each zombie ended, nowhere for a number that is no zombie's; and what is left of each group.
pub record Past : Type 0 where
  pub zombie : ℕ → Place
  pub remains : ℕ → Remnant

-- `machine` is document 01's machine size, in pages. The dead stand beside `group` and `process`, which speak of the live alone.
pub record Tree : Type 0 where
  pub machine : ℕ
  pub group : ℕ → Group
  pub process : ℕ → Process
  pub past : Past

-- What is kept of a number that is not live.
abbrev pub no_core : Core
no_core = record { live = false; parent = 0; own = 0; limit = λ r. NoLimit }

abbrev pub no_controls : Controls
no_controls c = false

abbrev pub no_group : Group
no_group =
    record { core = no_core; depth = 0; owner = 0; set = no_controls; cpu = record { weight = 0; quota = NoLimit; period = 0 }; io = [] }

abbrev pub no_process : Process
no_process = record { place = nowhere; user = 0 }

-- cpu.weight 100, cpu.max "max 100000"
abbrev pub default_cpu : CpuSettings
default_cpu = record { weight = 100; quota = NoLimit; period = 100000 }

-- A group when it is made: no pages, no limits; an empty set, the defaults.
abbrev pub new_core : ℕ → Core
new_core parent = record { live = true; parent = parent; own = 0; limit = λ r. NoLimit }

abbrev pub new_group : ℕ → ℕ → ℕ → Group
new_group parent depth owner =
    record { core = new_core parent; depth = depth; owner = owner; set = no_controls; cpu = default_cpu; io = [] }

-- One part of a group changed.
abbrev pub with_own : ℕ → Core → Core
with_own n c = record { live = c.live; parent = c.parent; own = n; limit = c.limit }

abbrev pub with_limits : (Resource → Limit) → Core → Core
with_limits l c = record { live = c.live; parent = c.parent; own = c.own; limit = l }

abbrev pub with_core : Core → Group → Group
with_core c g = record { core = c; depth = g.depth; owner = g.owner; set = g.set; cpu = g.cpu; io = g.io }

abbrev pub with_owner : ℕ → Group → Group
with_owner o g = record { core = g.core; depth = g.depth; owner = o; set = g.set; cpu = g.cpu; io = g.io }

abbrev pub with_set : Controls → Group → Group
with_set s g = record { core = g.core; depth = g.depth; owner = g.owner; set = s; cpu = g.cpu; io = g.io }

-- The settings of a group, taken together; `io` is the table of io.max.
pub record Settings : Type 0 where
  pub limit : Resource → Limit
  pub cpu : CpuSettings
  pub io : List DeviceLimits

abbrev pub settings_of : Group → Settings
settings_of g = record { limit = g.core.limit; cpu = g.cpu; io = g.io }

abbrev pub with_settings : Settings → Group → Group
with_settings s g =
    record { core = with_limits s.limit g.core; depth = g.depth; owner = g.owner; set = g.set; cpu = s.cpu; io = s.io }

-- the settings of a group when it is made: "Settings and defaults"; in io.max no device
abbrev pub new_settings : Settings
new_settings = record { limit = λ r. NoLimit; cpu = default_cpu; io = [] }

-- One part of them changed.
abbrev pub with_amounts : (Resource → Limit) → Settings → Settings
with_amounts l s = record { limit = l; cpu = s.cpu; io = s.io }

abbrev pub with_cpu : CpuSettings → Settings → Settings
with_cpu c s = record { limit = s.limit; cpu = c; io = s.io }

abbrev pub with_io : List DeviceLimits → Settings → Settings
with_io xs s = record { limit = s.limit; cpu = s.cpu; io = xs }

-- the limits with that of one resource changed
abbrev pub with_limit : Resource → Limit → (Resource → Limit) → Resource → Limit
with_limit Pages l f Pages = l
with_limit Pages l f Processes = f Processes
with_limit Processes l f Pages = f Pages
with_limit Processes l f Processes = l

-- One group or one process of the tree changed, or what is kept of the dead.
abbrev pub at_group : Tree → ℕ → Group → Tree
at_group t g v = record { machine = t.machine; group = upd t.group g v; process = t.process; past = t.past }

abbrev pub at_process : Tree → ℕ → Process → Tree
at_process t p v = record { machine = t.machine; group = t.group; process = upd t.process p v; past = t.past }

abbrev pub with_past : Past → Tree → Tree
with_past d t = record { machine = t.machine; group = t.group; process = t.process; past = d }

-- Parts of a tree, as functions.
abbrev pub cores : Tree → ℕ → Core
cores t g = (t.group g).core

abbrev pub lives : Tree → ℕ → Bool
lives t g = (t.group g).core.live

abbrev pub parents : Tree → ℕ → ℕ
parents t g = (t.group g).core.parent

abbrev pub depths : Tree → ℕ → ℕ
depths t g = (t.group g).depth

abbrev pub owners : Tree → ℕ → ℕ
owners t g = (t.group g).owner

abbrev pub sets : Tree → ℕ → Controls
sets t g = (t.group g).set

abbrev pub settings_at : Tree → ℕ → Settings
settings_at t g = settings_of (t.group g)

abbrev pub places : Tree → ℕ → Place
places t p = (t.process p).place

-- whether a process with that place is live, and in which group it is then
abbrev pub is_live : Place → Bool
is_live nowhere = false
is_live (at g) = true

abbrev pub group_of : Place → ℕ
group_of nowhere = 0
group_of (at g) = g

abbrev pub zombies : Tree → ℕ → Place
zombies t p = t.past.zombie p

abbrev pub remains : Tree → ℕ → Remnant
remains t g = t.past.remains g
