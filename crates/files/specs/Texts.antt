-- What the writers of a text's parts ask and write: document 01, "What a reader sees". Assumes nothing.
use Rattle.std.specs.Prelude.{ℕ, ◌+◌, ◌*◌, ◌≤◌, true, List, ◌∷◌, ◌++◌, ◌≡◌, eqb, length, Result}
use Rattle.model.specs.Functions.{pick}
use Rattle.model.specs.Sizes.{deepest, longest_listing, longest_membership, most_devices, longest_shown}
use Rattle.model.specs.Tree.{Tree}
use Rattle.model.specs.Zombies.{there, path_parents, path_depths, process_taken}
use Rattle.model.specs.Text.{bytes, space, ended}
use Rattle.model.specs.DeviceLines.{pair_text}
use Rattle.model.specs.Settings.{shown_device, value_text}
use Rattle.model.specs.Hierarchy.{facts_of}
use Rattle.model.specs.Files.{path, contents}
use Rattle.model.specs.declared.Errno.{Errno}
use Rattle.model.specs.declared.File.{File}
use Rattle.model.specs.declared.File.TheVariants.{Procs, Controllers, SubtreeControl, Events, Current, Value}
use Rattle.model.specs.declared.Key.{Key}
use Rattle.model.specs.declared.Key.TheVariants.{Rbps, Wbps, Riops, Wiops}
use Rattle.model.specs.declared.Setting.TheVariants.{CpuWeight, CpuMax, IoMax, Max}
use Rattle.devices.specs.Slots.{limits_of, line_of}
use Rattle.devices.specs.declared.slot.Slot.{Slot}
use Rattle.text.specs.Write.{Delivers}
use Rattle.tree.specs.Layout.{view}
use Rattle.tree.specs.Kept.{Kept, KeptAt}

-- io.max is no longer: a line for each device
abbrev pub longest_devices : ℕ
longest_devices = most_devices * longest_shown

-- nor is any other file but cgroup.procs
abbrev pub longest_other : ℕ
longest_other = 128

-- no text of the file is longer
abbrev pub longest : File → ℕ
longest Procs = longest_listing
longest Controllers = longest_other
longest SubtreeControl = longest_other
longest Events = longest_other
longest (Current r) = longest_other
longest (Value CpuWeight) = longest_other
longest (Value CpuMax) = longest_other
longest (Value IoMax) = longest_devices
longest (Value (Max r)) = longest_other

-- the text of a file of a group
unfoldable pub file_contents : List ℕ → ℕ → File → List ℕ
file_contents xs g file = contents (facts_of (view xs)) g file

-- a live group, and n bytes with room for the file's text
pub record Ready (xs : List ℕ) (g : ℕ) (file : File) (n : ℕ) : Type 0 where
  pub group : KeptAt xs g
  pub room : longest file ≤ n

-- the text of a file delivered
abbrev pub DeliversFile : List ℕ → ℕ → File → List ℕ → Result ℕ Errno → List ℕ → Type 0
DeliversFile xs g file old r new = Delivers (file_contents xs g file) old r new

-- words with a group that is live or was removed
pub record ThereAt (xs : List ℕ) (g : ℕ) : Type 0 where
  pub kept : Kept xs
  pub there : there (view xs) g ≡ true

-- such a group no deeper than `deep`, and a membership line with room for its path
pub record HasPath (xs : List ℕ) (g deep : ℕ) (out : List ℕ) : Type 0 where
  pub group : ThereAt xs g
  pub level : path_depths (view xs) g ≤ deep
  pub room : length out + length (path (path_parents (view xs)) deep g) ≤ longest_membership

-- a live process or a zombie
pub record HasLine (xs : List ℕ) (p : ℕ) : Type 0 where
  pub kept : Kept xs
  pub taken : process_taken (view xs) p ≡ true

-- the path as a membership line shows it
abbrev pub place_path : Tree → ℕ → List ℕ
place_path t g = pick (eqb g 0) (bytes "/") (path (path_parents t) deepest g)

-- a list with a name more: after a space, unless it is the first
abbrev pub with_name : List ℕ → List ℕ → List ℕ
with_name out name = pick (eqb (length out) 0) name (out ++ space ∷ name)

-- the limits of a slot: each key after a space
abbrev pub pair_after : Slot → Key → List ℕ
pair_after x k = space ∷ pair_text k (limits_of x k)

abbrev pub limits_text : Slot → List ℕ
limits_text x = pair_after x Rbps ++ (pair_after x Wbps ++ (pair_after x Riops ++ pair_after x Wiops))

-- the line of a slot in use
abbrev pub slot_text : Slot → List ℕ
slot_text x = ended (value_text (shown_device (line_of x)))
