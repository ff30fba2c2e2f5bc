-- Laws of the names of controllers, settings and files: each name finds what it names, by computation, and what is found has
-- the name. Assumes nothing.
use Rattle.std.specs.Prelude.{Some}
use Prim.Native.Nat.{ℕ}
use mathlib.Core.List.{List, [], ◌∷◌}
use mathlib.Core.Logic.{◌≢◌}
use mathlib.Core.Path.{◌≡◌, refl, ap, ◌∙◌}
use native.Mathlib.Omega.{arith}
use Rattle.model.specs.Functions.{All}
use Rattle.model.specs.Text.{same_bytes}
use Rattle.model.specs.Names.{controller_name, base_settings, setting_name, file_name, named, controller_named, setting_named, file_named}
use Rattle.model.specs.declared.Resource.TheVariants.{Pages, Processes}
use Rattle.model.specs.declared.Controller.{Controller}
use Rattle.model.specs.declared.Controller.TheVariants.{Cpu, Io, Memory, Pids}
use Rattle.model.specs.declared.Setting.{Setting}
use Rattle.model.specs.declared.Setting.TheVariants.{CpuWeight, CpuMax, IoMax, Max}
use Rattle.model.specs.declared.File.{File}
use Rattle.model.specs.declared.File.TheVariants.{Procs, Controllers, SubtreeControl, Events, Current, Value}
use Rattle.model.proofs.FunctionLaws.{split}
use Rattle.model.proofs.TextLaws.{same_bytes→≡}

pub controller_named-controller_name : (c : Controller) → controller_named (controller_name c) ≡ Some c
unfolding named same_bytes
controller_named-controller_name Cpu = refl
controller_named-controller_name Io = refl
controller_named-controller_name Memory = refl
controller_named-controller_name Pids = refl

pub setting_named-setting_name : (s : Setting) → setting_named (setting_name s) ≡ Some s
unfolding named same_bytes
setting_named-setting_name CpuWeight = refl
setting_named-setting_name CpuMax = refl
setting_named-setting_name IoMax = refl
setting_named-setting_name (Max Pages) = refl
setting_named-setting_name (Max Processes) = refl

-- every setting but io.max is one of the four
pub of-base : (P : Setting → Type 0) → All P base_settings → (s : Setting) → s ≢ IoMax → P s
unfolding All
of-base P h CpuWeight ne = h.0
of-base P h CpuMax ne = h.1.0
of-base P h IoMax ne = absurd (ne refl)
of-base P h (Max Pages) ne = h.1.1.0
of-base P h (Max Processes) ne = h.1.1.1.0

pub file_named-file_name : (f : File) → file_named (file_name f) ≡ Some f
unfolding named same_bytes
file_named-file_name Procs = refl
file_named-file_name Controllers = refl
file_named-file_name SubtreeControl = refl
file_named-file_name Events = refl
file_named-file_name (Current Pages) = refl
file_named-file_name (Current Processes) = refl
file_named-file_name (Value CpuWeight) = refl
file_named-file_name (Value CpuMax) = refl
file_named-file_name (Value IoMax) = refl
file_named-file_name (Value (Max Pages)) = refl
file_named-file_name (Value (Max Processes)) = refl

pub named-name : {A : Type 0} (name : A → List ℕ) (w : List ℕ) (as' : List A) (a : A) → named name w as' ≡ Some a → w ≡ name a
unfolding named
named-name name w [] a e = let z : ◌≡◌ {A = ℕ} 0 1 = cc in absurd (omega arith)
named-name name w (x ∷ xs) a e =
    split (same_bytes w (name x))
    (λ y. let d : x ≡ a = some_same (rw y at e) in same_bytes→≡ w (name x) y ∙ ap name d)
    (λ n. named-name name w xs a (rw n at e))
  where
    some_same : Some x ≡ Some a → x ≡ a
    some_same h = cc
