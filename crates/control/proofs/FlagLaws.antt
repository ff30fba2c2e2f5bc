-- A flag for each controller, and what the wishes of a line ask. Assumes nothing.
use Prim.Native.Nat.{ℕ}
use mathlib.Core.Bool.{Bool}
use mathlib.Core.List.{List}
use mathlib.Core.Path.{◌≡◌, ap, ◌∙◌, fun_ext}
use Rattle.model.specs.Tree.{Tree, Controls}
use Rattle.model.specs.Control.{any_controller, at_controller, asked}
use Rattle.model.specs.declared.Controller.{Controller}
use Rattle.model.specs.declared.Controller.TheVariants.{Cpu, Io, Memory, Pids}
use Rattle.model.specs.declared.PerController.{PerController}
use Rattle.lines.specs.Control.{AsksOf}
use Rattle.lines.specs.declared.control.Wish.{Wish}
use Rattle.control.specs.Flags.{EachFlag, asks_of, new_set, absent, leaving, is_any_held, joins_populated}

module _ {r : PerController Bool} {f : Controls} (k : EachFlag r f) where
  each_flag : at_controller r ≡ f
  each_flag = fun_ext go
    where
      go : (c : Controller) → at_controller r c ≡ f c
      go Cpu = k.cpu
      go Io = k.io
      go Memory = k.memory
      go Pids = k.pids

  pub any_each : any_controller (at_controller r) ≡ any_controller f
  any_each = ap any_controller each_flag

-- the wishes of a line are what it asks
asks-same : {line : List ℕ} {w : PerController Wish} → AsksOf line w → asks_of w ≡ asked line
asks-same {line} {w} k = fun_ext go
  where
    go : (c : Controller) → asks_of w c ≡ asked line c
    go Cpu = k.cpu
    go Io = k.io
    go Memory = k.memory
    go Pids = k.pids

module _ {line : List ℕ} {w : PerController Wish} (k : AsksOf line w) (t : Tree) (g : ℕ) where
  pub absent_asked : {r : PerController Bool} → EachFlag r (absent t g (asks_of w))
      → any_controller (at_controller r) ≡ any_controller (absent t g (asked line))
  absent_asked e = any_each e ∙ ap (λ a. any_controller (absent t g a)) (asks-same k)

  pub leaving_asked : {r : PerController Bool} → EachFlag r (leaving t g (asks_of w)) → at_controller r ≡ leaving t g (asked line)
  leaving_asked e = each_flag e ∙ ap (leaving t g) (asks-same k)

  pub new_set_asked : {r : PerController Bool} → EachFlag r (new_set t g (asks_of w)) → at_controller r ≡ new_set t g (asked line)
  new_set_asked e = each_flag e ∙ ap (new_set t g) (asks-same k)

  pub held_asked : {r : PerController Bool} → EachFlag r (leaving t g (asks_of w))
      → is_any_held t g (at_controller r) ≡ is_any_held t g (leaving t g (asked line))
  held_asked e = ap (is_any_held t g) (leaving_asked e)

  pub joins_asked : joins_populated t g (asks_of w) ≡ joins_populated t g (asked line)
  joins_asked = ap (joins_populated t g) (asks-same k)
