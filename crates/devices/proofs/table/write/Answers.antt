-- `devices::table::write` meets its contract: out where the line is all "max", else in. Assumes nothing.
use mathlib.Core.Path.{sym, ◌∙◌}
use native.Mathlib.Omega.{arith}
use Rattle.devices.proofs.LineLaws.{written_out, written_in}
use Rattle.devices.proofs.table.write.Goals as goal

pub returns-then-is_all_max : goal.returns-then-is_all_max
returns-then-is_all_max c =
    written_out _ _ c.requires.0 (omega arith) c.requires.1 _ (omega arith) (sym c.is_all_max.ensures ∙ c.if-is_all_max.true) c.without_device.ensures

pub returns : goal.returns
returns c = written_in _ _ c.requires.0 (omega arith) c.requires.1 _ (sym c.is_all_max.ensures ∙ c.if-is_all_max.false) c.with_slot.ensures
