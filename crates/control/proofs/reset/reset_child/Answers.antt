-- `control::reset::reset_child` meets its contract: the stores one after another are the reset of all that is gone.
-- Assumes nothing.
use mathlib.Core.Path.{sym}
use Rattle.control.proofs.ResetLaws.{wrote-no-child, wrote-child}
use Rattle.control.proofs.reset.reset_child.Goals as goal

pub returns-then-not-is_child : goal.returns-then-not-is_child
returns-then-not-is_child c = wrote-no-child c.args.t.now _ _ c.args.gone c.requires.long (sym c.if-not-is_child.ensures)

pub returns : goal.returns
returns c =
    wrote-child c.args.t.now _ _ c.args.gone _ _ _ _ (sym c.if-not-is_child.ensures)
    c.reset_cpu.ensures c.reset_io.ensures c.reset_limit.ensures c.reset_limit-2.ensures
