-- `control::reset::set_and_reset` meets its contract: the set changes no child, so the children are those of before.
-- Assumes nothing.
use mathlib.Core.Path.{sym}
use Rattle.control.proofs.ResetLaws.{set-then-reset, reset-none}
use Rattle.control.proofs.reset.set_and_reset.Goals as goal

-- none is gone
pub returns-else-is_any : goal.returns-else-is_any
returns-else-is_any c =
    let p = c.set_controls.ensures in
    set-then-reset c.args.t.now _ _ c.args.set p _ _ (reset-none _ _ _ p.long (sym c.if-is_any.ensures))

pub returns-then-is_any : goal.returns-then-is_any
returns-then-is_any c = set-then-reset c.args.t.now _ _ c.args.set c.set_controls.ensures _ _ c.reset_children.ensures
