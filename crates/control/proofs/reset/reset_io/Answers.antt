-- `control::reset::reset_io` meets its contract: four free slots are no device, and with no store the group stays as it is.
-- Assumes nothing.
use mathlib.Core.Path.{refl, ap}
use Rattle.model.specs.Tree.{with_io, with_settings, settings_of}
use Rattle.tree.specs.Layout.{view}
use Rattle.control.proofs.WroteLaws.{wrote-group-as, wrote_none}
use Rattle.control.proofs.ResetLaws.{no-slots-packed, no-slots-table}
use Rattle.control.proofs.reset.reset_io.Goals as goal

pub set_slots-requires : goal.set_slots-requires
set_slots-requires c = (c.requires, no-slots-packed c.empty.ensures)

pub returns-then-gone : goal.returns-then-gone
returns-then-gone c =
    let v = (view c.args.t.now).group c.args.k.0 in
    rw c.if-gone.true
    (wrote-group-as _ _ (ap (λ io. with_settings (with_io io (settings_of v)) v) (no-slots-table c.empty.ensures)) c.set_slots.ensures)

pub returns-else-gone : goal.returns-else-gone
returns-else-gone c = rw c.if-gone.false (wrote_none _ _ c.requires.long refl)
