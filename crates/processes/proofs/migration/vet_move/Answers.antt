-- `processes::migration::vet_move` meets its contract: its tests are the checks, in their order. Assumes nothing.
use mathlib.Core.Path.{refl, sym, ◌∙◌}
use Rattle.model.specs.Checks.{first}
use Rattle.processes.specs.Migration.{move_checks}
use Rattle.processes.proofs.PlaceLaws.{standing-low}
use Rattle.processes.proofs.MigrationLaws.{may-moved, meeting-low}
use Rattle.processes.proofs.migration.vet_move.Goals as goal

pub may_move-requires : goal.may_move-requires
may_move-requires c = (standing-low _ _ c.requires.from, meeting-low c.requires)

-- 13: the user may not move it
pub returns-then-not-may_move : goal.returns-then-not-may_move
unfolding move_checks first
returns-then-not-may_move c =
    rw (sym (may-moved c.requires c.args.user _ c.may_move.ensures) ∙ c.if-not-may_move.true) refl
