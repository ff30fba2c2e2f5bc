-- `processes::migration::write_procs` meets its contract: the checks of the group, of the line and of the move together are the
-- verdict, and a process that has migrated is the definition's effect. Assumes nothing.
use Rattle.tree.proofs.AnswerLaws.{refused}
use Rattle.processes.proofs.PlaceLaws.{standing-low}
use Rattle.processes.proofs.MigrationLaws.{group-refused, line_refused, LineVetted, procs-to, procs-from, procs-home, procs-moving, procs-migratable, move-verdict, move-done}
use Rattle.processes.proofs.migration.write_procs.Goals as goal
use Rattle.processes.proofs.migration.write_procs.Goals.{In_ok-process}

-- refused by the group's checks
pub returns-in_err-vet_group : goal.returns-in_err-vet_group
returns-in_err-vet_group c = refused _ _ c.requires _ _ (group-refused c.args.tree.now c.args.user c.args.group.0 c.args.line.now _ c.in_err-vet_group.ensures) c.from_residual.ensures.1

-- refused by the line's
pub returns-in_err-process : goal.returns-in_err-process
returns-in_err-process c =
    refused _ _ c.requires _ _ (line_refused c.args.tree.now c.args.user c.args.group.0 c.args.line.now c.in_ok-vet_group.ensures _ c.in_err-process.ensures) c.from_residual-in_err-process.ensures.1

vetted : (c : In_ok-process) → LineVetted c.args.tree.now c.args.user c.args.group.0 c.args.line.now c.in_ok-process.process
vetted c = record { kept = c.requires; target = c.in_ok-vet_group.ensures; named = c.in_ok-process.ensures }

pub process_group-home-requires : goal.process_group-home-requires
process_group-home-requires c = standing-low _ _ (procs-from (vetted (goal.at.process_group-home-requires c).In_ok-process))

pub common_ancestor-meeting-requires : goal.common_ancestor-meeting-requires
common_ancestor-meeting-requires c =
    let v = vetted (goal.at.common_ancestor-meeting-requires c).In_ok-process in
    (procs-home v _ c.process_group-home.ensures, procs-to v)

pub vet_move-requires : goal.vet_move-requires
vet_move-requires c =
    procs-moving (vetted (goal.at.vet_move-requires c).In_ok-process) _ c.process_group-home.ensures _ c.common_ancestor-meeting.ensures

-- refused by the move's
pub returns-in_err-vet_move : goal.returns-in_err-vet_move
returns-in_err-vet_move c =
    refused _ _ c.requires _ _ (move-verdict (vetted (goal.at.returns-in_err-vet_move c).In_ok-process) _ c.in_err-vet_move.ensures)
    c.from_residual-in_err-vet_move.ensures.1

pub chain_of-source-requires : goal.chain_of-source-requires
chain_of-source-requires c = procs-home (vetted (goal.at.chain_of-source-requires c).In_ok-process) _ c.process_group-home.ensures

pub chain_of-target-requires : goal.chain_of-target-requires
chain_of-target-requires c = procs-to (vetted (goal.at.chain_of-target-requires c).In_ok-process)

pub migrate-requires : goal.migrate-requires
migrate-requires c =
    procs-migratable (vetted (goal.at.migrate-requires c).In_ok-process) _ c.process_group-home.ensures _ c.common_ancestor-meeting.ensures
    _ _ c.chain_of-source.ensures c.chain_of-target.ensures

-- moved
pub returns : goal.returns
returns c = move-done (vetted (goal.at.returns c).In_ok-process) c.in_ok-vet_move.ensures _ _ c.chain_of-target.ensures c.migrate.ensures
