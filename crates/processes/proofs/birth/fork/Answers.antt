-- `processes::birth::fork` meets its contract: the room that the search finds is the definition's, and a process that enters the
-- parent's group is its effect. Assumes nothing.
use native.Mathlib.Omega.{arith}
use mathlib.Core.Path.{sym}
use Rattle.std.proofs.lemmas.Result.{err_from_is_err_and}
use Rattle.tree.proofs.RoomCallLaws.{room-call-refused}
use Rattle.processes.proofs.BirthLaws.{fork-call, fork-range, Forking, fork-home, fork-chargeable, fork-full, fork-countable, fork-rows, fork-granted}
use Rattle.processes.proofs.birth.fork.Goals as goal
use Rattle.processes.proofs.birth.fork.Goals.{After-process_group-group}

-- refused by the checks before room
pub returns-in_err-vet_fork : goal.returns-in_err-vet_fork
returns-in_err-vet_fork c =
    let p = err_from_is_err_and c.from_residual.result c.from_residual.ensures.1 in
    rw (p.1, p.2) (room-call-refused (fork-call _ c.requires _ _) _ (sym c.in_err-vet_fork.ensures))

pub process_group-group-requires : goal.process_group-group-requires
process_group-group-requires c = fork-range _ c.requires _ _ c.in_ok-vet_fork.ensures

pub process_user-user-requires : goal.process_user-user-requires
process_user-user-requires c = fork-range _ c.requires _ _ c.in_ok-vet_fork.ensures

forking : (c : After-process_group-group) → Forking c.args.tree.now c.args.parent.0 c.args.new.0 c.process_group-group.result.0
forking c = record { kept = c.requires; passed = c.in_ok-vet_fork.ensures; group = c.process_group-group.ensures }

pub chain_of-requires : goal.chain_of-requires
chain_of-requires c = fork-home (forking (goal.at.chain_of-requires c).After-process_group-group)

pub try_charge-requires : goal.try_charge-requires
try_charge-requires c = fork-chargeable (forking (goal.at.try_charge-requires c).After-process_group-group) c.chain_of.ensures

-- no room
pub returns-in_err-consulted : goal.returns-in_err-consulted
returns-in_err-consulted c =
    let p = err_from_is_err_and c.from_residual-in_err-consulted.result c.from_residual-in_err-consulted.ensures.1 in
    rw (p.1, p.2)
    (fork-full (forking (goal.at.returns-in_err-consulted c).After-process_group-group) c.chain_of.ensures c.try_charge.ensures _ c.in_err-consulted.was)

-- one member more, where the sums of the chain have one more
pub adjust-requires : goal.adjust-requires
adjust-requires c =
    fork-countable (forking (goal.at.adjust-requires c).After-process_group-group) c.chain_of.ensures c.try_charge.ensures
    _ c.in_ok-consulted.was _ (omega arith)

pub put_process-requires : goal.put_process-requires
put_process-requires c =
    fork-rows (forking (goal.at.put_process-requires c).After-process_group-group) c.chain_of.ensures c.try_charge.ensures
    _ c.in_ok-consulted.was _ c.adjust.ensures

-- granted
pub returns : goal.returns
returns c =
    fork-granted (forking (goal.at.returns c).After-process_group-group) c.chain_of.ensures c.try_charge.ensures
    _ c.in_ok-consulted.was _ c.adjust.ensures _ c.process_user-user.ensures _ c.put_process.ensures
