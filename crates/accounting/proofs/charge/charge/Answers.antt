-- `accounting::charge::charge` meets its contract: the room that the search finds is the definition's, and the stores after it are
-- the definition's effect. Assumes nothing.
use mathlib.Core.Path.{sym}
use Rattle.std.proofs.lemmas.Result.{err_from_is_err_and}
use Rattle.tree.proofs.RoomCallLaws.{room-call-refused}
use Rattle.accounting.proofs.ChargeLaws.{charge-call, charge-range, Charging, charge-home, charge-chargeable, charge-full, charge-own, charge-granted}
use Rattle.accounting.proofs.charge.charge.Goals as goal
use Rattle.accounting.proofs.charge.charge.Goals.{After-process_group-group}

-- refused by the checks before room
pub returns-in_err-vet_charge : goal.returns-in_err-vet_charge
returns-in_err-vet_charge c =
    let p = err_from_is_err_and c.from_residual.result c.from_residual.ensures.1 in
    rw (p.1, p.2) (room-call-refused (charge-call _ c.requires _ _) _ (sym c.in_err-vet_charge.ensures))

pub process_group-group-requires : goal.process_group-group-requires
process_group-group-requires c = charge-range _ c.requires _ _ c.in_ok-vet_charge.ensures

charging : (c : After-process_group-group) → Charging c.args.tree.now c.args.process.0 c.args.pages c.process_group-group.result.0
charging c = record { kept = c.requires; passed = c.in_ok-vet_charge.ensures; group = c.process_group-group.ensures }

pub chain_of-requires : goal.chain_of-requires
chain_of-requires c = charge-home (charging (goal.at.chain_of-requires c).After-process_group-group)

pub try_charge-requires : goal.try_charge-requires
try_charge-requires c = charge-chargeable (charging (goal.at.try_charge-requires c).After-process_group-group) c.chain_of.ensures

-- no room
pub returns-in_err-consulted : goal.returns-in_err-consulted
returns-in_err-consulted c =
    let p = err_from_is_err_and c.from_residual-in_err-consulted.result c.from_residual-in_err-consulted.ensures.1 in
    rw (p.1, p.2)
    (charge-full (charging (goal.at.returns-in_err-consulted c).After-process_group-group) c.chain_of.ensures c.try_charge.ensures _ c.in_err-consulted.was)

-- the sums of the chain have the pages, and its group can take them
pub adjust_own-requires : goal.adjust_own-requires
adjust_own-requires c =
    charge-own (charging (goal.at.adjust_own-requires c).After-process_group-group) c.chain_of.ensures c.try_charge.ensures _ c.in_ok-consulted.was

-- granted
pub returns : goal.returns
returns c =
    charge-granted (charging (goal.at.returns c).After-process_group-group) c.chain_of.ensures c.try_charge.ensures _ c.in_ok-consulted.was _ c.adjust_own.ensures
