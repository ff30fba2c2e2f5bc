-- `processes::migration::vet_number` meets its contract: a number that is not 0 is refused where its process is. Assumes nothing.
use Rattle.std.proofs.lemmas.Result.{err_from_is_err_and}
use Rattle.tree.specs.Layout.{view}
use Rattle.processes.proofs.MigrationLaws.{number-refused}
use Rattle.processes.proofs.migration.vet_number.Goals as goal

pub returns-in_err-vet_process : goal.returns-in_err-vet_process
returns-in_err-vet_process c =
    let p = err_from_is_err_and c.from_residual.result c.from_residual.ensures.1 in
    rw (p.1, p.2) (number-refused (view c.args.tree.now) c.args.number _ c.if-number-eq0.false c.in_err-vet_process.ensures)
