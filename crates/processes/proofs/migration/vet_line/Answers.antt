-- `processes::migration::vet_line` meets its contract: a line that is one number word is what its number is. Assumes nothing.
use Rattle.std.specs.Prelude.{Some}
use native.Mathlib.Omega.{arith}
use mathlib.Core.Path.{◌≡◌, sym, ◌∙◌}
use Rattle.tree.specs.Layout.{view}
use Rattle.processes.proofs.MigrationLaws.{line-number}
use Rattle.processes.proofs.migration.vet_line.Goals as goal

pub returns : goal.returns
returns c =
    let found : c.parse_number_line.result ≡ Some c.in_ok-number.number = grind arith in
    c.vet_number.ensures
    ∙ line-number (view c.args.tree.now) c.args.line.now _ (sym c.is_too_long.ensures ∙ c.if-is_too_long.false) (sym found ∙ c.parse_number_line.ensures)
