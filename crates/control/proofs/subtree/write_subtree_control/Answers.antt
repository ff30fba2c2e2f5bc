-- `control::subtree::write_subtree_control` meets its contract: a refusal stores nothing, and otherwise the
-- flags stored are those of the line. Assumes nothing.
use mathlib.Core.Path.{sym}
use Rattle.model.specs.Calls.{write_control}
use Rattle.tree.specs.Layout.{view}
use Rattle.control.proofs.FlagLaws.{leaving_asked, new_set_asked}
use Rattle.control.proofs.ResetLaws.{ranged-kept}
use Rattle.tree.proofs.AnswerLaws.{refused}
use Rattle.control.proofs.StoredLaws.{control-row, control-done}
use Rattle.control.proofs.subtree.write_subtree_control.Goals as goal

pub returns-in_err-vet_control : goal.returns-in_err-vet_control
returns-in_err-vet_control c =
    let a = c.args in
    refused _ (write_control a.user a.group.0 a.line.now) c.requires _ _ c.in_err-vet_control.ensures c.from_residual.ensures.1

pub new_set-set-requires : goal.new_set-set-requires
new_set-set-requires c = (control-row _ c.requires _ _ _ (sym c.in_ok-vet_control.ensures)).low

pub leaving-gone-requires : goal.leaving-gone-requires
leaving-gone-requires c = (control-row _ c.requires _ _ _ (sym c.in_ok-vet_control.ensures)).low

pub set_and_reset-requires : goal.set_and_reset-requires
set_and_reset-requires c = (ranged-kept _ c.requires, control-row _ c.requires _ _ _ (sym c.in_ok-vet_control.ensures))

pub returns : goal.returns
returns c =
    let t = view c.args.tree.now in
    control-done _ c.requires _ _ _ (sym c.in_ok-vet_control.ensures) _ _ _
    (new_set_asked c.asks-wishes.ensures t c.args.group.0 c.new_set-set.ensures)
    (leaving_asked c.asks-wishes.ensures t c.args.group.0 c.leaving-gone.ensures)
    c.set_and_reset.ensures
