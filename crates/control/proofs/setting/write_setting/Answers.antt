-- `control::setting::write_setting` meets its contract: a refusal stores nothing, and otherwise the value stored is the
-- line's. Assumes nothing.
use Rattle.model.specs.Calls.{write_setting}
use Rattle.tree.proofs.AnswerLaws.{refused}
use Rattle.control.proofs.StoredLaws.{verdict-before, settable, setting-stored}
use Rattle.control.proofs.setting.write_setting.Goals as goal

-- refused by a check before the last
pub returns-in_err-value : goal.returns-in_err-value
returns-in_err-value c =
    let a = c.args in
    refused _ (write_setting a.user a.group.0 a.file.now a.line.now) c.requires _ _ (verdict-before _ _ _ _ _ _ c.in_err-value.ensures)
    c.from_residual.ensures.1

pub store-requires : goal.store-requires
store-requires c = settable _ c.requires _ _ _ _ _ c.in_ok-value.ensures

-- stored, or no room
pub returns : goal.returns
returns c = setting-stored _ c.requires _ _ _ _ _ c.in_ok-value.ensures _ _ c.store.ensures
