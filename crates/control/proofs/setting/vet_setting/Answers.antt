-- `control::setting::vet_setting` meets its contract: its tests in their order are the definitions' checks, and those of the line
-- are the ones that are left. Assumes nothing.
use native.Mathlib.Omega.{arith}
use mathlib.Core.Path.{sym, ◌∙◌}
use Rattle.tree.proofs.KeptLaws.{live-row, parent-low}
use Rattle.control.proofs.StoredLaws.{gives-setting}
use Rattle.control.proofs.setting.vet_setting.Goals as goal

pub is_on-requires : goal.is_on-requires
is_on-requires c = live-row _ c.requires _ (sym c.if-not-is_live.ensures)

pub may_write-requires : goal.may_write-requires
may_write-requires c = omega (arith, parent-low _ c.requires _ _ (sym c.if-not-is_live.ensures) c.parent.ensures)

-- as the value
pub returns : goal.returns
returns c =
    gives-setting _ _ _ _ _ _ (sym c.setting_named.ensures ∙ c.in_ok-setting.ensures.ok_part) c.if-group-ge-GROUPS.false c.if-not-is_live.ensures (cc) (cc)
    c.vet_value.result c.vet_value.ensures
