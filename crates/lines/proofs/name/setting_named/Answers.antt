-- `lines::name::setting_named` meets its contract: the setting of the file. Assumes nothing.
use mathlib.Core.Path.{ap, sym, ◌∙◌}
use Rattle.std.specs.Prelude.{Some}
use Rattle.lines.proofs.NameLaws.{found_setting, no-setting, setting-found}
use Rattle.lines.proofs.name.setting_named.Goals as goal

pub returns-in_err-s : goal.returns-in_err-s
returns-in_err-s c =
    c.from_residual.ensures ∙ ap found_setting (sym c.in_err-s.was ∙ c.file_named.ensures) ∙ setting-found c.args.file.now

pub returns-in-Value : goal.returns-in-Value
returns-in-Value c =
    ap (λ f. found_setting (Some f)) (sym c.in-Value.is) ∙ ap found_setting (sym c.in_ok-s.was ∙ c.file_named.ensures)
    ∙ setting-found c.args.file.now

pub returns-in_default : goal.returns-in_default
returns-in_default c =
    no-setting _ c.in_default.not-Value ∙ ap found_setting (sym c.in_ok-s.was ∙ c.file_named.ensures) ∙ setting-found c.args.file.now
