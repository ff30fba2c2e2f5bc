-- `lines::value::parse_maximum` meets its contract: the limit of the one word. Assumes nothing.
use mathlib.Core.Path.{ap, sym, ◌∙◌}
use Rattle.model.specs.Functions.{mapped}
use Rattle.model.specs.Text.{line_words}
use Rattle.model.specs.Settings.{limit_word, value_of}
use Rattle.model.specs.declared.SettingValue.TheVariants.{Maximum}
use Rattle.lines.specs.Value.{clipped}
use Rattle.text.proofs.NumberLaws.{sole-read, sole-unread}
use Rattle.lines.proofs.ValueLaws.{maximum-clipped}
use Rattle.lines.proofs.value.parse_maximum.Goals as goal

-- not one word
pub returns-in_err-sole_word : goal.returns-in_err-sole_word
unfolding value_of
returns-in_err-sole_word c =
    let r = c.args.resource in
    c.from_residual.ensures
    ∙ sym (ap (λ o. mapped clipped (mapped (Maximum r) o)) (sole-unread limit_word (line_words c.args.line.now) c.in_err-sole_word.ensures))

-- no limit
pub returns-in_err-limit : goal.returns-in_err-limit
unfolding value_of
returns-in_err-limit c =
    let r = c.args.resource in
    c.from_residual-in_err-limit.ensures
    ∙ ap (mapped (Maximum r)) (sym c.in_err-limit.was ∙ c.parse_limit.ensures)
    ∙ sym (maximum-clipped r _)
    ∙ sym (ap (λ o. mapped clipped (mapped (Maximum r) o)) (sole-read limit_word (line_words c.args.line.now) _ c.in_ok-sole_word.ensures))

pub returns : goal.returns
unfolding value_of
returns c =
    let r = c.args.resource in
    ap (mapped (Maximum r)) (sym c.in_ok-limit.was ∙ c.parse_limit.ensures)
    ∙ sym (maximum-clipped r _)
    ∙ sym (ap (λ o. mapped clipped (mapped (Maximum r) o)) (sole-read limit_word (line_words c.args.line.now) _ c.in_ok-sole_word.ensures))
