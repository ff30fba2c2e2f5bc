-- `text::number::parse_number_line` meets its contract: the number is that of the one word. Assumes nothing.
use Rattle.std.proofs.Common.{ap, sym, ◌∙◌}
use Rattle.model.specs.Functions.{mapped}
use Rattle.model.specs.Text.{number_word, line_words}
use Rattle.text.specs.Number.{clip}
use Rattle.text.proofs.NumberLaws.{sole-read, sole-unread}
use Rattle.text.proofs.number.parse_number_line.Goals as goal

-- not one word
pub returns-in_err-sole_word : goal.returns-in_err-sole_word
returns-in_err-sole_word c =
    c.from_residual.ensures ∙ sym (ap (mapped clip) (sole-unread number_word (line_words c.args.line.now) c.in_err-sole_word.ensures))

pub returns : goal.returns
returns c =
    c.parse_number.ensures ∙ sym (ap (mapped clip) (sole-read number_word (line_words c.args.line.now) _ c.in_ok-sole_word.ensures))
