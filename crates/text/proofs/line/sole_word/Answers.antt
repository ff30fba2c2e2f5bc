-- `text::line::sole_word` meets its contract: a first word with no second. Assumes nothing.
use Rattle.std.proofs.Common.{ap, sym, ◌∙◌}
use Rattle.model.specs.Text.{words}
use Rattle.text.specs.Line.{sole_word}
use Rattle.text.proofs.WordLaws.{sole-none, sole-alone, sole-more}
use Rattle.text.proofs.line.sole_word.Goals as goal

pub returns-in_err-word : goal.returns-in_err-word
returns-in_err-word c =
    rw c.from_residual.ensures
    (ap (λ l. sole_word (words l)) (sym c.text_of.ensures.text) ∙ sole-none c.text_of.result.now c.in_err-word.ensures)

pub returns-then-is_some : goal.returns-then-is_some
returns-then-is_some c =
    ap (λ l. sole_word (words l)) (sym c.text_of.ensures.text)
    ∙ sole-more c.text_of.result.now c.in_ok-word.word.now c.in_ok-word.rest.now c.in_ok-word.ensures
    c.cut_word-2.result c.cut_word-2.ensures (sym c.is_some.ensures ∙ c.if-is_some.true)

pub returns : goal.returns
returns c =
    ap (λ l. sole_word (words l)) (sym c.text_of.ensures.text)
    ∙ sole-alone c.text_of.result.now c.in_ok-word.word.now c.in_ok-word.rest.now c.in_ok-word.ensures
    c.cut_word-2.result c.cut_word-2.ensures (sym c.is_some.ensures ∙ c.if-is_some.false)
