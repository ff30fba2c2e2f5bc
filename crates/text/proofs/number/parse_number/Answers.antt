-- `text::number::parse_number` meets its contract: each digit makes the number ten times as large, up to the largest. Assumes nothing.
use Rattle.std.proofs.Common.{ap, sym, ◌∙◌, arith}
use borrow.Author.Tests.{eqb-true, eqb-false}
use Rattle.model.specs.Functions.{mapped}
use Rattle.text.specs.Number.{clip}
use Rattle.text.proofs.NumberLaws.{number-empty, number-start, number-more, number-stop, number-end}
use Rattle.text.proofs.number.parse_number.Goals as goal

pub returns-then-is_empty : goal.returns-then-is_empty
returns-then-is_empty c = sym (ap (mapped clip) (number-empty c.args.word.now (eqb-true _ _ (sym c.is_empty.ensures ∙ c.if-is_empty.true))))

pub loop-b-init : goal.loop-b-init
loop-b-init c = (number-start c.args.word.now (eqb-false _ _ (sym c.is_empty.ensures ∙ c.if-is_empty.false)), omega arith)

pub returns-then-not-is_ascii_digit : goal.returns-then-not-is_ascii_digit
returns-then-not-is_ascii_digit c =
    sym (ap (mapped clip) (number-stop c.args.word.now c.loop-b.b-index c.loop-b.value (omega arith) (sym c.is_ascii_digit.ensures.value ∙ c.if-not-is_ascii_digit.true))) ∙ c.loop-b.invariant.0

pub loop-b-preserved : goal.loop-b-preserved
loop-b-preserved c =
    let more = number-more c.args.word.now c.loop-b.b-index c.loop-b.value (omega arith) (sym c.is_ascii_digit.ensures.value ∙ c.if-not-is_ascii_digit.false) c.saturating_add-value.result (omega arith) in
    (more ∙ c.loop-b.invariant.0, omega arith)

pub returns : goal.returns
returns c =
    number-end c.args.word.now c.loop-b.b-index c.loop-b.value (omega arith) (omega arith) ∙ c.loop-b.invariant.0
