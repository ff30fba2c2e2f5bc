-- `text::limit::parse_limit` meets its contract: a limit is "max" or a number. Assumes nothing.
use Rattle.std.proofs.Common.{sym, ◌∙◌, Some, None}
use Rattle.text.proofs.LimitLaws.{limit-max, limit-number}
use Rattle.text.proofs.limit.parse_limit.Goals as goal

-- "max"
pub returns-then-is_same : goal.returns-then-is_same
returns-then-is_same c = limit-max c.args.word.now (sym c.is_same.ensures ∙ c.if-is_same.true)

-- no number
pub returns-in_err-n : goal.returns-in_err-n
returns-in_err-n c =
    c.from_residual.ensures
    ∙ limit-number c.args.word.now (sym c.is_same.ensures ∙ c.if-is_same.false) None c.in_err-n.ensures

-- a figure
pub returns : goal.returns
returns c = limit-number c.args.word.now (sym c.is_same.ensures ∙ c.if-is_same.false) (Some c.in_ok-n.n) c.in_ok-n.ensures
