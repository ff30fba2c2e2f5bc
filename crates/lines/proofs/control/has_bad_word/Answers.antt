-- `lines::control::has_bad_word` meets its contract: there is a bad word where it does not start at the end of the text.
-- Assumes nothing.
use Rattle.lines.proofs.BadWordLaws.{bad-has}
use Rattle.lines.proofs.control.has_bad_word.Goals as goal

pub returns : goal.returns
returns c = bad-has _ _ c.text_of-text.ensures.text _ c.bad_span.ensures
