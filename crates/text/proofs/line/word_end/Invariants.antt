-- `text::line::word_end` meets its contract: the place and what is left of the word add up to its end. Assumes nothing.
use Rattle.std.proofs.Common.{◌≡◌, ◌+◌, length, drop}
use Rattle.model.specs.Text.{leading_word}
use Rattle.text.proofs.line.word_end.Given as goal

abbrev pub invariant-loop-i : goal.invariant-loop-i
invariant-loop-i l = l.i + length (leading_word (drop l.i l.text)) ≡ l.start + length (leading_word (drop l.start l.text))
