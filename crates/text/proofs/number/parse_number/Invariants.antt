-- `text::number::parse_number` meets its contract: the digits that are left, after those passed, make the number of the word,
-- as far as 64 bits keep it. Assumes nothing.
use Rattle.std.proofs.Common.{◌≡◌, ◌^◌, ◌<◌, drop}
use Rattle.model.specs.Functions.{mapped}
use Rattle.model.specs.Text.{digits_from, number_word}
use Rattle.text.specs.Number.{clip}
use Rattle.text.proofs.number.parse_number.Given as goal

abbrev pub invariant-loop-b : goal.invariant-loop-b
invariant-loop-b l = (mapped clip (digits_from l.value (drop l.b-index l.word)) ≡ mapped clip (number_word l.word)) × (l.value < 2 ^ 64)
