-- `lines::pair::parse_pairs` meets its contract: the words that are left, after the pairs so far, give what all the words give.
-- Assumes nothing.
use mathlib.Core.Path.{◌≡◌}
use Rattle.model.specs.Functions.{mapped}
use Rattle.model.specs.Text.{words}
use Rattle.model.specs.DeviceLines.{no_pairs, pairs_from}
use Rattle.lines.specs.Pair.{clipped_pairs}
use Rattle.lines.proofs.PairLaws.{clipped_from}
use Rattle.lines.proofs.pair.parse_pairs.Given as goal

abbrev pub invariant-loop-word : goal.invariant-loop-word
invariant-loop-word l =
    (goal.iterator-loop-word).can_next l.word-iterator × (goal.iterator-loop-word).is_finite l.word-iterator
    × (clipped_from l.pairs (words l.word-iterator.text.now) ≡ mapped clipped_pairs (pairs_from no_pairs (words l.text)))
