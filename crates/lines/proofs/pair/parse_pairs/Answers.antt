-- `lines::pair::parse_pairs` meets its contract: the words that are left, after the pairs so far, give what all the words give.
-- Assumes nothing.
use Rattle.std.proofs.Common.{rules}
use mathlib.Core.Path.{sym, ◌∙◌}
use Rattle.model.specs.Text.{words}
use Rattle.model.specs.DeviceLines.{no_pairs}
use Rattle.lines.proofs.PairLaws.{nothing-given, from-clipped, pairs-none, pairs-bad, pairs-more}
use Rattle.lines.proofs.pair.parse_pairs.Goals as goal

pub loop-word-init : goal.loop-word-init
loop-word-init c =
    let nothing = nothing-given c.from_fn-pairs.result (search rules) (search rules) (search rules) (search rules) in
    (tt, tt, rw (c.into_iter-word-iterator.ensures.into_iter_gives, nothing) (from-clipped no_pairs (words c.args.text.now)))

-- a word that is no pair, or a key given twice
pub returns-in_err-pairs : goal.returns-in_err-pairs
returns-in_err-pairs c =
    c.from_residual.ensures
    ∙ pairs-bad _ _ _ c.loop-word.invariant.2 _ _ c.in-Some.ensures.steps (sym c.in_err-pairs.was ∙ c.pair_word.ensures)

pub loop-word-preserved : goal.loop-word-preserved
loop-word-preserved c =
    (tt, tt, pairs-more _ _ _ c.loop-word.invariant.2 _ _ c.in-Some.ensures.steps _ (sym c.in_ok-pairs.was ∙ c.pair_word.ensures))

-- no word is left
pub returns : goal.returns
returns c = pairs-none _ _ _ c.loop-word.invariant.2 c.in-None.ensures.steps.0
