-- `text::line::word_end` meets its contract: the place and what is left of the word add up to its end. Assumes nothing.
use Rattle.std.proofs.Common.{arith, refl}
use Rattle.text.proofs.WordLaws.{word_more, word-stop, word_out}
use Rattle.text.proofs.line.word_end.Goals as goal

pub loop-i-init : goal.loop-i-init
loop-i-init c = refl

-- a space
pub returns-then-text-i-eq32-clause-end : goal.returns-then-text-i-eq32-clause-end
returns-then-text-i-eq32-clause-end c =
    omega (arith, c.loop-i.invariant, word-stop c.args.text.now c.loop-i.i c.loop-i-test.true c.if-text-i-eq32.true)

pub loop-i-preserved : goal.loop-i-preserved
loop-i-preserved c =
    omega (arith, c.loop-i.invariant, word_more c.args.text.now c.loop-i.i c.loop-i-test.true c.if-text-i-eq32.false)

-- the end of the text
pub returns-clause-end : goal.returns-clause-end
returns-clause-end c = omega (arith, c.loop-i.invariant, word_out c.args.text.now c.loop-i.i (omega arith))
