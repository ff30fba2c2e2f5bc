-- `text::line::is_same` meets its contract: what is left of the texts from i on is the same where the texts are. Assumes nothing.
use Rattle.std.proofs.Common.{arith, ◌∙◌}
use Rattle.text.proofs.SameLaws.{same_length, same_stop, same_more, same_end}
use Rattle.text.proofs.line.is_same.Goals as goal

-- different lengths
pub returns-then-a-b : goal.returns-then-a-b
returns-then-a-b c = same_length _ _ c.if-a-b.true

-- a byte that differs
pub returns-then-a-i : goal.returns-then-a-i
returns-then-a-i c =
    same_stop c.args.a.now c.args.b.now c.loop-i.i c.loop-i-test.true (omega arith) c.if-a-i.true ∙ c.loop-i.invariant.1

pub loop-i-preserved : goal.loop-i-preserved
loop-i-preserved c =
    let more = same_more c.args.a.now c.args.b.now c.loop-i.i c.loop-i-test.true (omega arith) c.if-a-i.false in
    (c.if-a-b.false, more ∙ c.loop-i.invariant.1)

-- no byte differs
pub returns : goal.returns
returns c = same_end c.args.a.now c.args.b.now c.loop-i.i (omega arith) c.if-a-b.false ∙ c.loop-i.invariant.1
