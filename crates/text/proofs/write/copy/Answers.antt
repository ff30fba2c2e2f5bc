-- `text::write::copy` meets its contract: after `i` turns the first `i` bytes of the text stand in front. Assumes nothing.
use Rattle.std.proofs.Common.{arith, refl}
use Rattle.text.proofs.WriteLaws.{copy_more, copy_done}
use Rattle.text.proofs.write.copy.Goals as goal

pub loop-i-init : goal.loop-i-init
loop-i-init c = refl

pub loop-i-preserved : goal.loop-i-preserved
loop-i-preserved c = copy_more _ _ _ c.loop-i.i c.loop-i.invariant (omega arith) (omega arith)

pub returns : goal.returns
returns c = copy_done _ _ _ c.loop-i.i c.loop-i.invariant (omega arith)
