-- `text::write::copy` meets its contract: after `i` turns the first `i` bytes of the text stand in front. Assumes nothing.
use Rattle.std.proofs.Common.{◌++◌, ◌≡◌, take, drop}
use Rattle.text.proofs.write.copy.Given as goal

abbrev pub invariant-loop-i : goal.invariant-loop-i
invariant-loop-i l = l.out ≡ take l.i l.text ++ drop l.i l.initial.out
