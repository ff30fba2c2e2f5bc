-- `text::line::is_same` meets its contract: what is left of the texts from i on is the same where the texts are. Assumes nothing.
use Rattle.std.proofs.Common.{◌≡◌, length, drop}
use Rattle.model.specs.Text.{same_bytes}
use Rattle.text.proofs.line.is_same.Given as goal

abbrev pub invariant-loop-i : goal.invariant-loop-i
invariant-loop-i l = (length l.a ≡ length l.b) × (same_bytes (drop l.i l.a) (drop l.i l.b) ≡ same_bytes l.a l.b)
