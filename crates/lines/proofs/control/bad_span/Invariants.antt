-- `lines::control::bad_span` meets its contract: what is left is the end of the text, and its first bad word is the text's. Each turn
-- has a word less before it. Assumes nothing.
use Prim.Native.Nat.{◌≤◌}
use mathlib.Core.Path.{◌≡◌}
use lib.ListN.{length}
use Rattle.model.specs.Control.{first_bad}
use Rattle.model.specs.Text.{starts}
use Rattle.lines.proofs.control.bad_span.Given as goal

abbrev pub invariant-loop-word : goal.invariant-loop-word
invariant-loop-word l = (length l.left ≤ length l.text) × (first_bad (starts l.left) ≡ first_bad (starts l.text))

abbrev pub decreases-loop-word : goal.decreases-loop-word
decreases-loop-word l = length (starts l.left)
