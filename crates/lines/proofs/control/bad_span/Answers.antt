-- `lines::control::bad_span` meets its contract: what is left is the end of the text, and its first bad word is the text's. Each turn
-- has a word less before it. Assumes nothing.
use mathlib.Core.Path.{sym, ◌∙◌}
use native.Mathlib.Omega.{arith}
use Rattle.lines.proofs.ControlLaws.{bad-later, bad-here, shorter, bad-span-here, bad-span-none, bad-none}
use Rattle.lines.proofs.control.bad_span.Goals as goal

-- a bad word
pub returns-then-not-is_control_word : goal.returns-then-not-is_control_word
returns-then-not-is_control_word c =
    let f = c.in-Some.ensures in
    let short = shorter _ _ _ f in
    bad-span-here _ _ _ f _ (sym c.loop-word.invariant.1 ∙ bad-here _ _ _ f (sym c.is_control_word.ensures ∙ c.if-not-is_control_word.true))
    _ (omega arith) (omega arith)

pub loop-word-preserved : goal.loop-word-preserved
loop-word-preserved c =
    let f = c.in-Some.ensures in
    let short = shorter _ _ _ f in (
      omega arith,
      bad-later _ _ _ f (sym c.is_control_word.ensures ∙ c.if-not-is_control_word.false) ∙ c.loop-word.invariant.1,
    )

-- no word is left
pub returns : goal.returns
returns c = bad-span-none _ (sym c.loop-word.invariant.1 ∙ bad-none _ c.in_default.ensures)
