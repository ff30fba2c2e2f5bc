-- `shootspiral::line_calls::ss_first_bad_word` meets its contract. Assumes nothing.
use mathlib.Core.List.{[], ◌∷◌}
use mathlib.Core.Path.{ap₂}
use Rattle.lines.proofs.BadWordLaws.{bad-start, bad-size}
use Rattle.shootspiral.proofs.line_calls.ss_first_bad_word.Goals as goal

pub returns : goal.returns
returns c =
    let l = c.args.line.now in
    let s = bad-start l _ c.text_of.ensures.text _ c.bad_span-bad.ensures in
    let z = bad-size l _ c.text_of.ensures.text _ c.bad_span-bad.ensures in
    ap₂ (λ x y. x ∷ y ∷ []) s z
