-- `lines::control::first_bad_word` meets its contract: the part that is handed back starts and ends where the definition
-- says. Assumes nothing.
use mathlib.Core.Path.{refl, ap, ◌∙◌}
use native.Mathlib.Omega.{arith}
use lib.ListN.{length}
use Rattle.std.proofs.lemmas.List.{length-take}
use Rattle.lines.proofs.BadWordLaws.{bad-start, bad-size, bad-part}
use Rattle.lines.proofs.control.first_bad_word.Goals as goal

pub returns : goal.returns
returns c =
    let l = c.args.line.now in
    let s = bad-start l _ c.text_of.ensures.text _ c.bad_span-bad.ensures in
    let z = bad-size l _ c.text_of.ensures.text _ c.bad_span-bad.ensures in
    let front = ap length c.text_of.ensures.front ∙ length-take _ l in
    record {
      inside = omega arith;
      block = refl;
      offset = omega arith;
      bytes = bad-part l _ c.text_of.ensures.text _ c.bad_span-bad.ensures;
    }
