-- `control::setting::vet_value` meets its contract: its tests in their order are the checks of a value. Assumes nothing.
use Rattle.std.specs.Prelude.{Some}
use Rattle.std.proofs.lemmas.Bool.Decides.{nat_tests}
use native.Mathlib.Omega.{arith}
use mathlib.Core.Path.{◌≡◌, sym, ◌∙◌}
use Rattle.model.specs.Functions.{mapped}
use Rattle.model.specs.Checks.{first}
use Rattle.model.specs.Text.{line_words}
use Rattle.model.specs.Settings.{value_of}
use Rattle.lines.specs.Value.{clipped}
use Rattle.lines.proofs.ValueLaws.{is_known, is-ranged, is-value}
use Rattle.control.specs.Values.{value_checks}
use Rattle.control.proofs.setting.vet_value.Goals as goal
use Rattle.control.proofs.setting.vet_value.Goals.{After-is_in_range}

-- the value is that of the line, but for figures of any size
parsed : (c : After-is_in_range) → Some c.in_ok-value.value ≡ mapped clipped (value_of c.args.setting (line_words c.args.line.now))
parsed c = sym c.in_ok-value.ensures.ok_part ∙ c.parse_value.ensures

-- Erange
pub returns-then-not-is_in_range : goal.returns-then-not-is_in_range
unfolding first value_checks
returns-then-not-is_in_range c =
    let o = value_of c.args.setting (line_words c.args.line.now) in
    let e = parsed (goal.at.returns-then-not-is_in_range c).After-is_in_range in
    let f = is_known o _ e in
    let r = c.is_in_range.ensures ∙ is-ranged o _ e in
    grind (arith, nat_tests)

-- the value
pub returns : goal.returns
unfolding first value_checks
returns c =
    let o = value_of c.args.setting (line_words c.args.line.now) in
    let e = parsed (goal.at.returns c).After-is_in_range in
    let f = is_known o _ e in
    let r = c.is_in_range.ensures ∙ is-ranged o _ e in
    (grind (arith, nat_tests), is-value o _ e (sym c.if-not-is_in_range.ensures))
