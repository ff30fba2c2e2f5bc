-- `lines::control::wished` meets its contract: by the name after the sign, and by the sign. Assumes nothing.
use Rattle.lines.proofs.ControlLaws.{asked-other, asked-plus, asked-minus}
use Rattle.lines.proofs.control.wished.Goals as goal

pub returns-then-not-is_same : goal.returns-then-not-is_same
returns-then-not-is_same c = asked-other _ _ _ _ _ c.in-Some.ensures.cases.0 c.name.ensures _ c.if-not-is_same.ensures

pub returns-in-43 : goal.returns-in-43
returns-in-43 c = asked-plus _ _ _ _ _ c.in-Some.ensures.cases.0 c.name.ensures _ c.if-not-is_same.ensures c.in-43.is

pub returns-in-45 : goal.returns-in-45
returns-in-45 c = asked-minus _ _ _ _ _ c.in-Some.ensures.cases.0 c.name.ensures _ c.if-not-is_same.ensures c.in-45.is
