-- `devices::table::without_device` meets its contract: by where the slot stands. Assumes nothing.
use native.Mathlib.Omega.{arith}
use mathlib.Core.Path.{◌∙◌, sym}
use Rattle.devices.proofs.WithoutLaws.{without-none, first-out, second-out, third-out, fourth-out}
use Rattle.devices.proofs.table.without_device.Goals as goal

pub returns-in-Some-eq0 : goal.returns-in-Some-eq0
returns-in-Some-eq0 c =
    first-out _ _ _ _ (omega arith) (sym c.place_of.ensures ∙ c.in-Some-eq0.is) c.free.ensures c.in-Some-eq0.field-0-test

pub returns-in-Some-eq1 : goal.returns-in-Some-eq1
returns-in-Some-eq1 c =
    second-out _ _ _ _ (omega arith) (sym c.place_of.ensures ∙ c.in-Some-eq1.is) c.free-in-Some-eq1.ensures c.in-Some-eq1.field-0-test

pub returns-in-Some-eq2 : goal.returns-in-Some-eq2
returns-in-Some-eq2 c =
    third-out _ _ _ _ (omega arith) (sym c.place_of.ensures ∙ c.in-Some-eq2.is) c.free-in-Some-eq2.ensures c.in-Some-eq2.field-0-test

pub returns-in-Some : goal.returns-in-Some
returns-in-Some c =
    fourth-out _ _ _ _ (omega arith) (sym c.place_of.ensures ∙ c.in-Some.is) c.free-in-Some.ensures (omega arith) (omega arith) (omega arith)

pub returns-in-None : goal.returns-in-None
returns-in-None c = without-none _ _ (sym c.place_of.ensures ∙ c.in-None.is)
