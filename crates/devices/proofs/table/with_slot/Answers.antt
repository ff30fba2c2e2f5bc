-- `devices::table::with_slot` meets its contract. The invariant: the pass over the places that are left, with what is carried to
-- them, ends as the whole pass does. Assumes nothing.
use native.Mathlib.Omega.{arith}
use Rattle.devices.proofs.PassLaws.{passing-next, put-in-some, put-in-none}
use Rattle.devices.proofs.table.with_slot.Goals as goal

pub loop-here-preserved : goal.loop-here-preserved
loop-here-preserved c = passing-next c.loop-here.invariant c.loop-here-test.true c.place-carried.new.here c.place-carried.result c.place-carried.ensures

pub returns-then-carried-eq0 : goal.returns-then-carried-eq0
returns-then-carried-eq0 c = put-in-some c.loop-here.invariant (omega arith) c.if-carried-eq0.true

pub returns-else-carried-eq0 : goal.returns-else-carried-eq0
returns-else-carried-eq0 c = put-in-none c.loop-here.invariant (omega arith) c.if-carried-eq0.false
