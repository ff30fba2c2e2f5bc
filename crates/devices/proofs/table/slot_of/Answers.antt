-- `devices::table::slot_of` meets its contract. The invariant: what is found is the device's slot among those that were passed.
-- Assumes nothing.
use native.Mathlib.Omega.{arith}
use Prim.Native.Nat.{◌-◌}
use mathlib.Core.Path.{◌≡◌, ap, ◌∙◌}
use lib.ListN.{drop}
use Rattle.devices.specs.Slots.{slot_of}
use Rattle.devices.proofs.SlotLaws.{slot-of-none, slot-at, slot-past}
use Rattle.devices.proofs.table.slot_of.Goals as goal

pub loop-k-init : goal.loop-k-init
loop-k-init c = slot-of-none _ c.args.s.now 4 _ (omega (arith, c.told-s)) c.unlimited-found.ensures

pub loop-k-preserved-then-s-k : goal.loop-k-preserved-then-s-k
loop-k-preserved-then-s-k c = slot-at _ c.args.s.now (c.loop-k.k - 1) (omega (arith, c.told-s)) c.if-s-k.true

pub loop-k-preserved : goal.loop-k-preserved
loop-k-preserved c =
    slot-past _ c.args.s.now (c.loop-k.k - 1) (omega (arith, c.told-s)) c.if-s-k.false c.loop-k.k _ (omega arith) c.loop-k.invariant

pub returns : goal.returns
returns c =
    let e : c.loop-k.k ≡ 0 = omega arith in
    c.loop-k.invariant ∙ ap (λ k. slot_of c.args.device (drop k c.args.s.now)) e
