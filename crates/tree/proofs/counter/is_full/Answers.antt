-- `tree::counter::is_full` meets its contract. Assumes nothing.
use Prim.Native.Nat.{◌+◌}
use mathlib.Core.Path.{refl, ap}
use Rattle.tree.proofs.ActingLaws.{over-same, acting-own}
use Rattle.tree.proofs.counter.is_full.Goals as goal

pub returns : goal.returns
returns c =
    over-same _ _ _ _ _ c.is_past.ensures (ap (λ x. x + c.args.n) c.sum.ensures)
    (acting-own _ _ _ _ c.requires.0.kept.formed c.requires.0.live c.requires.1.1 refl)
