-- `tree::counter::is_root_full` meets its contract. Assumes nothing.
use Prim.Native.Nat.{◌+◌}
use mathlib.Core.Path.{refl, ap}
use Rattle.tree.proofs.ActingLaws.{over-same, acting-root}
use Rattle.tree.proofs.counter.is_root_full.Goals as goal

pub returns : goal.returns
returns c = over-same _ _ _ _ _ c.is_over.ensures (ap (λ x. x + c.args.n) c.sum.ensures) (acting-root _ _ _ _ refl c.root_limit.ensures)
