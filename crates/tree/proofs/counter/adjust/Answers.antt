-- `tree::counter::adjust` meets its contract. Assumes nothing.
use mathlib.Core.Path.{ap, ◌∙◌}
use Prim.Native.Nat.{◌+◌, ◌-◌}
use Rattle.tree.specs.Layout.{with_word, sum_field}
use Rattle.tree.proofs.AdjustLaws.{adjusted-at}
use Rattle.tree.proofs.counter.adjust.Goals as goal

pub returns : goal.returns
returns c =
    adjusted-at _ _ _ _ _ _ c.requires
    (c.set_sum.ensures
    ∙ ap (λ x. with_word c.args.t.now c.args.g.0 (sum_field c.args.c) (x + c.args.more - c.args.less)) c.sum-was.ensures)
