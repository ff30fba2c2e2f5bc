-- `tree::rule::is_taken` meets its contract: where the number is not live, the zombies inside are counted in its row. Assumes nothing.
use Prim.Native.Nat.{ℕ}
use mathlib.Core.Bool.{not}
use mathlib.Core.Path.{ap, sym, ◌∙◌}
use lib.Dec.{eqb}
use Rattle.tree.specs.Layout.{view}
use Rattle.tree.specs.declared.sum.Counter.TheVariants.{Zombies}
use Rattle.tree.proofs.CountLaws.{group_taken-counted}
use Rattle.tree.proofs.rule.is_taken.Goals as goal

pub returns-else-is_live : goal.returns-else-is_live
returns-else-is_live c =
    ap (λ (n : ℕ). not (eqb n 0)) (c.sum.ensures ∙ c.requires.0.sums Zombies c.args.g.0)
    ∙ group_taken-counted (view c.args.t.now) c.args.g.0 (sym c.is_live.ensures ∙ c.if-is_live.false)
