-- `lines::name::first_named` meets its contract: the names of those before are not the word's. Assumes nothing.
use native.Mathlib.Omega.{arith}
use mathlib.Core.Path.{refl, ap, ◌∙◌}
use Rattle.model.specs.Text.{same_bytes}
use Rattle.lines.proofs.NameLaws.{tried-found, tried-next, tried-all}
use Rattle.lines.proofs.name.first_named.Goals as goal

pub loop-one-init : goal.loop-one-init
loop-one-init g c = refl

pub returns-then-is_same : goal.returns-then-is_same
returns-then-is_same g c =
    tried-found _ _ _ _ _ c.loop-one-test.true (c.is_same.ensures ∙ ap (same_bytes _) c.name.ensures) c.one-item.is
    c.loop-one.invariant c.if-is_same.true

pub loop-one-preserved : goal.loop-one-preserved
loop-one-preserved g c =
    tried-next _ _ _ _ _ c.loop-one-test.true (c.is_same.ensures ∙ ap (same_bytes _) c.name.ensures) c.one-item.is
    c.loop-one.invariant c.if-is_same.false

pub returns : goal.returns
returns g c = tried-all _ _ _ _ (omega arith) c.loop-one.invariant
