-- `processes::collect::uncount` meets its contract: one less, and what is left of the group goes where that was the last. Assumes nothing.
use mathlib.Core.Path.{sym, ◌∙◌}
use Rattle.processes.proofs.CollectLaws.{uncounted-some, uncounted-last}
use Rattle.processes.proofs.collect.uncount.Goals as goal

pub returns-then-sum-ne0 : goal.returns-then-sum-ne0
returns-then-sum-ne0 c = uncounted-some _ _ _ c.adjust.ensures (λ z. c.if-sum-ne0.true (c.sum.ensures ∙ z))

pub returns : goal.returns
returns c = uncounted-last _ _ _ c.adjust.ensures (sym c.sum.ensures ∙ c.if-sum-ne0.false) _ c.clear_removed.ensures
