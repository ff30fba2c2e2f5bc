-- `text::cut::cut` meets its contract: what was found is where the first part ends. Assumes nothing.
use Rattle.std.proofs.Common.{◌≡◌, ◌≢◌, length, sym, ◌∙◌, rules, tests}
use Rattle.std.proofs.lemmas.Iterator.{IsFirst-from_position, YieldsList-from_slice}
use Rattle.model.specs.DeviceLines.{before}
use Rattle.text.proofs.CutLaws.{cut-place, part-before, part-after, part-none}
use Rattle.text.proofs.cut.cut.Goals.{After-split_at}
use Rattle.text.proofs.cut.cut.Goals as goal

cut-found : (c : After-split_at) → c.unwrap_or-n.result ≡ length (before c.args.byte c.args.word.now)
cut-found c =
    let b = c.args.byte in
    let first = IsFirst-from_position _ _ _ (λ x. x ≡ b) (λ x. x ≢ b) c.position.ensures.ran (YieldsList-from_slice c.args.word.now cc) (λ x q k. search (rules, tests)) (λ x q k. search (rules, tests)) in
    c.unwrap_or-n.ensures ∙ sym (cut-place b c.args.word.now c.position.result first)

pub returns-in-empty-clause-first : goal.returns-in-empty-clause-first
returns-in-empty-clause-first c =
    c.split_at.ensures.front ∙ part-before _ _ _ (cut-found (goal.at.returns-in-empty-clause-first c).After-split_at)

pub returns-in-empty-clause-second : goal.returns-in-empty-clause-second
returns-in-empty-clause-second c =
    let n = cut-found (goal.at.returns-in-empty-clause-second c).After-split_at in
    part-none _ _ _ n _ c.split_at.ensures.back c.in-empty.len_below

pub returns-in-len1-up-clause-first : goal.returns-in-len1-up-clause-first
returns-in-len1-up-clause-first c =
    c.split_at.ensures.front ∙ part-before _ _ _ (cut-found (goal.at.returns-in-len1-up-clause-first c).After-split_at)

pub returns-in-len1-up-clause-second : goal.returns-in-len1-up-clause-second
returns-in-len1-up-clause-second c =
    let n = cut-found (goal.at.returns-in-len1-up-clause-second c).After-split_at in
    part-after _ _ _ n _ c.split_at.ensures.back
