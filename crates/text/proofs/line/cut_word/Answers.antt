-- `text::line::cut_word` meets its contract: the word begins at the first byte that is no space, and ends before the next space.
-- Assumes nothing.
use Rattle.std.proofs.Common.{ℕ, ◌<◌, ◌≡◌, ◌≢◌, List, length, refl, rules, tests}
use Rattle.std.specs.Prelude.{MatchOption}
use Rattle.std.specs.List.{AllWithin, HoldsAt}
use Rattle.std.proofs.option.Match.{if_some}
use Rattle.std.proofs.lemmas.List.{take_rest}
use Rattle.std.proofs.lemmas.Iterator.{IsFirst-from_position, YieldsList-from_slice}
use Rattle.model.specs.Text.{space}
use Rattle.text.proofs.WordLaws.{no-word, first-word-to}
use Rattle.text.proofs.line.cut_word.Goals.{After-position, After-word_end-end}
use Rattle.text.proofs.line.cut_word.Goals as goal

abbrev Start : List ℕ → ℕ → Type 0
Start l i = (i < length l) × HoldsAt (λ x. x ≢ space) l i × AllWithin (λ x. x ≡ space) l 0 i

started : (c : After-position) → MatchOption c.position.result (AllWithin (λ x. x ≡ space) c.args.text.now 0 (length c.args.text.now)) (Start c.args.text.now)
started c =
    IsFirst-from_position _ _ _ (λ x. x ≢ space) (λ x. x ≡ space) c.position.ensures.ran (YieldsList-from_slice c.args.text.now cc) (λ x q k. search (rules, tests)) (λ x q k. search (rules, tests))

pub returns-in_err-start : goal.returns-in_err-start
returns-in_err-start c =
    let none = rw c.in_err-start.was at (started (goal.at.returns-in_err-start c).After-position) in
    rw c.from_residual.ensures (no-word c.args.text.now none)

pub returns : goal.returns
returns c =
    let start = if_some _ _ _ c.in_ok-start.was (started (goal.at.returns c).After-position) in
    first-word-to c.args.text.now c.in_ok-start.start start.0 start.1 start.2 c.word_end-end.result c.word_end-end.ensures.end _ _ refl
    (take_rest c.args.text.now c.word_end-end.result)
