-- `text::line::Words::next` meets its contract: the first word, and the words of what follows it. Assumes nothing.
use Rattle.std.proofs.Common.{ap, arith, length}
use Rattle.text.proofs.WordLaws.{words-first, words-none}
use Rattle.text.proofs.line.WordsIterator.next.Goals as goal

pub returns-in_err-word-clause-steps : goal.returns-in_err-word-clause-steps
returns-in_err-word-clause-steps c =
    let none = words-none c.args.self.now.text.now c.in_err-word.ensures in
    rw c.from_residual.ensures (none, none)

pub returns-clause-steps : goal.returns-clause-steps
returns-clause-steps c =
    words-first c.args.self.now.text.now c.in_ok-word.word.now c.in_ok-word.rest.now c.in_ok-word.ensures

pub returns-clause-goes : goal.returns-clause-goes
returns-clause-goes c =
    let first = words-first c.args.self.now.text.now c.in_ok-word.word.now c.in_ok-word.rest.now c.in_ok-word.ensures in
    record { on = λ _. (tt, tt, omega (arith, ap length first)); keeps = tt; rests = λ _. tt }
