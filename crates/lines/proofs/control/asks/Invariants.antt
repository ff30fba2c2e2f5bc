-- `lines::control::asks` meets its contract: of each controller the words that are left, after the wish so far, ask what all the words
-- ask. Assumes nothing.
use mathlib.Core.Path.{◌≡◌}
use Rattle.model.specs.Control.{at_controller, asked, asked_from}
use Rattle.model.specs.Text.{words}
use Rattle.model.specs.declared.Controller.{Controller}
use Rattle.lines.specs.Control.{ask_of}
use Rattle.lines.proofs.control.asks.Given as goal

abbrev pub invariant-loop-word : goal.invariant-loop-word
invariant-loop-word l =
    (goal.iterator-loop-word).can_next l.word-iterator × (goal.iterator-loop-word).is_finite l.word-iterator
    × ((c : Controller) → asked_from (ask_of (at_controller l.wishes c)) c (words l.word-iterator.text.now) ≡ asked l.line c)
