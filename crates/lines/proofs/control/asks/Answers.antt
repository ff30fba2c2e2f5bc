-- `lines::control::asks` meets its contract: of each controller the words that are left, after the wish so far, ask what all the words
-- ask. Assumes nothing.
use Rattle.std.proofs.Common.{rules}
use mathlib.Core.Path.{refl}
use Rattle.model.specs.declared.Controller.TheVariants.{Cpu, Io, Memory, Pids}
use Rattle.lines.proofs.ControlLaws.{none-asked, each-asked, asked-none, asked-more}
use Rattle.lines.proofs.control.asks.Goals as goal

pub loop-word-init : goal.loop-word-init
loop-word-init c =
    let none = none-asked c.from_fn-wishes.result (search rules) (search rules) (search rules) (search rules) in (
      tt,
      tt,
      λ k. rw (c.into_iter-word-iterator.ensures.into_iter_gives, none k, c.text_of-text.ensures.text) refl,
    )

pub loop-word-preserved : goal.loop-word-preserved
loop-word-preserved c =
    let each = each-asked c.loop-word.wishes c.from_fn-wishes-in-loop-word.result c.in-Some.word.now (search rules) (search rules) (search rules) (search rules) in
    (tt, tt, λ k. asked-more _ _ k _ (c.loop-word.invariant.2 k) _ _ _ c.in-Some.ensures.steps (each k))

-- no word is left
pub returns : goal.returns
returns c =
    let left = c.in-None.ensures.steps.0 in
    record {
      cpu = asked-none _ _ Cpu _ (c.loop-word.invariant.2 Cpu) left;
      io = asked-none _ _ Io _ (c.loop-word.invariant.2 Io) left;
      memory = asked-none _ _ Memory _ (c.loop-word.invariant.2 Memory) left;
      pids = asked-none _ _ Pids _ (c.loop-word.invariant.2 Pids) left;
    }
