-- `files::list::put_names` meets its contract: what the names so far and those that are left make is the line. Assumes nothing.
use Rattle.std.proofs.Common.{◌∙◌}
use Rattle.model.specs.Control.{at_controller}
use Rattle.files.proofs.NameLineLaws.{names-none, names-next, names-same, names-ended, names-empty}
use Rattle.files.proofs.list.put_names.Goals as goal
use Rattle.files.proofs.list.put_names.Goals.{then-get, else-get}

pub loop-c-init : goal.loop-c-init
loop-c-init g c = names-none (at_controller c.args.set.now) c.clear.ensures

pub loop-c-preserved : goal.loop-c-preserved
loop-c-preserved g c =
    elim c.if-get.branch [
      | then-get w ↦
          names-next c.loop-c.invariant c.loop-c-test.true _ c.get.ensures w.name.ensures (w.out-is ∙ w.put_name.ensures) w.if-get.true
      | else-get w ↦ names-same c.loop-c.invariant c.loop-c-test.true _ c.get.ensures w.out-is w.if-get.false
    ]

pub returns-then-not-is_empty : goal.returns-then-not-is_empty
returns-then-not-is_empty g c =
    c.push.ensures ∙ names-ended c.loop-c.invariant c.loop-c-test.false c.is_empty.ensures c.if-not-is_empty.true

-- no name
pub returns-else-not-is_empty : goal.returns-else-not-is_empty
returns-else-not-is_empty g c = names-empty c.loop-c.invariant c.loop-c-test.false c.is_empty.ensures c.if-not-is_empty.false
