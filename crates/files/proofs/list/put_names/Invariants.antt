-- `files::list::put_names` meets its contract: what the names so far and those that are left make is the line. Assumes nothing.
use Rattle.model.specs.Control.{at_controller}
use Rattle.files.proofs.NameLineLaws.{Names}
use Rattle.files.proofs.list.put_names.Given as goal

abbrev pub invariant-loop-c : goal.invariant-loop-c
invariant-loop-c g l = Names (at_controller l.set) l.c-index l.out
