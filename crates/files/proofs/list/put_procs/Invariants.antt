-- `files::list::put_procs` meets its contract: the lines written so far, and those of the numbers that come, are all the lines, and so
-- many are left. Assumes nothing.
use Rattle.model.specs.Tree.{places}
use Rattle.tree.specs.Layout.{view}
use Rattle.files.proofs.ListingLaws.{Listing}
use Rattle.files.proofs.list.put_procs.Given as goal

abbrev pub invariant-loop-p : goal.invariant-loop-p
invariant-loop-p g l = Listing (places (view l.t)) l.g.0 l.out l.p l.left
