-- `files::list::put_procs` meets its contract: the lines written so far, and those of the numbers that come, are all the lines, and so
-- many are left. Assumes nothing.
use Rattle.std.proofs.Common.{rules, arith, ◌∙◌}
use Rattle.model.specs.Files.{contents}
use Rattle.files.specs.Texts.{file_contents}
use Rattle.files.proofs.ListingLaws.{listing_start, listing-left-room, listing-line, listing-skip, listing-done, listing-end}
use Rattle.files.proofs.list.put_procs.Goals as goal
use Rattle.files.proofs.list.put_procs.Goals.{then-stands_in, else-stands_in}

pub loop-p-init : goal.loop-p-init
loop-p-init g c = rw c.clear.ensures (listing_start _ _ c.requires.group.kept.formed.placed.none _ c.count-left.ensures)

-- the last was listed
pub returns-then-left-eq0 : goal.returns-then-left-eq0
unfolding file_contents contents
returns-then-left-eq0 g c = listing-done _ _ c.loop-p.invariant c.if-left-eq0.true (omega arith)

pub put_line-requires : goal.put_line-requires
put_line-requires g c = (search rules, omega (arith, c.requires.room, listing-left-room _ _ c.loop-p.invariant (omega arith) (omega arith) c.if-left-eq0.false))

pub loop-p-preserved : goal.loop-p-preserved
loop-p-preserved g c =
    elim c.if-stands_in.branch [
      | then-stands_in w ↦
          listing-line _ _ c.loop-p.invariant (omega arith) (omega arith) c.stands_in.ensures w.if-stands_in.true c.if-left-eq0.false
          (w.out-is ∙ w.put_line.ensures) w.left-is
      | else-stands_in w ↦
          listing-skip _ _ c.loop-p.invariant (omega arith) (omega arith) c.stands_in.ensures w.if-stands_in.false w.out-is w.left-is
    ]

pub returns : goal.returns
unfolding file_contents contents
returns g c = listing-end _ _ c.loop-p.invariant (omega arith)
