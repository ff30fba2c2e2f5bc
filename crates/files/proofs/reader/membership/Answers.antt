-- `files::reader::membership` meets its contract: the line is made in a scratch array, and delivered. Assumes nothing.
use Rattle.std.proofs.Common.{sym, ◌∙◌}
use Rattle.files.proofs.DeliveryLaws.{membership-no-number, membership-dead, membership-delivered}
use Rattle.files.proofs.reader.membership.Goals as goal
use Rattle.files.proofs.reader.membership.Goals.{then-process-ge-PROCESSES-via-then-process-ge-PROCESSES, then-process-ge-PROCESSES-via-else-process-ge-PROCESSES+then-not-is_taken}

-- a number out of range, or neither live nor a zombie
pub returns-then-process-ge-PROCESSES : goal.returns-then-process-ge-PROCESSES
returns-then-process-ge-PROCESSES c =
    elim c.then-process-ge-PROCESSES.branch [
      | then-process-ge-PROCESSES-via-then-process-ge-PROCESSES w ↦ membership-no-number _ _ _ c.requires w.if-process-ge-PROCESSES.true
      | then-process-ge-PROCESSES-via-else-process-ge-PROCESSES+then-not-is_taken w ↦
          membership-dead _ _ _ (sym w.is_taken.ensures ∙ w.if-not-is_taken.true)
    ]

pub put_membership-requires : goal.put_membership-requires
put_membership-requires c =
    record { kept = c.requires; taken = sym c.is_taken.ensures ∙ c.if-not-is_taken.false }

-- the text, or 28
pub returns : goal.returns
returns c =
    membership-delivered _ _ _ (sym c.is_taken.ensures ∙ c.if-not-is_taken.false) (c.as_slice.ensures ∙ c.put_membership.ensures) c.deliver.ensures
