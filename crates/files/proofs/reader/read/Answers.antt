-- `files::reader::read` meets its contract: what is found is delivered. Assumes nothing.
use Rattle.std.proofs.Common.{◌≡◌, sym, ◌∙◌, arith, rules, Err}
use Rattle.model.specs.declared.Errno.TheVariants.{Enoent}
use Rattle.tree.proofs.KeptLaws.{live-row}
use Rattle.files.proofs.DeliveryLaws.{read-no-number, read-dead, read-unknown, read-not-present, read-delivered, short-file}
use Rattle.files.proofs.reader.read.Goals as goal

-- a number out of range
pub returns-then-group-ge-GROUPS : goal.returns-then-group-ge-GROUPS
returns-then-group-ge-GROUPS c = read-no-number _ _ _ _ c.if-group-ge-GROUPS.true

-- not live
pub returns-then-not-is_live : goal.returns-then-not-is_live
returns-then-not-is_live c = read-dead _ _ _ _ (omega arith) (sym c.is_live.ensures ∙ c.if-not-is_live.true)

-- no such file
pub returns-in_err-found : goal.returns-in_err-found
returns-in_err-found c =
    let e : c.from_residual.result ≡ Err Enoent = search rules in
    rw e
    (read-unknown _ _ _ _ (omega arith) (sym c.is_live.ensures ∙ c.if-not-is_live.false)
    (sym c.file_named.ensures ∙ c.in_err-found.ensures.ok_part))

pub is_present-requires : goal.is_present-requires
is_present-requires c = live-row _ c.requires _ (sym c.is_live.ensures ∙ c.if-not-is_live.false)

-- absent there
pub returns-then-not-is_present : goal.returns-then-not-is_present
returns-then-not-is_present c =
    read-not-present _ _ _ _ (omega arith) (sym c.is_live.ensures ∙ c.if-not-is_live.false) _
    (sym c.file_named.ensures ∙ c.in_ok-found.ensures.ok_part)
    (sym c.is_present.ensures ∙ c.if-not-is_present.true)

-- cgroup.procs
pub returns-in-Procs : goal.returns-in-Procs
returns-in-Procs c =
    read-delivered _ _ _ _ (omega arith) (sym c.is_live.ensures ∙ c.if-not-is_live.false) _
    (sym c.file_named.ensures ∙ c.in_ok-found.ensures.ok_part)
    (sym c.is_present.ensures ∙ c.if-not-is_present.false)
    c.read_file.ensures

-- io.max
pub returns-in-IoMax : goal.returns-in-IoMax
returns-in-IoMax c =
    read-delivered _ _ _ _ (omega arith) (sym c.is_live.ensures ∙ c.if-not-is_live.false) _
    (sym c.file_named.ensures ∙ c.in_ok-found.ensures.ok_part)
    (sym c.is_present.ensures ∙ c.if-not-is_present.false)
    (rw c.in-Value.is c.read_file-in-IoMax.ensures)

-- another setting
pub returns-in_default-s : goal.returns-in_default-s
returns-in_default-s c =
    read-delivered _ _ _ _ (omega arith) (sym c.is_live.ensures ∙ c.if-not-is_live.false) _
    (sym c.file_named.ensures ∙ c.in_ok-found.ensures.ok_part)
    (sym c.is_present.ensures ∙ c.if-not-is_present.false)
    (rw c.in-Value.is c.read_file-in_default-s.ensures)

-- another file
pub read_file-requires-in_default : goal.read_file-requires-in_default
read_file-requires-in_default c = (
  record { kept = c.requires; live = sym c.is_live.ensures ∙ c.if-not-is_live.false },
  (short-file _ c.in_default.not-Procs c.in_default.not-Value, omega arith),
)

pub returns-in_default : goal.returns-in_default
returns-in_default c =
    read-delivered _ _ _ _ (omega arith) (sym c.is_live.ensures ∙ c.if-not-is_live.false) _
    (sym c.file_named.ensures ∙ c.in_ok-found.ensures.ok_part)
    (sym c.is_present.ensures ∙ c.if-not-is_present.false)
    c.read_file-in_default.ensures
