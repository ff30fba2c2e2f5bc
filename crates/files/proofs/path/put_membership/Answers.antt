-- `files::path::put_membership` meets its contract. Assumes nothing.
use Rattle.std.proofs.Common.{ℕ, arith, ap, append_assoc, length, length-append}
use Rattle.tree.specs.Layout.{view}
use Rattle.files.proofs.PathLaws.{there_low, length-place, length-mark, last-at, membership-text}
use Rattle.files.proofs.path.put_membership.Goals as goal

pub put_place-requires : goal.put_place-requires
put_place-requires c =
    let k = last-at c.requires _ c.last_group-group.ensures in
    (k, omega (arith, ap length c.push_bytes.ensures, ap length c.clear.ensures, length-append {A = ℕ}, length-place k))

pub put_mark-requires : goal.put_mark-requires
put_mark-requires c =
    let k = last-at c.requires _ c.last_group-group.ensures in (
      there_low k,
      omega (
        arith,
        ap length c.put_place.ensures,
        ap length c.push_bytes.ensures,
        ap length c.clear.ensures,
        length-append {A = ℕ},
        length-place k,
        length-mark (view c.args.t.now) c.last_group-group.result.0,
      ),
    )

pub push-requires : goal.push-requires
push-requires c =
    omega (
      arith,
      ap length c.put_mark.ensures,
      ap length c.put_place.ensures,
      ap length c.push_bytes.ensures,
      ap length c.clear.ensures,
      length-append {A = ℕ},
      length-place (last-at c.requires _ c.last_group-group.ensures),
      length-mark (view c.args.t.now) c.last_group-group.result.0,
    )

-- the four parts
pub returns : goal.returns
returns c =
    rw (c.push.ensures, c.put_mark.ensures, c.put_place.ensures, c.push_bytes.ensures, c.clear.ensures, append_assoc, append_assoc)
    (membership-text c.args.t.now c.args.p.0 c.last_group-group.result.0 c.last_group-group.ensures)
