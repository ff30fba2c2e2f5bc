-- `files::path::put_path` meets its contract: the path of a group is its parent's, a "/" and its number. Assumes nothing.
use Rattle.std.proofs.Common.{arith, refl, append_assoc, length-append}
use Rattle.files.proofs.PathLaws.{is_root, not_root, path-of-root, depth-some, path-above, path-next, length-next}
use Rattle.files.proofs.path.+put_path.Goals as goal

-- the root
pub returns-then-eq : goal.returns-then-eq
returns-then-eq t c = path-of-root c.requires (is_root c.eq.ensures c.if-eq.true)

-- what comes before each of the three calls is not named here: the check reads it
pub put_path-requires : goal.put_path-requires
put_path-requires t c =
    let nz = not_root c.eq.ensures c.if-eq.false in (
      omega (arith, depth-some c.requires nz _ c.path_parent.ensures),
      path-above c.requires nz _ c.path_parent.ensures _ (grind (arith, length-append)),
    )

pub push-requires : goal.push-requires
push-requires t c =
    let next = length-next c.requires (not_root c.eq.ensures c.if-eq.false) _ refl in
    grind (arith, length-append, next, c.requires.room)

pub push_number-requires : goal.push_number-requires
push_number-requires t c =
    let next = length-next c.requires (not_root c.eq.ensures c.if-eq.false) _ refl in
    grind (arith, length-append, next, c.requires.room)

-- the parent's path, and then the number
pub returns : goal.returns
returns t c =
    grind (arith, append_assoc, path-next c.requires (not_root c.eq.ensures c.if-eq.false) _ c.path_parent.ensures)
