-- `files::path::put_place` meets its contract: steps to the depth are enough. Assumes nothing.
use Rattle.std.proofs.Common.{List, ℕ, ◌++◌, ap, ◌∙◌}
use Rattle.files.proofs.PathLaws.{not_root, there_low, place-path, place-room}
use Rattle.files.proofs.path.put_place.Goals as goal

pub path_depth-requires : goal.path_depth-requires
path_depth-requires c = there_low c.requires.0

pub put_path-requires : goal.put_path-requires
put_path-requires c = place-room c.requires.0 (not_root c.eq.ensures c.if-eq.false) c.path_depth.ensures _ c.requires.1

pub returns-else-eq : goal.returns-else-eq
returns-else-eq c =
    c.put_path.ensures
    ∙ ap (λ (l : List ℕ). c.args.out.now ++ l) (place-path c.requires.0 (not_root c.eq.ensures c.if-eq.false) c.path_depth.ensures)
