-- `files::value::put_current` meets its contract. Assumes nothing.
use Rattle.std.proofs.Common.{rules, arith, ap, length}
use Rattle.files.proofs.ValueTextLaws.{figure-fits, length-figure}
use Rattle.files.proofs.value.put_current.Goals as goal

pub to_figure-requires : goal.to_figure-requires
to_figure-requires g c = figure-fits c.requires.group _ _ c.count.ensures

pub put_line-requires : goal.put_line-requires
put_line-requires g c =
    (search rules, omega (arith, ap length c.clear.ensures, c.requires.room, length-figure c.requires.group _ _ c.count.ensures _ c.to_figure.ensures))
