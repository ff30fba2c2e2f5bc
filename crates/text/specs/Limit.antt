-- What the reader of limits answers, with the figure as 64 bits keep it. Assumes nothing.
use Rattle.model.specs.Settings.{map_limit}
use Rattle.model.specs.declared.Limit.{Limit}
use Rattle.text.specs.Number.{clip}

abbrev pub clipped_limit : Limit → Limit
clipped_limit l = map_limit clip l
