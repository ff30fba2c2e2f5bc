-- What the readers of io.max's pairs answer, with every figure as 64 bits keep it. Assumes nothing.
use Rattle.std.specs.Prelude.{ℕ, List, Option, Some, None}
use Rattle.model.specs.Functions.{mapped}
use Rattle.model.specs.Settings.{limit_word}
use Rattle.model.specs.Devices.{pair_of, pairs_of, Pairs}
use Rattle.model.specs.DeviceLines.{equals_sign, key_named, before, after, pair_more}
use Rattle.model.specs.declared.Limit.{Limit}
use Rattle.text.specs.Limit.{clipped_limit}

abbrev pub clipped_pair : Option Limit → Option Limit
clipped_pair None = None
clipped_pair (Some l) = Some (clipped_limit l)

abbrev pub clipped_pairs : Pairs → Pairs
clipped_pairs p = pairs_of (λ k. clipped_pair (pair_of p k))

-- the pairs after one more word, as `pair_word`, with the word's figure clipped
abbrev pub clipped_word : Pairs → List ℕ → Option Pairs
clipped_word p w = pair_more p (key_named (before equals_sign w)) (mapped clipped_limit (limit_word (after equals_sign w)))
