-- A limit as a word of a tree: what the word says, and which limits, and which pairs of a line, have one of 64 bits. Assumes nothing.
use Rattle.std.specs.Prelude.{ℕ, ◌+◌, ◌^◌, ◌-◌, ◌<◌, eqb, Option, Some, None}
use Rattle.model.specs.Functions.{pick}
use Rattle.model.specs.declared.Limit.{Limit}
use Rattle.model.specs.declared.Limit.TheVariants.{NoLimit, Figure}
use Rattle.model.specs.Devices.{pair_of, Pairs}
use Rattle.model.specs.declared.Key.{Key}

-- one more than its figure, so that 0 is none
abbrev pub limit_in : ℕ → Limit
limit_in w = pick (eqb w 0) NoLimit (Figure (w - 1))

-- a limit whose word fits 64 bits, and the same of what a line gives
abbrev pub Storable : Limit → Type 0
Storable NoLimit = Unit {0}
Storable (Figure n) = n + 1 < 2 ^ 64

abbrev pub StorablePair : (Option Limit) → Type 0
StorablePair None = Unit {0}
StorablePair (Some l) = Storable l

abbrev pub StorablePairs : Pairs → Type 0
StorablePairs p = (k : Key) → StorablePair (pair_of p k)
