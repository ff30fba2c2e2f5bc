-- What a reader answers of a number word, whose value may be of any size. Assumes nothing.
use Rattle.std.specs.Prelude.{ℕ, ◌-◌, ◌^◌, min}

-- a figure as 64 bits keep it: one that does not fit is the largest that does
abbrev pub clip : ℕ → ℕ
clip n = min n (2 ^ 64 - 1)
