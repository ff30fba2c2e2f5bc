-- What the reader of values answers: what a line gives a setting, with every figure as 64 bits keep it. Assumes nothing.
use Rattle.model.specs.declared.SettingValue.{SettingValue}
use Rattle.model.specs.declared.SettingValue.TheVariants.{Weight, Quota, Bandwidth, Device, Maximum}
use Rattle.text.specs.Number.{clip}
use Rattle.text.specs.Limit.{clipped_limit}
use Rattle.lines.specs.Pair.{clipped_pairs}

abbrev pub clipped : SettingValue → SettingValue
clipped (Weight n) = Weight (clip n)
clipped (Quota q) = Quota (clipped_limit q)
clipped (Bandwidth q p) = Bandwidth (clipped_limit q) (clip p)
clipped (Device major minor p) = Device (clip major) (clip minor) (clipped_pairs p)
clipped (Maximum r l) = Maximum r (clipped_limit l)
