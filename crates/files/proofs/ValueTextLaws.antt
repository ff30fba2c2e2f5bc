-- Laws of the files that are one value: their texts, and that the figures are small.
-- Assumes nothing.
use Prim.Native.Nat.{ℕ, ◌+◌, ◌^◌, ◌≤◌, ◌<◌}
use native.Mathlib.Omega.{arith}
use mathlib.Core.Bool.{true}
use mathlib.Core.List.{List, [], ◌∷◌, append-nil}
use mathlib.Core.Path.{◌≡◌, ap, sym, ◌∙◌}
use lib.ListN.{length, length-append}
use Rattle.model.specs.Functions.{All}
use Rattle.model.specs.Sizes.{largest_machine, longest_shown}
use Rattle.model.specs.Tree.{Settings, settings_at}
use Rattle.model.specs.Text.{newline, ended, joined, decimal}
use Rattle.model.specs.Settings.{largest, figure_in, in_range, to_figure, map_limit, shown, limit_text, value_text, Allowed}
use Rattle.model.specs.Files.{contents}
use Rattle.model.specs.declared.Resource.{Resource}
use Rattle.model.specs.declared.Resource.TheVariants.{Pages, Processes}
use Rattle.model.specs.declared.Limit.{Limit}
use Rattle.model.specs.declared.Setting.{Setting}
use Rattle.model.specs.declared.Setting.TheVariants.{CpuWeight, CpuMax, IoMax, Max}
use Rattle.model.specs.declared.SettingValue.{SettingValue}
use Rattle.model.specs.declared.SettingValue.TheVariants.{Weight, Bandwidth, Maximum}
use Rattle.model.specs.declared.File.TheVariants.{Value}
use Rattle.model.proofs.DecimalLaws.{length-decimal}
use Rattle.model.proofs.SettingTextLaws.{shown-short}
use Rattle.model.proofs.WriteBack.{length-of-text}
use Rattle.tree.specs.Layout.{view}
use Rattle.tree.specs.declared.sum.Counter.TheVariants.{Of}
use Rattle.tree.specs.Kept.{count_in, KeptAt}
use Rattle.tree.proofs.KeptLaws.{count_small}
use Rattle.files.specs.Texts.{longest, file_contents, Ready}

-- ---- the text of one value

one_line : (v : SettingValue) → ended (value_text v) ≡ joined (ended (value_text v) ∷ [])
unfolding joined
one_line v = sym (append-nil (ended (value_text v)))

pub length-ended : (l : List ℕ) → length (ended l) ≡ length l + 1
length-ended l = length-append l (newline ∷ [])

length-one : (v : SettingValue) → length (value_text v) < longest_shown → length (joined (ended (value_text v) ∷ [])) ≤ longest_shown
length-one v h = rw (← one_line v) (omega (arith, length-ended (value_text v)))

-- ---- counts

figure-small : (r : Resource) (n : ℕ) → n ≤ largest_machine → to_figure r n < 10 ^ 16
figure-small Pages n h = omega arith
figure-small Processes n h = omega arith

module _ {xs : List ℕ} {g : ℕ} (k : KeptAt xs g) (r : Resource) (n : ℕ) (e : n ≡ count_in (view xs) (Of r) g) where
  small : to_figure r n < 10 ^ 16
  small = figure-small r n (omega (arith, count_small (view xs) k.kept.formed (Of r) g))

  pub figure-fits : to_figure r n < 2 ^ 64
  figure-fits = omega (arith, small)

  module _ (f : ℕ) (q : f ≡ to_figure r n) where
    pub length-figure : length (decimal f) ≤ 16
    length-figure = length-decimal f 16 (omega (arith, small)) (omega arith)

-- ---- settings

module _ {xs : List ℕ} {g : ℕ} (k : KeptAt xs g) where
  abbrev settings : Settings
  settings = settings_at (view xs) g

  allowed : Allowed settings
  allowed = k.kept.formed.ranges.within g k.live

  pub length-setting : (s : Setting) → length (file_contents xs g (Value s)) ≤ longest (Value s)
  unfolding file_contents contents shown All
  length-setting CpuWeight = omega (arith, length-one _ (shown-short CpuWeight settings (allowed.values CpuWeight)).0)
  length-setting CpuMax = omega (arith, length-one _ (shown-short CpuMax settings (allowed.values CpuMax)).0)
  length-setting IoMax = length-of-text (view xs) k.kept.formed g IoMax k.live
  length-setting (Max r) = omega (arith, length-one _ (shown-short (Max r) settings (allowed.values (Max r))).0)

  pub limit-range : (r : Resource) (l : Limit) → l ≡ ((view xs).group g).core.limit r
      → figure_in 0 (largest r) (map_limit (to_figure r) l) ≡ true
  unfolding in_range shown All
  limit-range r l e = rw e (allowed.values (Max r)).0

  pub weight-text : (n : ℕ) → n ≡ ((view xs).group g).cpu.weight → ended (decimal n) ≡ file_contents xs g (Value CpuWeight)
  unfolding file_contents contents shown value_text
  weight-text n e = ap (λ (m : ℕ). ended (decimal m)) e ∙ one_line (Weight ((view xs).group g).cpu.weight)

  pub bandwidth-text : (q : Limit) (n : ℕ) → q ≡ ((view xs).group g).cpu.quota → n ≡ ((view xs).group g).cpu.period
      → ended (value_text (Bandwidth q n)) ≡ file_contents xs g (Value CpuMax)
  unfolding file_contents contents shown
  bandwidth-text q n e f = rw (e, f) (one_line (Bandwidth ((view xs).group g).cpu.quota ((view xs).group g).cpu.period))

  pub limit-text : (r : Resource) (l m : Limit) → l ≡ ((view xs).group g).core.limit r → m ≡ map_limit (to_figure r) l
      → ended (limit_text m) ≡ file_contents xs g (Value (Max r))
  unfolding file_contents contents shown value_text
  limit-text r l m e f =
      ap (λ (x : Limit). ended (limit_text x)) (f ∙ ap (map_limit (to_figure r)) e)
      ∙ one_line (Maximum r (map_limit (to_figure r) (((view xs).group g).core.limit r)))

-- the text of a settings file has room
pub setting-room : {xs out text : List ℕ} {g n : ℕ} {s y : Setting} → Ready xs g (Value s) n → out ≡ [] → s ≡ y
    → text ≡ file_contents xs g (Value y) → length out + length text ≤ n
setting-room {n = n} {y = y} r z e t =
    let room : longest (Value y) ≤ n = rw e at r.room in
    omega (arith, length-setting r.group y, ap length t, ap length z, room)
