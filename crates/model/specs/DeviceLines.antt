-- A line of io.max: its words, their ranges, and how a device's line is shown. Order 1, "Disks need their share too". Assumes nothing.
use Rattle.std.specs.Prelude.{ℕ, Bool, true, false, ◌&&◌, List, [], ◌∷◌, ◌++◌, eqb, ltb, Option, Some, None}
use Rattle.model.specs.Functions.{pick}
use Rattle.model.specs.Sizes.{device_numbers, largest_rate}
use Rattle.model.specs.Text.{bytes, number_word, decimal, spaced}
use Rattle.model.specs.Names.{named}
use Rattle.model.specs.Devices.{keys, every_key, pair_of, pairs_of, Pairs}
use Rattle.model.specs.Figures.{limit_word, figure_in, limit_text}
use Rattle.model.specs.declared.Limit.{Limit}
use Rattle.model.specs.declared.Key.{Key}
use Rattle.model.specs.declared.Key.TheVariants.{Rbps, Wbps, Riops, Wiops}
use Rattle.model.specs.declared.SettingValue.{SettingValue}
use Rattle.model.specs.declared.SettingValue.TheVariants.{Device}

abbrev pub colon : ℕ
colon = 58

abbrev pub equals_sign : ℕ
equals_sign = 61

abbrev pub key_name : Key → List ℕ
key_name Rbps = bytes "rbps"
key_name Wbps = bytes "wbps"
key_name Riops = bytes "riops"
key_name Wiops = bytes "wiops"

abbrev pub key_named : List ℕ → Option Key
key_named w = named key_name w keys

-- The parts of a word before and after the first byte b. Where there is no b, the second part is empty, and so the word malformed:
-- neither a number word nor "max" is empty.
unfoldable pub before : ℕ → List ℕ → List ℕ
before b [] = []
before b (x ∷ xs) = pick (eqb x b) [] (x ∷ before b xs)

unfoldable pub after : ℕ → List ℕ → List ℕ
after b [] = []
after b (x ∷ xs) = pick (eqb x b) xs (after b xs)

-- The form of a line.
abbrev pub no_pairs : Pairs
no_pairs = pairs_of (λ k. None)

abbrev pub is_given : Option Limit → Bool
is_given None = false
is_given (Some l) = true

abbrev pub key_number : Key → ℕ
key_number Rbps = 0
key_number Wbps = 1
key_number Riops = 2
key_number Wiops = 3

abbrev pub with_pair : Key → Limit → Pairs → Pairs
with_pair k l p = pairs_of (λ j. pick (eqb (key_number j) (key_number k)) (Some l) (pair_of p j))

-- one pair more, of a key and a number word or "max": "A key given twice, undefined there, is 22."
abbrev pub pair_more : Pairs → Option Key → Option Limit → Option Pairs
pair_more p None l = None
pair_more p (Some k) None = None
pair_more p (Some k) (Some l) = pick (is_given (pair_of p k)) None (Some (with_pair k l p))

abbrev pub pair_word : Pairs → List ℕ → Option Pairs
pair_word p w = pair_more p (key_named (before equals_sign w)) (limit_word (after equals_sign w))

-- "then pairs of rbps, wbps, riops, wiops, in any order", after those that gave p
unfoldable pub pairs_from : Pairs → List (List ℕ) → Option Pairs
pairs_from p [] = Some p
pairs_from p (w ∷ ws) = elim (pair_word p w) [ None ↦ None | Some q ↦ pairs_from q ws ]

-- "a line is a device major:minor .. then pairs": two number words and any pairs, all well formed
abbrev pub device_value : Option ℕ → Option ℕ → Option Pairs → Option SettingValue
device_value None minor p = None
device_value (Some a) None p = None
device_value (Some a) (Some b) None = None
device_value (Some a) (Some b) (Some p) = Some (Device a b p)

abbrev pub device_words : List (List ℕ) → Option SettingValue
device_words [] = None
device_words (w ∷ ws) = device_value (number_word (before colon w)) (number_word (after colon w)) (pairs_from no_pairs ws)

-- The range of a line: "each 0 to 255", "each 1 to 4503599627370496 or "max"".
abbrev pub device_in : ℕ → ℕ → Bool
device_in major minor = ltb major device_numbers && ltb minor device_numbers

abbrev pub rate_in : Limit → Bool
rate_in l = figure_in 1 largest_rate l

abbrev pub pair_in : Option Limit → Bool
pair_in None = true
pair_in (Some l) = rate_in l

abbrev pub pairs_in : Pairs → Bool
pairs_in p = every_key (λ k. pair_in (pair_of p k))

-- The text of a line: "8:16 rbps=2097152 wbps=max riops=max wiops=120".
abbrev pub device_text : ℕ → ℕ → List ℕ
device_text major minor = decimal major ++ (colon ∷ decimal minor)

abbrev pub pair_text : Key → Limit → List ℕ
pair_text k l = key_name k ++ (equals_sign ∷ limit_text l)

unfoldable pub pair_texts : Pairs → List Key → List (List ℕ)
pair_texts p [] = []
pair_texts p (k ∷ ks) = elim (pair_of p k) [ None ↦ pair_texts p ks | Some l ↦ pair_text k l ∷ pair_texts p ks ]

abbrev pub line_text : ℕ → ℕ → Pairs → List ℕ
line_text major minor p = spaced (device_text major minor ∷ pair_texts p keys)
