-- Which lines of io.max are well formed, by their words, and what each gives: order 1, "a line is a device major:minor .. then
-- pairs of rbps, wbps, riops, wiops, in any order", "all figures are number words" and "A key given twice .. is 22". Nothing here
-- goes by how DeviceLines cuts a word or gathers the pairs. Assumes nothing.
use Rattle.std.specs.Prelude.{ℕ, List, [], ◌∷◌, ◌++◌, ◌≢◌, ◌≡◌, Some, None}
use Rattle.model.specs.Functions.{All}
use Rattle.model.specs.Text.{number_word}
use Rattle.model.specs.Devices.{pair_of, Pairs}
use Rattle.model.specs.Figures.{limit_word}
use Rattle.model.specs.DeviceLines.{colon, equals_sign, key_name}
use Rattle.model.specs.Settings.{value_of}
use Rattle.model.specs.declared.Limit.{Limit}
use Rattle.model.specs.declared.Key.{Key}
use Rattle.model.specs.declared.Setting.TheVariants.{IoMax}
use Rattle.model.specs.declared.SettingValue.{SettingValue}
use Rattle.model.specs.declared.SettingValue.TheVariants.{Device}

-- "a device major:minor": two number words and a colon between them
pub record IsDevice (w : List ℕ) (a b : ℕ) : Type 0 where
  pub major : List ℕ
  pub minor : List ℕ
  pub parts : w ≡ major ++ (colon ∷ minor)
  pub first : number_word major ≡ Some a
  pub second : number_word minor ≡ Some b

-- what a pair gives a key
pub record KeyLimit : Type 0 where
  pub key : Key
  pub limit : Limit

-- a pair is a key's name, "=", and a number word or "max"
pub record IsPair (w : List ℕ) (x : KeyLimit) : Type 0 where
  pub value : List ℕ
  pub parts : w ≡ key_name x.key ++ (equals_sign ∷ value)
  pub reads : limit_word value ≡ Some x.limit

-- each word is the pair at its place
pub data ArePairs : List (List ℕ) → List KeyLimit → Type 0 where
  done : ArePairs [] []
  more : {w : List ℕ} {x : KeyLimit} {ws : List (List ℕ)} {xs : List KeyLimit} → IsPair w x → ArePairs ws xs
      → ArePairs (w ∷ ws) (x ∷ xs)

-- "A key given twice .. is 22."
unfoldable pub NoKeyTwice : List KeyLimit → Type 0
NoKeyTwice [] = Unit {0}
NoKeyTwice (x ∷ xs) = All (λ y. y.key ≢ x.key) xs × NoKeyTwice xs

-- p has what the pairs give, and nothing for a key that is in none of them
pub record Gives (xs : List KeyLimit) (p : Pairs) : Type 0 where
  pub given : All (λ x. pair_of p x.key ≡ Some x.limit) xs
  pub absent : (k : Key) → All (λ x. x.key ≢ k) xs → pair_of p k ≡ None

-- the words are a line for the device a:b, which gives p
pub record LineRead (ws : List (List ℕ)) (a b : ℕ) (p : Pairs) : Type 0 where
  pub first : List ℕ
  pub rest : List (List ℕ)
  pub words : ws ≡ first ∷ rest
  pub device : IsDevice first a b
  pub pairs : List KeyLimit
  pub each : ArePairs rest pairs
  pub once : NoKeyTwice pairs
  pub gives : Gives pairs p

-- such a line is read as what it gives, nothing else is well formed, and no line gives two things
pub record DeviceForm (ws : List (List ℕ)) : Type 0 where
  pub reads : (a b : ℕ) (p : Pairs) → LineRead ws a b p → value_of IoMax ws ≡ Some (Device a b p)
  pub only : (v : SettingValue) → value_of IoMax ws ≡ Some v → (a b : ℕ) × (p : Pairs) × (v ≡ Device a b p) × LineRead ws a b p
  pub one : (a b c d : ℕ) (p q : Pairs) → LineRead ws a b p → LineRead ws c d q → (a ≡ c) × (b ≡ d) × (p ≡ q)
