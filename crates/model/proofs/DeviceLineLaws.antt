-- Laws of a line of io.max: a word cut in two; a device's word and a pair read back; the line's words, lengths and bytes.
-- Assumes nothing.
use Rattle.std.specs.Prelude.{Option, Some, None}
use Prim.Native.Nat.{ℕ, ◌≤◌, ◌<◌}
use native.Mathlib.Omega.{arith}
use mathlib.Core.Bool.{true, false}
use mathlib.Core.List.{List, [], ◌∷◌, ◌++◌}
use mathlib.Core.Logic.{◌≢◌}
use mathlib.Core.Path.{◌≡◌, refl, ap, ◌∙◌}
use lib.Dec.{eqb}
use lib.ListN.{length, length-append}
use borrow.Author.Tests.{eqb-true, eq-eqb, ne_eqb, lt-leb}
use Rattle.model.specs.Functions.{All}
use Rattle.model.specs.Sizes.{device_numbers, largest_rate}
use Rattle.model.specs.Text.{newline, space, same_bytes, words, is_digit, number_word, decimal, spaced}
use Rattle.model.specs.Names.{named}
use Rattle.model.specs.Devices.{keys, pair_of, pairs_of, Pairs}
use Rattle.model.specs.Figures.{limit_word, limit_text}
use Rattle.model.specs.DeviceLines.{colon, equals_sign, key_name, key_named, before, after, no_pairs, is_given, with_pair, pair_word, pairs_from, device_text, rate_in, pair_text, pair_texts, line_text}
use Rattle.model.specs.declared.Limit.{Limit}
use Rattle.model.specs.declared.Key.{Key}
use Rattle.model.specs.declared.Key.TheVariants.{Rbps, Wbps, Riops, Wiops}
use Rattle.model.proofs.FunctionLaws.{split, all_append}
use Rattle.model.proofs.TextLaws.{IsWord, Unbroken, words-spaced, unbroken-spaced}
use Rattle.model.proofs.DecimalLaws.{decimal-without, length-decimal, number_word-decimal}
use Rattle.model.proofs.FigureLaws.{limit_word-limit_text, limit_text-without, length-limit_text}

-- A word cut at the first byte b.
module _ (b : ℕ) where
  pub before-cut : (u v : List ℕ) → All (λ x. x ≢ b) u → before b (u ++ (b ∷ v)) ≡ u
  unfolding All before
  before-cut [] v h = rw (eq-eqb b b refl)
  before-cut (x ∷ xs) v h = rw (ne_eqb x b h.0) (ap (λ (l : List ℕ). x ∷ l) (before-cut xs v h.1))

  pub after-cut : (u v : List ℕ) → All (λ x. x ≢ b) u → after b (u ++ (b ∷ v)) ≡ v
  unfolding All after
  after-cut [] v h = rw (eq-eqb b b refl)
  after-cut (x ∷ xs) v h = rw (ne_eqb x b h.0) (after-cut xs v h.1)

  -- with a part after b, the word is its two parts
  pub cut_parts : (w : List ℕ) → after b w ≢ [] → w ≡ before b w ++ (b ∷ after b w)
  unfolding before after
  cut_parts [] h = absurd (h refl)
  cut_parts (x ∷ xs) h =
      split (eqb x b)
      (λ e. rw e (ap (λ y. y ∷ xs) (eqb-true x b e)))
      (λ e. rw e (ap (λ (l : List ℕ). x ∷ l) (cut_parts xs (rw e at h))))

-- Keys.
pub key_named-key_name : (k : Key) → key_named (key_name k) ≡ Some k
unfolding named same_bytes
key_named-key_name Rbps = refl
key_named-key_name Wbps = refl
key_named-key_name Riops = refl
key_named-key_name Wiops = refl

-- what is no small letter is not in a key's name
key_name-without : (c : ℕ) (k : Key) → c < 97 → All (λ b. b ≢ c) (key_name k)
unfolding All
key_name-without c Rbps h = omega arith
key_name-without c Wbps h = omega arith
key_name-without c Riops h = omega arith
key_name-without c Wiops h = omega arith

-- Reading back.
module _ (a b : ℕ) where
  pub major-back : number_word (before colon (device_text a b)) ≡ Some a
  major-back = rw (before-cut colon (decimal a) (decimal b) (decimal-without colon a refl)) (number_word-decimal a)

  pub minor-back : number_word (after colon (device_text a b)) ≡ Some b
  minor-back = rw (after-cut colon (decimal a) (decimal b) (decimal-without colon a refl)) (number_word-decimal b)

-- a pair of a key that was not given
pub pair_word-pair : (p : Pairs) (k : Key) (l : Limit) (v : List ℕ) → limit_word v ≡ Some l → is_given (pair_of p k) ≡ false
    → pair_word p (key_name k ++ (equals_sign ∷ v)) ≡ Some (with_pair k l p)
pair_word-pair p k l v e h =
    let free : All (λ b. b ≢ equals_sign) (key_name k) = key_name-without equals_sign k (omega arith) in
    rw (before-cut equals_sign (key_name k) v free, after-cut equals_sign (key_name k) v free, key_named-key_name, e, h)

pairs_from-pair : (p : Pairs) (k : Key) (l : Limit) (ws : List (List ℕ)) → is_given (pair_of p k) ≡ false
    → pairs_from p (pair_text k l ∷ ws) ≡ pairs_from (with_pair k l p) ws
unfolding pairs_from
pairs_from-pair p k l ws h = rw (pair_word-pair p k l (limit_text l) (limit_word-limit_text l) h, pairs_from)

-- all four pairs
module _ (l : Key → Limit) where
  abbrev pub given-all : Pairs
  given-all = pairs_of (λ k. Some (l k))

  abbrev one : Pairs
  one = with_pair Rbps (l Rbps) no_pairs

  abbrev two : Pairs
  two = with_pair Wbps (l Wbps) one

  abbrev three : Pairs
  three = with_pair Riops (l Riops) two

  no-more-pairs : pairs_from (with_pair Wiops (l Wiops) three) [] ≡ Some given-all
  unfolding pairs_from
  no-more-pairs = refl

  pub pairs-back : pairs_from no_pairs (pair_texts given-all keys) ≡ Some given-all
  unfolding pair_texts
  pairs-back =
      let pair : Key → List ℕ = (λ k. pair_text k (l k)) in
      pairs_from-pair no_pairs Rbps (l Rbps) (pair Wbps ∷ pair Riops ∷ pair Wiops ∷ []) refl
      ∙ pairs_from-pair one Wbps (l Wbps) (pair Riops ∷ pair Wiops ∷ []) refl
      ∙ pairs_from-pair two Riops (l Riops) (pair Wiops ∷ []) refl
      ∙ pairs_from-pair three Wiops (l Wiops) [] refl
      ∙ no-more-pairs

-- Bytes below the digits, as space and newline are, are in no word of a line.
module _ (c : ℕ) (low : c < 48) where
  no_digit : is_digit c ≡ false
  no_digit = rw (lt-leb 48 c low)

  device_text-without : (a b : ℕ) → All (λ x. x ≢ c) (device_text a b)
  unfolding All
  device_text-without a b =
      all_append (λ x. x ≢ c) (decimal a) (colon ∷ decimal b) (decimal-without c a no_digit) ((λ e. omega arith), decimal-without c b no_digit)

  pair_text-without : (k : Key) (l : Limit) → All (λ x. x ≢ c) (pair_text k l)
  unfolding All
  pair_text-without k l =
      all_append (λ x. x ≢ c) (key_name k) (equals_sign ∷ limit_text l) (key_name-without c k (omega arith))
      ((λ e. omega arith), limit_text-without c l no_digit (omega arith))

word-of-device_text : (a b : ℕ) → IsWord (device_text a b)
word-of-device_text a b =
    record { unspaced = device_text-without space (omega arith) a b; non-empty = simp length-append (omega arith) }

word-of-pair_text : (k : Key) (l : Limit) → IsWord (pair_text k l)
word-of-pair_text k l =
    record { unspaced = pair_text-without space (omega arith) k l; non-empty = simp length-append (omega arith) }

-- what holds of every pair's text
all-pair_texts : (P : List ℕ → Type 0) → ((k : Key) (l : Limit) → P (pair_text k l)) → (p : Pairs) (ks : List Key) → All P (pair_texts p ks)
unfolding All pair_texts
all-pair_texts P h p [] = tt
all-pair_texts P h p (k ∷ ks) = go (pair_of p k) (all-pair_texts P h p ks)
  where
    go : (o : Option Limit) → All P (pair_texts p ks) → All P (elim o [ None ↦ pair_texts p ks | Some l ↦ pair_text k l ∷ pair_texts p ks ])
    go None r = r
    go (Some l) r = (h k l, r)

-- The line.
module _ (a b : ℕ) (p : Pairs) where
  pub words-of-line : words (line_text a b p) ≡ device_text a b ∷ pair_texts p keys
  unfolding All
  words-of-line =
      words-spaced (device_text a b) (pair_texts p keys) (word-of-device_text a b, all-pair_texts IsWord word-of-pair_text p keys)

  pub unbroken-line : Unbroken (line_text a b p)
  unfolding All
  unbroken-line =
      unbroken-spaced (device_text a b ∷ pair_texts p keys)
      (device_text-without newline (omega arith) a b, all-pair_texts Unbroken (pair_text-without newline (omega arith)) p keys)

-- "255:255" and four pairs of 16 digits
pub length-of-line : (a b : ℕ) (l : Key → Limit) → a < device_numbers → b < device_numbers → ((k : Key) → rate_in (l k) ≡ true)
    → length (line_text a b (given-all l)) ≤ 97
unfolding spaced pair_texts
length-of-line a b l x y h =
    let size : (k : Key) → length (limit_text (l k)) ≤ 16 = (λ k. length-limit_text 1 largest_rate (l k) (omega arith) (h k)) in
    simp length-append
    (omega (arith, length-decimal a 3 (omega arith) (omega arith), length-decimal b 3 (omega arith) (omega arith), size Rbps, size Wbps, size Riops, size Wiops))
