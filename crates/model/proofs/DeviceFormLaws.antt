-- Laws of specs/DeviceForm.antt: keys; what one pair adds; the pairs of a line, from what is read to the relation and back; the line.
-- Assumes nothing.
use Rattle.std.specs.Prelude.{Option, Some, None}
use Prim.Native.Nat.{ℕ}
use native.Mathlib.Omega.{arith}
use mathlib.Core.Bool.{true, false}
use mathlib.Core.List.{List, [], ◌∷◌, ◌++◌}
use mathlib.Core.Logic.{◌≢◌}
use mathlib.Core.Path.{◌≡◌, refl, ap, sym, ◌∙◌}
use lib.Dec.{eqb}
use lib.ListN.{get_or}
use borrow.Author.Tests.{eq-eqb, ne_eqb}
use Rattle.model.specs.Functions.{pick, All}
use Rattle.model.specs.Text.{same_bytes, number_word}
use Rattle.model.specs.Devices.{keys, pair_of, Pairs}
use Rattle.model.specs.Figures.{limit_word}
use Rattle.model.specs.DeviceLines.{colon, equals_sign, key_name, key_named, before, after, no_pairs, is_given, key_number, with_pair, pair_more, pair_word, pairs_from, device_value}
use Rattle.model.specs.Settings.{value_of}
use Rattle.model.specs.DeviceForm.{KeyLimit, IsPair, ArePairs, done, more, NoKeyTwice, LineRead, DeviceForm}
use Rattle.model.specs.declared.Limit.{Limit}
use Rattle.model.specs.declared.Key.{Key}
use Rattle.model.specs.declared.Key.TheVariants.{Rbps, Wbps, Riops, Wiops}
use Rattle.model.specs.declared.Setting.TheVariants.{IoMax}
use Rattle.model.specs.declared.SettingValue.{SettingValue}
use Rattle.model.specs.declared.SettingValue.TheVariants.{Device}
use Rattle.model.proofs.FunctionLaws.{split, whether, clash, all_of, all_map, all_both}
use Rattle.model.proofs.DecimalLaws.{number_word-without}
use Rattle.model.proofs.NameLaws.{named-name}
use Rattle.model.proofs.DeviceLaws.{pair_of-pairs_of}
use Rattle.model.proofs.DeviceLineLaws.{before-cut, after-cut, cut_parts, pair_word-pair}

none-some : {A C : Type 0} (a : A) → ◌≡◌ {A = Option A} None (Some a) → C
none-some a e = let z : ◌≡◌ {A = ℕ} 0 1 = cc in absurd (omega arith)

-- Keys.
key-at : (k : Key) → get_or keys (key_number k) Rbps ≡ k
key-at Rbps = refl
key-at Wbps = refl
key-at Riops = refl
key-at Wiops = refl

same_key : (j k : Key) → key_number j ≡ key_number k → j ≡ k
same_key j k e = sym (key-at j) ∙ ap (λ n. get_or keys n Rbps) e ∙ key-at k

which-key : {C : Type 0} (j k : Key) → (j ≡ k → C) → (j ≢ k → C) → C
which-key j k f g = whether (key_number j) (key_number k) (λ e. f (same_key j k e)) (λ ne. g (λ e. ne (ap key_number e)))

-- What one pair adds.
not-given : (o : Option Limit) → is_given o ≡ false → o ≡ None
not-given None e = refl
not-given (Some l) e = clash true refl e

module _ (k : Key) (l : Limit) (p : Pairs) where
  with_at : (j : Key) → pair_of (with_pair k l p) j ≡ pick (eqb (key_number j) (key_number k)) (Some l) (pair_of p j)
  with_at j = pair_of-pairs_of (λ i. pick (eqb (key_number i) (key_number k)) (Some l) (pair_of p i)) j

  with-same : pair_of (with_pair k l p) k ≡ Some l
  with-same = with_at k ∙ rw (eq-eqb (key_number k) (key_number k) refl)

  with-other : (j : Key) → j ≢ k → pair_of (with_pair k l p) j ≡ pair_of p j
  with-other j ne = with_at j ∙ rw (ne_eqb (key_number j) (key_number k) (λ e. ne (same_key j k e)))

  -- a key that is still absent is another, and was absent
  with-absent : (j : Key) → pair_of (with_pair k l p) j ≡ None → (j ≢ k) × (pair_of p j ≡ None)
  with-absent j h = (apart, sym (with-other j apart) ∙ h)
    where
      apart : j ≢ k
      apart e = clash (is_given (Some l)) refl (ap is_given (sym with-same ∙ (rw e at h)))

same-pairs : (p q : Pairs) → ((k : Key) → pair_of p k ≡ pair_of q k) → p ≡ q
same-pairs p q h = λ i. record { rbps = h Rbps i; wbps = h Wbps i; riops = h Riops i; wiops = h Wiops i }

-- The pairs of a line.
-- the words add pairs to those that gave p, and with them the line gives q
record Added (p : Pairs) (ws : List (List ℕ)) (q : Pairs) : Type 0 where
  pairs : List KeyLimit
  each : ArePairs ws pairs
  once : NoKeyTwice pairs
  unused : All (λ x. pair_of p x.key ≡ None) pairs
  given : All (λ x. pair_of q x.key ≡ Some x.limit) pairs
  kept : (k : Key) → All (λ x. x.key ≢ k) pairs → pair_of q k ≡ pair_of p k

-- a word that is read as one pair more
record OnePair (p : Pairs) (w : List ℕ) (q : Pairs) : Type 0 where
  pair : KeyLimit
  word : IsPair w pair
  unused : pair_of p pair.key ≡ None
  adds : q ≡ with_pair pair.key pair.limit p

limit-not-empty : (v : List ℕ) (l : Limit) → limit_word v ≡ Some l → v ≢ []
unfolding limit_word same_bytes number_word
limit-not-empty v l e d = none-some l (rw d at e)

pair-only : (p : Pairs) (w : List ℕ) (q : Pairs) → pair_word p w ≡ Some q → OnePair p w q
pair-only p w q = go (key_named (before equals_sign w)) (limit_word (after equals_sign w)) refl refl
  where
    go : (o : Option Key) (m : Option Limit) → key_named (before equals_sign w) ≡ o → limit_word (after equals_sign w) ≡ m
        → pair_more p o m ≡ Some q → OnePair p w q
    go None m d f e = none-some q e
    go (Some k) None d f e = none-some q e
    go (Some k) (Some l) d f e =
        split (is_given (pair_of p k))
        (λ y. none-some q (rw y at e))
        (λ n.
        record {
          pair = record { key = k; limit = l };
          word =
              record {
                value = after equals_sign w;
                parts =
                    cut_parts equals_sign w (limit-not-empty _ l f)
                    ∙ ap (λ (u : List ℕ). u ++ (equals_sign ∷ after equals_sign w)) (named-name key_name _ keys k d);
                reads = f;
              };
          unused = not-given (pair_of p k) n;
          adds = some_same (rw n at e);
        })
      where
        some_same : Some (with_pair k l p) ≡ Some q → q ≡ with_pair k l p
        some_same h = cc

added_more : (p : Pairs) (w : List ℕ) (ws : List (List ℕ)) (q : Pairs) (x : KeyLimit) → IsPair w x
    → pair_of p x.key ≡ None → Added (with_pair x.key x.limit p) ws q → Added p (w ∷ ws) q
unfolding All NoKeyTwice
added_more p w ws q x h f a =
    let t : All (λ y. (y.key ≢ x.key) × (pair_of p y.key ≡ None)) a.pairs =
    all_map _ _ a.pairs (λ y. with-absent x.key x.limit p y.key) a.unused in
    let others : All (λ y. y.key ≢ x.key) a.pairs = all_map _ _ a.pairs (λ y e. e.0) t in
    record {
      pairs = x ∷ a.pairs;
      each = more h a.each;
      once = (others, a.once);
      unused = (f, all_map _ _ a.pairs (λ y e. e.1) t);
      given = (a.kept x.key others ∙ with-same x.key x.limit p, a.given);
      kept = λ k n. a.kept k n.1 ∙ with-other x.key x.limit p k (λ e. n.0 (sym e));
    }

pairs-only : (ws : List (List ℕ)) (p q : Pairs) → pairs_from p ws ≡ Some q → Added p ws q
unfolding All NoKeyTwice pairs_from
pairs-only [] p q e =
    let d : q ≡ p = cc in
    record { pairs = []; each = done; once = tt; unused = tt; given = tt; kept = λ k _. ap (λ u. pair_of u k) d }
pairs-only (w ∷ ws) p q e = go (pair_word p w) refl e (λ r. pairs-only ws r q)
  where
    go : (o : Option Pairs) → pair_word p w ≡ o → elim o [ None ↦ None | Some r ↦ pairs_from r ws ] ≡ Some q
        → ((r : Pairs) → pairs_from r ws ≡ Some q → Added r ws q) → Added p (w ∷ ws) q
    go None d f rest = none-some q f
    go (Some r) d f rest =
        let h : OnePair p w r = pair-only p w r d in
        added_more p w ws q h.pair h.word h.unused (rest _ (rw h.adds at f))

pair_reads : (p : Pairs) (w : List ℕ) (x : KeyLimit) → IsPair w x → pair_of p x.key ≡ None
    → pair_word p w ≡ Some (with_pair x.key x.limit p)
pair_reads p w x h f = rw h.parts (pair_word-pair p x.key x.limit h.value h.reads (ap is_given f))

pairs-read : (ws : List (List ℕ)) (xs : List KeyLimit) → ArePairs ws xs → (p q : Pairs) → NoKeyTwice xs
    → All (λ x. pair_of p x.key ≡ None) xs → All (λ x. pair_of q x.key ≡ Some x.limit) xs
    → ((k : Key) → All (λ x. x.key ≢ k) xs → pair_of q k ≡ pair_of p k) → pairs_from p ws ≡ Some q
unfolding All NoKeyTwice pairs_from
pairs-read ws xs done p q o u g k = ap Some (same-pairs p q (λ j. sym (k j tt)))
pairs-read ws xs (more {w = w} {x = x} {ws = vs} {xs = ys} h hs) p q o u g k =
    let n = x.key in
    let l = x.limit in
    rw (pair_reads p w x h u.0, pairs_from)
    (pairs-read vs ys hs (with_pair n l p) q o.1
    (all_both _ _ _ ys (λ y e f. with-other n l p y.key e ∙ f) o.0 u.1)
    g.1
    (λ j f. which-key j n (λ e. rw e (g.0 ∙ sym (with-same n l p))) (λ ne. k j ((λ e. ne (sym e)), f) ∙ sym (with-other n l p j ne))))

-- The line.
number-not-empty : (v : List ℕ) (n : ℕ) → number_word v ≡ Some n → v ≢ []
unfolding number_word
number-not-empty v n e d = none-some n (rw d at e)

absent-at-first : (k : Key) → pair_of no_pairs k ≡ None
absent-at-first k = pair_of-pairs_of (λ j. None) k

line_reads : (ws : List (List ℕ)) (a b : ℕ) (p : Pairs) → LineRead ws a b p → value_of IoMax ws ≡ Some (Device a b p)
unfolding value_of
line_reads ws a b p h =
    let d = h.device in
    let free : All (λ x. x ≢ colon) d.major = number_word-without colon d.major a refl d.first in
    let q : pairs_from no_pairs h.rest ≡ Some p =
    pairs-read h.rest h.pairs h.each no_pairs p h.once (all_of _ (λ x. absent-at-first x.key) h.pairs) h.gives.given
    (λ k n. h.gives.absent k n ∙ sym (absent-at-first k)) in
    rw (h.words, d.parts, before-cut colon d.major d.minor free, after-cut colon d.major d.minor free, d.first, d.second, q)

line_of : (w : List ℕ) (ws : List (List ℕ)) (a b : ℕ) (p : Pairs) → number_word (before colon w) ≡ Some a
    → number_word (after colon w) ≡ Some b → Added no_pairs ws p → LineRead (w ∷ ws) a b p
line_of w ws a b p d e h =
    record {
      first = w;
      rest = ws;
      words = refl;
      device =
          record {
            major = before colon w;
            minor = after colon w;
            parts = cut_parts colon w (number-not-empty _ b e);
            first = d;
            second = e;
          };
      pairs = h.pairs;
      each = h.each;
      once = h.once;
      gives = record { given = h.given; absent = λ k n. h.kept k n ∙ absent-at-first k };
    }

line-only : (ws : List (List ℕ)) (v : SettingValue) → value_of IoMax ws ≡ Some v
    → (a b : ℕ) × (p : Pairs) × (v ≡ Device a b p) × LineRead ws a b p
unfolding value_of
line-only [] v e = none-some v e
line-only (w ∷ ws) v e = go (number_word (before colon w)) (number_word (after colon w)) (pairs_from no_pairs ws) refl refl refl e
  where
    go : (m n : Option ℕ) (o : Option Pairs) → number_word (before colon w) ≡ m → number_word (after colon w) ≡ n
        → pairs_from no_pairs ws ≡ o → device_value m n o ≡ Some v → (a b : ℕ) × (p : Pairs) × (v ≡ Device a b p) × LineRead (w ∷ ws) a b p
    go None n o d e f g = none-some v g
    go (Some a) None o d e f g = none-some v g
    go (Some a) (Some b) None d e f g = none-some v g
    go (Some a) (Some b) (Some p) d e f g =
        let s : v ≡ Device a b p = cc in (a, b, p, s, line_of w ws a b p d e (pairs-only ws no_pairs p f))

same-device : (a b c d : ℕ) (p q : Pairs) → Some (Device a b p) ≡ Some (Device c d q) → (a ≡ c) × (b ≡ d) × (p ≡ q)
same-device a b c d p q e = (cc, cc, cc)

pub device-form : (ws : List (List ℕ)) → DeviceForm ws
device-form ws =
    record {
      reads = line_reads ws;
      only = line-only ws;
      one = λ a b c d p q h k. same-device a b c d p q (sym (line_reads ws a b p h) ∙ line_reads ws c d q k);
    }
