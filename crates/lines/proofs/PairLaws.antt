-- Laws of io.max's pairs: reading pairs with clipped figures is clipping what is read, and the turns of the loop that reads them.
-- Assumes nothing.
use Rattle.std.specs.Prelude.{Option, Some, None}
use Prim.Native.Nat.{ℕ}
use mathlib.Core.List.{List, [], ◌∷◌}
use mathlib.Core.Path.{◌≡◌, refl, ap, sym, ◌∙◌}
use Rattle.model.specs.Functions.{mapped}
use Rattle.model.specs.Settings.{limit_word}
use Rattle.model.specs.Devices.{pair_of, Pairs}
use Rattle.model.specs.DeviceLines.{equals_sign, key_named, before, after, no_pairs, is_given, with_pair, pair_more, pair_word, pairs_from}
use Rattle.model.specs.declared.Limit.{Limit}
use Rattle.model.specs.declared.Key.{Key}
use Rattle.model.specs.declared.Key.TheVariants.{Rbps, Wbps, Riops, Wiops}
use Rattle.model.proofs.FunctionLaws.{split}
use Rattle.model.proofs.DeviceLaws.{pair_of-pairs_of}
use Rattle.text.specs.Limit.{clipped_limit}
use Rattle.lines.specs.Pair.{clipped_pair, clipped_pairs, clipped_word}

-- ---- reading with clipped figures is clipping what is read

unfoldable pub clipped_from : Pairs → List (List ℕ) → Option Pairs
clipped_from p [] = Some p
clipped_from p (w ∷ ws) = elim (clipped_word p w) [ None ↦ None | Some q ↦ clipped_from q ws ]

given-clipped : (x : (Option Limit)) → is_given (clipped_pair x) ≡ is_given x
given-clipped None = refl
given-clipped (Some l) = refl

with-clipped : (k : Key) (l : Limit) (p : Pairs) → with_pair k (clipped_limit l) (clipped_pairs p) ≡ clipped_pairs (with_pair k l p)
with-clipped Rbps l p = refl
with-clipped Wbps l p = refl
with-clipped Riops l p = refl
with-clipped Wiops l p = refl

more-clipped : (p : Pairs) (k : Option Key) (l : Option Limit)
    → pair_more (clipped_pairs p) k (mapped clipped_limit l) ≡ mapped clipped_pairs (pair_more p k l)
more-clipped p None l = refl
more-clipped p (Some k) None = refl
more-clipped p (Some k) (Some l) =
    let g : is_given (pair_of (clipped_pairs p) k) ≡ is_given (pair_of p k) =
    ap is_given (pair_of-pairs_of (λ j. clipped_pair (pair_of p j)) k) ∙ given-clipped (pair_of p k) in
    rw (g, with-clipped k l p) (split (is_given (pair_of p k)) (λ h. rw h) (λ h. rw h))

pub from-clipped : (p : Pairs) (ws : List (List ℕ)) → clipped_from (clipped_pairs p) ws ≡ mapped clipped_pairs (pairs_from p ws)
unfolding clipped_from pairs_from
from-clipped p [] = refl
from-clipped p (w ∷ ws) =
    ap (λ (o : Option Pairs). elim o [ None ↦ None | Some q ↦ clipped_from q ws ]) (more-clipped p (key_named (before equals_sign w)) (limit_word (after equals_sign w)))
    ∙ go (pair_word p w) (λ q. from-clipped q ws)
  where
    go : (o : Option Pairs) → ((q : Pairs) → clipped_from (clipped_pairs q) ws ≡ mapped clipped_pairs (pairs_from q ws))
        → elim (mapped clipped_pairs o) [ None ↦ None | Some q ↦ clipped_from q ws ]
        ≡ mapped clipped_pairs (elim o [ None ↦ None | Some q ↦ pairs_from q ws ])
    go None f = refl
    go (Some q) f = f q

-- where no key is given anything
pub nothing-given : (p : Pairs) → p.rbps ≡ None → p.wbps ≡ None → p.riops ≡ None → p.wiops ≡ None → p ≡ no_pairs
nothing-given p a b c d = λ i. record { rbps = a i; wbps = b i; riops = c i; wiops = d i }

-- ---- the words ws that are left, after those that gave p, where all of them give r

module _ (p : Pairs) (r : Option Pairs) (ws : List (List ℕ)) (inv : clipped_from p ws ≡ r) where
  pub pairs-none : ws ≡ [] → Some p ≡ r
  unfolding clipped_from
  pairs-none e = rw e at inv

  module _ (w : List ℕ) (vs : List (List ℕ)) (e : ws ≡ w ∷ vs) where
    pub pairs-bad : None ≡ clipped_word p w → None ≡ r
    unfolding clipped_from
    pairs-bad f = rw (e, sym f, clipped_from) at inv

    pub pairs-more : (q : Pairs) → Some q ≡ clipped_word p w → clipped_from q vs ≡ r
    unfolding clipped_from
    pairs-more q f = rw (e, sym f, clipped_from) at inv
