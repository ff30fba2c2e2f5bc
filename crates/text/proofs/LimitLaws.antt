-- Laws of limits as words: "max", or a number. Assumes nothing.
use Rattle.std.proofs.Common.{ℕ, ◌≡◌, true, false, List, Option, Some, None, refl, ap, ◌∙◌}
use Rattle.model.specs.Functions.{mapped}
use Rattle.model.specs.Text.{bytes, same_bytes, number_word}
use Rattle.model.specs.Settings.{limit_word}
use Rattle.model.specs.declared.Limit.TheVariants.{NoLimit, Figure}
use Rattle.text.specs.Number.{clip}
use Rattle.text.specs.Limit.{clipped_limit}

module _ (w : List ℕ) where
  pub limit-max : same_bytes w (bytes "max") ≡ true → Some NoLimit ≡ mapped clipped_limit (limit_word w)
  unfolding limit_word
  limit-max e = rw e

  pub limit-number : same_bytes w (bytes "max") ≡ false → (n : Option ℕ) → n ≡ mapped clip (number_word w)
      → mapped Figure n ≡ mapped clipped_limit (limit_word w)
  unfolding limit_word
  limit-number e n f = ap (mapped Figure) f ∙ rw e (go (number_word w))
    where
      go : (o : Option ℕ) → mapped Figure (mapped clip o) ≡ mapped clipped_limit (mapped Figure o)
      go None = refl
      go (Some m) = refl
