-- Laws of a line's text: a line that ends in a newline, and one that does not. Assumes nothing.
use Rattle.std.proofs.Common.{ℕ, ◌≡◌, ◌≢◌, List, [], ◌∷◌, Option, Some, None, refl, ap, sym, ◌∙◌}
use Rattle.std.specs.Prelude.{MatchOption}
use Rattle.std.specs.Option.{unwrap_or}
use Rattle.std.specs.Borrow.{Bor}
use borrow.Author.Tests.{ne_eqb}
use Rattle.model.specs.Text.{newline, ended, body}
use Rattle.model.proofs.TextLaws.{body_ended}

body-whole : (line : List ℕ) → ((front : List ℕ) → line ≢ ended front) → line ≡ body line
unfolding body
body-whole [] n = refl
body-whole (b ∷ []) n = rw (ne_eqb b newline (λ e. n [] (ap (λ x. x ∷ []) e)))
body-whole (b ∷ c ∷ l) n = ap (λ (z : List ℕ). b ∷ z) (body-whole (c ∷ l) (λ front e. n (b ∷ front) (ap (λ (z : List ℕ). b ∷ z) e)))

-- what is left when a final newline is stripped, or the line itself
pub body-kept : (line : Bor (List ℕ)) (r : Option (Bor (List ℕ)))
    → MatchOption r ((front : List ℕ) → line.now ≢ ended front) (λ x. line.now ≡ ended x.now)
    → (unwrap_or r line).now ≡ body line.now
body-kept line None n = body-whole line.now n
body-kept line (Some x) e = sym (ap body e ∙ body_ended x.now)
