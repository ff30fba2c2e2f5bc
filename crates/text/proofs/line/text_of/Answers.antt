-- `text::line::text_of` meets its contract: the line ends in a newline, or is its own text. Assumes nothing.
use Rattle.std.proofs.Common.{ap, ◌∙◌, ◌∷◌, []}
use Rattle.std.proofs.lemmas.Bool.Decides.{Decides-eqb}
use Rattle.std.proofs.lemmas.Slice.Eq.{strip_suffix_is}
use Rattle.model.specs.Text.{newline}
use Rattle.text.proofs.LineLaws.{body-kept}
use Rattle.text.proofs.line.text_of.Goals as goal

pub returns-clause-text : goal.returns-clause-text
returns-clause-text c =
    let stripped = strip_suffix_is Decides-eqb c.args.line.now (newline ∷ []) c.strip_suffix.result c.strip_suffix.ensures.cases in
    ap (λ x. x.now) c.unwrap_or.ensures ∙ body-kept c.args.line c.strip_suffix.result stripped
