-- Two hosts that begin alike and are given the same calls have the same words: each follows the definitions, and one tree has one
-- list of words. Assumes nothing.
use mathlib.Core.Path.{ap₂, sym, ◌∙◌}
use Rattle.model.specs.Effects.{run}
use Rattle.model.specs.Lists.{log}
use Rattle.tree.proofs.OneForm.{one_form}
use Rattle.demands.specs.SameWords.{SameWords}
use Rattle.demands.proofs.Runs.{followed}

pub same-words : SameWords
same-words =
    record {
      fresh = λ f g. one_form _ _ f.kept g.kept (f.tree ∙ sym g.tree);
      same = λ r s t c.
          let f = followed r in
          let g = followed s in
          one_form _ _ f.kept g.kept (f.tree ∙ ap₂ run t c ∙ sym g.tree);
      numbers = λ r s t c. (followed r).entries ∙ ap₂ log t c ∙ sym (followed s).entries;
    }
