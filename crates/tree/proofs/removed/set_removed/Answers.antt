-- `tree::removed::set_removed` meets its contract. Assumes nothing.
use Rattle.tree.proofs.LayoutLaws.{remnant-word}
use Rattle.tree.proofs.SetterLaws.{wrote-left}
use Rattle.tree.proofs.removed.set_removed.Goals as goal

pub returns : goal.returns
returns c = wrote-left c.requires.0 _ _ (remnant-word _ _ c.requires.1.0) c.set_word.ensures
