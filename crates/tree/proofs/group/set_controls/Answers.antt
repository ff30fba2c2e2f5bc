-- `tree::group::set_controls` meets its contract. Assumes nothing.
use Rattle.tree.proofs.SetterLaws.{wrote-controls}
use Rattle.tree.proofs.group.set_controls.Goals as goal

pub returns : goal.returns
returns c = wrote-controls c.requires _ c.set_word.ensures c.set_word-2.ensures c.set_word-3.ensures c.set_word-4.ensures
