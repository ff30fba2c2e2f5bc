-- `tree::group::set_group` meets its contract. Assumes nothing.
use Rattle.tree.proofs.SetterLaws.{made-group}
use Rattle.tree.proofs.group.set_group.Goals as goal

pub returns : goal.returns
returns c =
    made-group c.requires.0 c.requires.1 _ _ _ c.set_word.ensures c.set_word-2.ensures
    c.set_word-3.ensures c.set_word-4.ensures c.set_word-5.ensures c.set_word-6.ensures
