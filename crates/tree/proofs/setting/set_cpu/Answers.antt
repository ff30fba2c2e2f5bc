-- `tree::setting::set_cpu` meets its contract. Assumes nothing.
use Rattle.tree.proofs.SetterLaws.{wrote-cpu}
use Rattle.tree.proofs.setting.set_cpu.Goals as goal

pub returns : goal.returns
returns c =
    wrote-cpu c.requires.0 _ _ _ _ c.limit_word.ensures
    c.set_word.ensures c.set_word-2.ensures c.set_word-3.ensures
