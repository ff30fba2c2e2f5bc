-- `tree::group::set_own` meets its contract. Assumes nothing.
use native.Mathlib.Omega.{arith}
use Rattle.model.specs.Functions.{upd}
use Rattle.tree.specs.Layout.{own_field}
use Rattle.tree.proofs.SetterLaws.{wrote-word}
use Rattle.tree.proofs.group.set_own.Goals as goal

pub returns : goal.returns
unfolding upd
returns c = wrote-word c.requires own_field _ (omega arith) (omega arith) c.set_word.ensures
