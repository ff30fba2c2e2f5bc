-- `tree::group::set_owner` meets its contract. Assumes nothing.
use native.Mathlib.Omega.{arith}
use Rattle.model.specs.Functions.{upd}
use Rattle.tree.specs.Layout.{owner_field}
use Rattle.tree.proofs.SetterLaws.{wrote-word}
use Rattle.tree.proofs.group.set_owner.Goals as goal

pub returns : goal.returns
unfolding upd
returns c = wrote-word c.requires owner_field _ (omega arith) (omega arith) c.set_word.ensures
