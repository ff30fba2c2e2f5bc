-- `lines::name::first_named` meets its contract: the names of those before are not the word's. Assumes nothing.
use Rattle.std.specs.Prelude.{◌≡◌}
use lib.ListN.{drop}
use Rattle.model.specs.Names.{named}
use Rattle.lines.proofs.name.first_named.Given as goal

abbrev pub invariant-loop-one : goal.invariant-loop-one
invariant-loop-one g l = named g.T.Named.name l.name (drop l.one-index l.all) ≡ named g.T.Named.name l.name l.all
