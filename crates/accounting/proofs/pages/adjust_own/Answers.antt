-- `accounting::pages::adjust_own` meets its contract. Assumes nothing.
use Rattle.accounting.proofs.pages.adjust_own.Goals as goal

pub returns : goal.returns
returns c = rw c.own-was.ensures at c.set_own.ensures
