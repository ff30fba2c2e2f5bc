-- `accounting::release::release` meets its contract: what its checks answer is the verdict, and the stores after them are the
-- definition's effect. Assumes nothing.
use mathlib.Core.Path.{refl}
use Rattle.std.proofs.lemmas.Result.{err_from_is_err_and}
use Rattle.tree.proofs.CallLaws.{call_stays}
use Rattle.accounting.proofs.PagesLaws.{sums-adjustable, own-adjustable, pages-adjusted}
use Rattle.accounting.proofs.ReleaseLaws.{release-adjustable, release-done}
use Rattle.accounting.proofs.release.release.Goals as goal

-- refused
pub returns-in_err-vet_release : goal.returns-in_err-vet_release
returns-in_err-vet_release c =
    let p = err_from_is_err_and c.from_residual.result c.from_residual.ensures.1 in
    rw (p.1, p.2) (call_stays _ c.requires _ _ _ c.in_err-vet_release.ensures refl)

pub adjust_up-requires : goal.adjust_up-requires
adjust_up-requires c = sums-adjustable _ _ _ _ (release-adjustable _ c.requires _ _ c.in_ok-vet_release.ensures)

pub adjust_own-requires : goal.adjust_own-requires
adjust_own-requires c = own-adjustable _ _ _ _ (release-adjustable _ c.requires _ _ c.in_ok-vet_release.ensures) _ c.adjust_up.ensures

-- done
pub returns : goal.returns
returns c =
    let d = c.in_ok-vet_release.ensures in
    release-done _ c.requires _ _ d _ (pages-adjusted _ _ _ _ (release-adjustable _ c.requires _ _ d) _ _ c.adjust_up.ensures c.adjust_own.ensures)
