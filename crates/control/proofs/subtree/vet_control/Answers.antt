-- `control::subtree::vet_control` meets its contract: its tests in their order are the definitions' checks. Assumes nothing.
use mathlib.Core.Path.{◌≡◌, sym, ◌∙◌}
use lib.ListN.{drop}
use borrow.Author.Tests.{lt-leb}
use Rattle.model.specs.Sizes.{groups}
use Rattle.model.specs.Hierarchy.{facts_of}
use Rattle.model.specs.Checks.{Answer, Says, done, barred, past, met}
use Rattle.model.specs.Calls.{write_control, checks, verdict}
use Rattle.model.proofs.CheckLaws.{says_first}
use Rattle.tree.specs.Layout.{view}
use Rattle.tree.proofs.KeptLaws.{live-row}
use Rattle.control.proofs.FlagLaws.{absent_asked, held_asked, joins_asked}
use Rattle.control.proofs.subtree.vet_control.Goals as goal
use Rattle.control.proofs.subtree.vet_control.Goals.{After-asks-wishes, then-is_any_held-via-then-is_any_held, then-is_any_held-via-else-is_any_held+then-joins_populated}

-- the checks of what is asked decide, once the five before them pass
asked-decides : (c : After-asks-wishes) → {a : Answer} → Says (drop 5 (checks (facts_of (view c.args.tree.now)) (write_control c.args.user c.args.group.0 c.args.line.now))) a
    → a ≡ verdict (view c.args.tree.now) (write_control c.args.user c.args.group.0 c.args.line.now)
unfolding verdict checks
asked-decides c h =
    says_first
    (past (lt-leb groups c.args.group.0 c.if-group-ge-GROUPS.false)
    (met (sym c.if-not-is_live.ensures)
    (met (sym c.if-not-may_write.ensures) (past (sym c.if-is_too_long.ensures) (past (sym c.if-has_bad_word.ensures) h)))))

pub absent-requires : goal.absent-requires
absent-requires c = live-row _ c.requires _ (sym c.if-not-is_live.ensures)

-- Enoent: a wanted controller is not available
pub returns-then-is_any : goal.returns-then-is_any
unfolding checks
returns-then-is_any c =
    let a = absent_asked c.asks-wishes.ensures (view c.args.tree.now) c.args.group.0 c.absent.ensures in
    asked-decides (goal.at.returns-then-is_any c).After-asks-wishes (barred (sym (c.if-is_any.ensures ∙ a)))

-- Ebusy: a controller that leaves is in a child's set, or the inner-process rule
pub returns-then-is_any_held : goal.returns-then-is_any_held
unfolding checks
returns-then-is_any_held c =
    let a = absent_asked c.asks-wishes.ensures (view c.args.tree.now) c.args.group.0 c.absent.ensures in
    let h = held_asked c.asks-wishes.ensures (view c.args.tree.now) c.args.group.0 c.leaving.ensures in
    let j = joins_asked c.asks-wishes.ensures (view c.args.tree.now) c.args.group.0 in
    asked-decides (goal.at.returns-then-is_any_held c).After-asks-wishes
    (past (sym (c.if-is_any.ensures ∙ a))
    (elim c.then-is_any_held.branch [
      | then-is_any_held-via-then-is_any_held w ↦ barred (sym (w.if-is_any_held.ensures ∙ h))
      | then-is_any_held-via-else-is_any_held+then-joins_populated w ↦
          past (sym (w.if-is_any_held.ensures ∙ h)) (barred (sym (w.if-joins_populated.ensures ∙ j)))
    ]))

pub returns : goal.returns
unfolding checks
returns c =
    let a = absent_asked c.asks-wishes.ensures (view c.args.tree.now) c.args.group.0 c.absent.ensures in
    let h = held_asked c.asks-wishes.ensures (view c.args.tree.now) c.args.group.0 c.leaving.ensures in
    let j = joins_asked c.asks-wishes.ensures (view c.args.tree.now) c.args.group.0 in
    asked-decides (goal.at.returns c).After-asks-wishes
    (past (sym (c.if-is_any.ensures ∙ a)) (past (sym (c.if-is_any_held.ensures ∙ h)) (past (sym (c.if-joins_populated.ensures ∙ j)) done)))
