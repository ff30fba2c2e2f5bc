-- Containment, the last sentence of demand 2: "A user other than 0, all of whose groups lie inside one handed-over part, never
-- moves a process across that part's edge." Of one call, and of every list of calls. Assumes nothing.
use Rattle.std.specs.Prelude.{ℕ, true, false, List, ◌≢◌, ◌≡◌, Option, Some, None}
use Rattle.model.specs.Tree.{Tree, at, lives, parents, owners, places}
use Rattle.model.specs.Hierarchy.{inside}
use Rattle.model.specs.Calls.{Call}
use Rattle.model.specs.Effects.{step, run}
use Rattle.model.specs.Lists.{Accepted, Each, Never}

-- the user that makes a call, where one does
abbrev pub caller : Call → Option ℕ
caller (Call.make user parent new) = Some user
caller (Call.remove user g) = Some user
caller (Call.hand_over user g owner) = Some user
caller (Call.write_procs user g line) = Some user
caller (Call.write_control user g line) = Some user
caller (Call.write_setting user g file line) = Some user
caller (Call.admit p user) = None
caller (Call.fork p new) = None
caller (Call.exit p) = None
caller (Call.collect p) = None
caller (Call.charge p n) = None
caller (Call.release g n) = None
caller (Call.read g file buffer) = None
caller (Call.membership p buffer) = None

-- "all of whose groups lie inside one handed-over part": the part is d and all below it
abbrev pub OwnsInside : Tree → ℕ → ℕ → Type 0
OwnsInside t user d = (g : ℕ) → lives t g ≡ true → owners t g ≡ user → inside (parents t) d g ≡ true

-- a process that stands somewhere before the call and after it is on the same side of d's edge
abbrev pub NoneAcross : ℕ → Tree → Tree → Type 0
NoneAcross d t u = (p g h : ℕ) → places t p ≡ at g → places u p ≡ at h → inside (parents t) d g ≡ inside (parents t) d h

-- an accepted hand over to the user of a group that lies outside d
pub record GivesOutside (user d : ℕ) (t : Tree) (c : Call) : Type 0 where
  pub giver : ℕ
  pub group : ℕ
  pub call : c ≡ Call.hand_over giver group user
  pub accepted : Accepted t c
  pub outside : inside (parents t) d group ≡ false

-- Of one call. Where nobody is named no process moves at all.
pub record Contained (t : Tree) : Type 0 where
  pub across : (user d : ℕ) (c : Call) → user ≢ 0 → OwnsInside t user d → caller c ≡ Some user → NoneAcross d t (step t c)
  pub nobody : (c : Call) → caller c ≡ None → (p g h : ℕ) → places t p ≡ at g → places (step t c) p ≡ at h → g ≡ h

-- Every call of anybody leaves the user's groups inside d, but for the one kind, which does not.
pub record OneKind (t : Tree) : Type 0 where
  pub stays : (user d : ℕ) (c : Call) → user ≢ 0 → OwnsInside t user d → (GivesOutside user d t c → ⊥) → OwnsInside (step t c) user d
  pub ends : (user d : ℕ) (c : Call) → GivesOutside user d t c → OwnsInside (step t c) user d → ⊥

-- Of every list without such a hand over, whoever makes its calls: the user's groups stay inside, and no process crosses the
-- edge by his hand.
pub record ContainedOver (t : Tree) (user d : ℕ) (cs : List Call) : Type 0 where
  pub owns : OwnsInside (run t cs) user d
  pub across : Each (λ s c. caller c ≡ Some user → NoneAcross d s (step s c)) t cs

abbrev pub NeverAcross : Tree → Type 0
NeverAcross t =
    (user d : ℕ) (cs : List Call) → user ≢ 0 → OwnsInside t user d → Never (GivesOutside user d) t cs → ContainedOver t user d cs
