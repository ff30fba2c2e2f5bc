-- Nothing is lost: what accepted calls brought into the tree and took out of it, summed over a list of calls. Demand 3, "every
-- group's pages equal those charged less those released .. Processes add up likewise", of the root. Assumes nothing.
use Rattle.std.specs.Prelude.{ℕ, ◌+◌, List, [], ◌∷◌, ◌≡◌, eqb}
use Rattle.model.specs.Functions.{weigh, sum}
use Rattle.model.specs.Sizes.{processes}
use Rattle.model.specs.Tree.{Tree, cores, places, zombies}
use Rattle.model.specs.Hierarchy.{headcount, amount}
use Rattle.model.specs.Calls.{Call}
use Rattle.model.specs.Book.{Entry}
use Rattle.model.specs.declared.Resource.{Resource}
use Rattle.model.specs.declared.Resource.TheVariants.{Pages, Processes}

-- what an accepted call brings into the tree or takes out of it: pages charged and released, births and exits; order 5: a zombie
pub data Flow : Type 0 where
  none : Flow
  into : Resource → ℕ → Flow
  out : Resource → ℕ → Flow
  collected : Flow

abbrev pub flow : Call → Flow
flow (Call.make user parent new) = none
flow (Call.remove user g) = none
flow (Call.hand_over user g owner) = none
flow (Call.write_procs user g line) = none
flow (Call.write_control user g line) = none
flow (Call.write_setting user g file line) = none
flow (Call.admit p user) = into Processes 1
flow (Call.fork p new) = into Processes 1
flow (Call.exit p) = out Processes 1
flow (Call.collect p) = collected
flow (Call.charge p n) = into Pages n
flow (Call.release g n) = out Pages n
flow (Call.read g file buffer) = none
flow (Call.membership p buffer) = none

-- n where the two are one resource
abbrev pub of_resource : Resource → Resource → ℕ → ℕ
of_resource Pages Pages n = n
of_resource Pages Processes n = 0
of_resource Processes Pages n = 0
of_resource Processes Processes n = n

abbrev pub brought : Resource → Flow → ℕ
brought r none = 0
brought r (into s n) = of_resource r s n
brought r (out s n) = 0
brought r collected = 0

abbrev pub taken : Resource → Flow → ℕ
taken r none = 0
taken r (into s n) = 0
taken r (out s n) = of_resource r s n
taken r collected = 0

abbrev pub freed : Flow → ℕ
freed none = 0
freed (into s n) = 0
freed (out s n) = 0
freed collected = 1

-- the sum over the accepted calls
unfoldable pub total : (Flow → ℕ) → List Entry → ℕ
total f [] = 0
total f (e ∷ es) = weigh (eqb e.number 0) (f (flow e.call)) + total f es

-- what the root held and what was brought is what it holds and what was taken
abbrev pub Balanced : Tree → List Entry → Tree → Type 0
Balanced t es u =
    (r : Resource)
    → amount (cores t) (places t) r 0 + total (brought r) es ≡ amount (cores u) (places u) r 0 + total (taken r) es

-- Order 5: as many ended as were collected or are zombies. An exit is what takes a live process out.
unfoldable pub zombie_count : Tree → ℕ
zombie_count t = sum processes (λ p. headcount (zombies t p))

abbrev pub EndedOnce : Tree → List Entry → Tree → Type 0
EndedOnce t es u = zombie_count t + total (taken Processes) es ≡ zombie_count u + total freed es
