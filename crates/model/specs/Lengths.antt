-- How long two replies can get: order 4, "the longest cgroup.procs reply becomes 4,013 bytes", and what its sizes and order 5's
-- " (deleted)" make of the membership line. Assumes nothing.
use Rattle.std.specs.Prelude.{ℕ, zero, suc, ◌-◌, ◌≤◌, true, List, [], ◌∷◌, ◌≢◌, ◌≡◌, length}
use Rattle.model.specs.Sizes.{processes, longest_listing, longest_live_membership, longest_membership}
use Rattle.model.specs.Tree.{Tree, is_live, places}
use Rattle.model.specs.Hierarchy.{facts_of}
use Rattle.model.specs.Zombies.{process_taken}
use Rattle.model.specs.Names.{file_name}
use Rattle.model.specs.Files.{contents, membership_line}
use Rattle.model.specs.Calls.{Call, admit, read, membership}
use Rattle.model.specs.Effects.{fresh, run}
use Rattle.model.specs.Replies.{reply}
use Rattle.model.specs.declared.File.TheVariants.{Procs}

-- neither is longer, and a buffer of that length is never too short
pub record Lengths (t : Tree) : Type 0 where
  pub listing : (g : ℕ) → length (contents (facts_of t) g Procs) ≤ longest_listing
  pub listing_fits : (g : ℕ) (buffer : List ℕ) → longest_listing ≤ length buffer → (reply t (read g (file_name Procs) buffer)).number ≢ 28
  pub line : (p : ℕ) → process_taken t p ≡ true → length (membership_line t p) ≤ longest_membership
  pub live_line : (p : ℕ) → is_live (places t p) ≡ true → length (membership_line t p) ≤ longest_live_membership
  pub line_fits : (p : ℕ) (buffer : List ℕ) → longest_membership ≤ length buffer → (reply t (membership p buffer)).number ≢ 28

-- n processes admitted, from p on
unfoldable pub admissions : ℕ → ℕ → ℕ → List Call
admissions user p zero = []
admissions user p (suc n) = admit p user ∷ admissions user (suc p) n

-- "the longest": where every process was admitted, the root shows as much. That a membership line is as long is a case of ZombieEvenings.antt.
abbrev pub ListingReached : Type 0
ListingReached =
    (m user : ℕ) → length (contents (facts_of (run (fresh m) (admissions user 1 (processes - 1)))) 0 Procs) ≡ longest_listing
