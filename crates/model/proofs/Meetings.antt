-- The cases of specs/Meetings.antt hold, by computation. Assumes nothing.
use mathlib.Core.Bool.{true}
use mathlib.Core.Path.{◌≡◌, refl}
use Rattle.model.specs.CommonAncestor.{walk}
use Rattle.model.specs.Meetings.{all_found, ways, searches, delegated, delegated_searches}
use Rattle.model.proofs.Worked.{computed}

pub searches-hold : all_found ways searches ≡ true
unfolding computed walk all_found ways searches
searches-hold = refl

pub delegated-searches-hold : all_found delegated delegated_searches ≡ true
unfolding computed walk all_found delegated delegated_searches
delegated-searches-hold = refl
