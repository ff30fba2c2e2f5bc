-- The cases marked P hold, by computation. Assumes nothing.
use mathlib.Core.Bool.{Bool, true}
use mathlib.Core.List.{List, [], ◌∷◌}
use mathlib.Core.Path.{◌≡◌, refl}
use Rattle.model.specs.Functions.{upd, weigh, sum, any, member}
use Rattle.model.specs.Checks.{first}
use Rattle.model.specs.Hierarchy.{climb, chain, inside, first_common, common_ancestor, held, usage, population}
use Rattle.model.specs.Zombies.{on_path_in}
use Rattle.model.specs.Text.{same_bytes, joined, body, leading_word, starts_in, words, digits_from, one_word, number_word, digits, decimal, spaced}
use Rattle.model.specs.Names.{named}
use Rattle.model.specs.Control.{is_control_word, asked_by, asked_from, first_bad, bad_rest, any_in}
use Rattle.model.specs.Figures.{limit_word}
use Rattle.model.specs.Devices.{limits_at, with_device}
use Rattle.model.specs.DeviceLines.{before, after, pairs_from, pair_texts}
use Rattle.model.specs.Settings.{value_of, in_range, assign, has_room, shown, value_text, reset}
use Rattle.model.specs.Rooms.{acting_limit, consult}
use Rattle.model.specs.Rules.{has_child, has_process, held_by_child}
use Rattle.model.specs.Files.{process_lines, names_of, name_line, contents, path, membership_line}
use Rattle.model.specs.Calls.{charge_checks, fork_checks, setting_checks, checks, verdict}
use Rattle.model.specs.Effects.{effect, step, fresh, run}
use Rattle.model.specs.Replies.{charge_answer, fork_answer, reply, reply_by}
use Rattle.model.specs.Book.{enter, book_step, fed, fresh_book}
use Rattle.model.specs.Totals.{total}
use Rattle.model.specs.Worked.{Evening, holds, all_hold, table, limits_and_charges, all_booked, marks, rewriting, rewritten, totals}
use Rattle.model.proofs.EveningLaws.{holds_by, all_hold_by, all-hold-by, first_holds, all_booked_by, all-booked-by, totals-by}

-- `all_hold` with everything open that an exchange computes with: whoever unfolds it unfolds the whole line
unfoldable pub computed : List Evening → Bool
unfolding upd weigh sum any member first climb chain inside first_common common_ancestor held usage population on_path_in same_bytes joined body leading_word starts_in words digits_from number_word digits decimal spaced named is_control_word asked_by asked_from first_bad bad_rest any_in limit_word value_of in_range assign has_room shown value_text limits_at with_device before after pairs_from pair_texts reset acting_limit consult has_child has_process held_by_child one_word process_lines names_of name_line contents path membership_line charge_checks fork_checks setting_checks checks verdict effect step fresh run charge_answer fork_answer reply reply_by holds all_hold holds_by all_hold_by
computed es = all_hold es

pub all_hold_lem : all_hold table ≡ true
unfolding computed table
all_hold_lem = all-hold-by table refl

-- the replies of its first evening, and of the one that writes anew
limits-hold : holds (fresh limits_and_charges.machine) limits_and_charges.exchanges ≡ true
unfolding table
limits-hold = first_holds limits_and_charges _ all_hold_lem

pub rewriting-holds : all_hold (rewriting ∷ []) ≡ true
unfolding computed
rewriting-holds = all-hold-by (rewriting ∷ []) refl

-- the book's marks: 6 after P3, where the limit is 5 and the usage 6
pub marks-hold : all_booked limits_and_charges marks ≡ true
unfolding computed enter book_step fed fresh_book all_booked_by marks
marks-hold = all-booked-by limits_and_charges marks limits-hold refl

pub rewritten-hold : all_booked rewriting rewritten ≡ true
unfolding computed enter book_step fed fresh_book all_booked_by rewritten
rewritten-hold = all-booked-by rewriting rewritten (first_holds rewriting [] rewriting-holds) refl

pub totals-before-release : totals limits_and_charges 17 ≡ 8 ∷ 2 ∷ 1 ∷ 1 ∷ []
unfolding computed total
totals-before-release = totals-by limits_and_charges limits-hold 17

pub totals-at-the-end : totals limits_and_charges 20 ≡ 8 ∷ 8 ∷ 1 ∷ 1 ∷ []
unfolding computed total
totals-at-the-end = totals-by limits_and_charges limits-hold 20
