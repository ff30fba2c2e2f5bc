-- Every line that a settings file shows can be written back by whoever may write it, and changes nothing: it reads as the value shown,
-- which a well-formed tree has in range, and which is assigned where it stands. Assumes nothing.
use Rattle.std.specs.Prelude.{Some, Ok}
use Prim.Native.Nat.{ℕ, ◌*◌, ◌≤◌, ◌<◌}
use native.Mathlib.Omega.{arith}
use mathlib.Core.Bool.{true, false}
use mathlib.Core.List.{List, [], ◌∷◌, map, append-nil}
use mathlib.Core.Path.{◌≡◌, ap, sym, ◌∙◌}
use lib.ListN.{length, length-append, length-map}
use borrow.Author.Tests.{lt-leb, le-leb, le-ltb}
use Rattle.model.specs.Functions.{known, passes, All}
use Rattle.model.specs.Sizes.{groups, longest_line, longest_shown, most_devices}
use Rattle.model.specs.Checks.{Pass}
use Rattle.model.specs.Devices.{Table}
use Rattle.model.specs.Tree.{Tree, Group, Settings, lives, parents, settings_at}
use Rattle.model.specs.Hierarchy.{on, facts_of}
use Rattle.model.specs.Text.{ended, joined, lines_of, body, words, line_words, too_long}
use Rattle.model.specs.Names.{base_settings, setting_name, setting_named}
use Rattle.model.specs.Settings.{setting_controller, Allowed, in_range, assign, has_room, shown, value_text}
use Rattle.model.specs.Rules.{no_group_number, may_write}
use Rattle.model.specs.Files.{contents}
use Rattle.model.specs.Calls.{write_setting, setting_checks, checks, line_value, verdict}
use Rattle.model.specs.Effects.{effect}
use Rattle.model.specs.WellFormed.{WellFormed}
use Rattle.model.specs.Demands.{shown_by, WrittenBack, WriteBack}
use Rattle.model.specs.declared.Setting.{Setting}
use Rattle.model.specs.declared.Setting.TheVariants.{CpuWeight, CpuMax, IoMax, Max}
use Rattle.model.specs.declared.SettingValue.{SettingValue}
use Rattle.model.specs.declared.File.TheVariants.{Value}
use Rattle.model.proofs.FileReads.{file-read}
use Rattle.model.proofs.FunctionLaws.{upd-id, all_of, all_map, all_both, all-images}
use Rattle.model.proofs.CheckLaws.{pass-first}
use Rattle.model.proofs.NameLaws.{setting_named-setting_name}
use Rattle.model.proofs.TextLaws.{Unbroken, lines-of-each, joined-lines, body_ended, body-unbroken}
use Rattle.model.proofs.SettingLaws.{assign-shown}
use Rattle.model.proofs.SettingTextLaws.{ReadsBack, shown-reads-back, unbroken-value, shown-short}
use Rattle.model.proofs.Steps.{step-accepted}

-- a value that is assigned where it stands finds room
room-as-it-stands : (st : Settings) (v : SettingValue) → Table st.io → assign v st ≡ st → has_room st v ≡ true
unfolding has_room
room-as-it-stands st v h e = rw e (le-leb (length st.io) most_devices h.few)

-- what is known of a value that is shown
record Shown (s : Setting) (st : Settings) (v : SettingValue) : Type 0 where
  reads : ReadsBack s v
  ranged : in_range v ≡ true
  short : length (value_text v) < longest_shown
  stands : assign v st ≡ st

all_shown : (s : Setting) (st : Settings) → Allowed st → All (Shown s st) (shown s st)
all_shown s st h =
    all_both _ _ (Shown s st) (shown s st) (λ v x y. record { reads = x.0; ranged = x.1; short = y.0; stands = y.1 })
    (all_both _ _ (λ v. ReadsBack s v × (in_range v ≡ true)) (shown s st) (λ v x y. (x, y)) (shown-reads-back s st) (h.values s))
    (all_both _ _ (λ v. (length (value_text v) < longest_shown) × (assign v st ≡ st)) (shown s st) (λ v x y. (x, y))
    (shown-short s st (h.values s)) (assign-shown s st h.table))

-- a line of which that is the value
module _ (t : Tree) (well : WellFormed t) (user g : ℕ) (s : Setting) (live : lives t g ≡ true)
    (present : on t (setting_controller s) g ≡ true) (may : may_write t user (parents t g) ≡ true)
    (v : SettingValue) (line : List ℕ) (k : Shown s (settings_at t g) v) (same : line_words line ≡ words (value_text v))
    (short : length line ≤ longest_line) where
  value-back : line_value (setting_name s) line ≡ Some v
  value-back = rw (setting_named-setting_name, same) k.reads

  present-back : passes (setting_named (setting_name s)) (λ x. on t (setting_controller x) g) ≡ true
  present-back = rw setting_named-setting_name present

  accepted-back : verdict t (write_setting user g (setting_name s) line) ≡ Ok tt
  unfolding verdict checks setting_checks Pass
  accepted-back =
      let number : no_group_number g ≡ false = lt-leb groups g (well.sound.range g live) in
      let name : known (setting_named (setting_name s)) ≡ true = rw setting_named-setting_name in
      let size : too_long line ≡ false = le-ltb longest_line (length line) short in
      let form : known (line_value (setting_name s) line) ≡ true = rw value-back in
      let range : passes (line_value (setting_name s) line) in_range ≡ true = rw value-back k.ranged in
      let room : passes (line_value (setting_name s) line) (has_room (settings_at t g)) ≡ true =
      rw value-back (room-as-it-stands (settings_at t g) v (well.ranges.within g live).table k.stands) in
      pass-first (checks (facts_of t) (write_setting user g (setting_name s) line)) (search present-back depth 12)

  written_back : WrittenBack t user g s line
  unfolding effect
  written_back =
      record {
        accepted = accepted-back;
        same =
            step-accepted t (write_setting user g (setting_name s) line) accepted-back
            ∙ rw (value-back, k.stands)
            (ap (λ (f : ℕ → Group). record { machine = t.machine; group = f; process = t.process; past = t.past }) (upd-id t.group g));
      }

-- The lines of a file.
module _ (t : Tree) (g : ℕ) (s : Setting) where
  abbrev values : List SettingValue
  values = shown s (settings_at t g)

  lines-shown : lines_of (shown_by t g s) ≡ map ended (map value_text values)
  unfolding contents
  lines-shown = lines-of-each (map value_text values) (all-images Unbroken value_text values (all_of _ unbroken-value values))

  -- what holds of the line of every value holds of every line
  all_lines : (P : List ℕ → Type 0) → All (λ v. P (ended (value_text v))) values → All P (lines_of (shown_by t g s))
  all_lines P h = rw lines-shown (all-images P ended (map value_text values) (all-images (λ w. P (ended w)) value_text values h))

one_line : (v : SettingValue) → lines_of (joined (ended (value_text v) ∷ [])) ≡ joined (ended (value_text v) ∷ []) ∷ []
unfolding All joined
one_line v = lines-of-each (value_text v ∷ []) (unbroken-value v, tt) ∙ ap (λ (l : List ℕ). l ∷ []) (sym (append-nil (ended (value_text v))))

one_value : (t : Tree) (g : ℕ) → All (λ s. lines_of (shown_by t g s) ≡ shown_by t g s ∷ []) base_settings
unfolding contents shown All
one_value t g = (one_line _, (one_line _, (one_line _, (one_line _, tt))))

-- The whole text of a file: at most four lines.
length-of-lines : (vs : List SettingValue) → All (λ v. length (value_text v) < longest_shown) vs
    → length (joined (map ended (map value_text vs))) ≤ length vs * longest_shown
unfolding All joined
length-of-lines [] h = omega arith
length-of-lines (v ∷ vs) h = simp length-append (omega (arith, h.0, length-of-lines vs h.1))

length-shown : (s : Setting) (st : Settings) → Table st.io → length (shown s st) ≤ most_devices
unfolding shown
length-shown CpuWeight st t = omega arith
length-shown CpuMax st t = omega arith
length-shown IoMax st t = rw length-map t.few
length-shown (Max r) st t = omega arith

pub length-of-text : (t : Tree) → WellFormed t → (g : ℕ) (s : Setting) → lives t g ≡ true → length (shown_by t g s) ≤ most_devices * longest_shown
unfolding contents
length-of-text t well g s l =
    let st : Settings = settings_at t g in
    let k = well.ranges.within g l in
    omega (arith, length-of-lines (shown s st) (shown-short s st (k.values s)), length-shown s st k.table)

pub write-back : (t : Tree) → WellFormed t → WriteBack t
write-back t well =
    record {
      shown = λ g s buffer l o f. file-read t well (Value s) g buffer l o f;
      each = λ user g s l o m.
          all_lines t g s (λ line. WrittenBack t user g s line × WrittenBack t user g s (body line))
          (all_map _ _ (shown s (settings_at t g))
          (λ v k. (
            written_back t well user g s l o m v (ended (value_text v)) k (rw body_ended) (simp length-append (omega (arith, k.short))),
            rw body_ended
                (written_back t well user g s l o m v (value_text v) k (rw (body-unbroken (value_text v) (unbroken-value v))) (omega (arith, k.short))),
          ))
          (all_shown s (settings_at t g) (well.ranges.within g l)));
      whole = λ g s. joined-lines (shown_by t g s);
      one = one_value t;
      short = λ g s l.
          all_lines t g s (λ line. length line ≤ longest_shown)
          (all_map _ _ (shown s (settings_at t g)) (λ v k. simp length-append (omega (arith, k.short)))
          (all_shown s (settings_at t g) (well.ranges.within g l)));
    }
