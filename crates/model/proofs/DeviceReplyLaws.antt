-- What specs/DeviceReplies.antt says holds. 28: no other check of a setting has it, and no other setting's value wants room. The text:
-- a table that ascends from d on gives the lines of the devices from d on, whatever else the limits before d are. Assumes nothing.
use Rattle.std.specs.Prelude.{Option, Some, None, Ok, Err}
use Prim.Native.Nat.{ℕ, zero, suc, ◌+◌, ◌*◌, ◌≤◌, ◌<◌}
use native.Mathlib.Omega.{arith}
use mathlib.Core.Bool.{true, false}
use mathlib.Core.List.{List, [], ◌∷◌, ◌++◌, map, append_assoc}
use mathlib.Core.Logic.{◌≢◌}
use mathlib.Core.Path.{◌≡◌, refl, ap, ap₂, sym, ◌∙◌, fun_ext}
use lib.Dec.{ltb}
use lib.ListN.{length}
use borrow.Author.Tests.{le-leb, ltb-true}
use Rattle.model.specs.Functions.{known, passes, All}
use Rattle.model.specs.Sizes.{device_numbers, most_devices}
use Rattle.model.specs.Checks.{errno_number, answer_number, Check, first, Pass, Answer}
use Rattle.model.specs.Devices.{major_of, minor_of, all_max, DeviceLimits, limits_at, Ascending, Table}
use Rattle.model.specs.Tree.{Tree, Settings, lives, settings_at}
use Rattle.model.specs.Hierarchy.{on, facts_of}
use Rattle.model.specs.Text.{bytes, ended, joined, decimal, spaced}
use Rattle.model.specs.Names.{setting_name, setting_named, settings}
use Rattle.model.specs.Figures.{limit_text}
use Rattle.model.specs.DeviceLines.{device_in, pair_texts}
use Rattle.model.specs.Settings.{in_range, assign, has_room, shown_device, shown, value_text, Allowed}
use Rattle.model.specs.Files.{contents, fits}
use Rattle.model.specs.Calls.{setting_value, line_value, setting_checks, device_check, checks, write_setting, read, verdict}
use Rattle.model.specs.Replies.{reply, text_reply}
use Rattle.model.specs.WellFormed.{WellFormed}
use Rattle.model.specs.DeviceBook.{Rates, account_of}
use Rattle.model.specs.DeviceReplies.{FifthWrite, DeviceRefusal, plain_line, device_lines_from, io_max_text, DeviceReading}
use Rattle.model.specs.declared.Limit.TheVariants.{NoLimit}
use Rattle.model.specs.declared.Key.{Key}
use Rattle.model.specs.declared.Key.TheVariants.{Rbps, Wbps, Riops, Wiops}
use Rattle.model.specs.declared.Controller.TheVariants.{Io}
use Rattle.model.specs.declared.Setting.{Setting}
use Rattle.model.specs.declared.Setting.TheVariants.{IoMax}
use Rattle.model.specs.declared.SettingValue.{SettingValue}
use Rattle.model.specs.declared.SettingValue.TheVariants.{Weight, Quota, Bandwidth, Device, Maximum}
use Rattle.model.specs.declared.File.TheVariants.{Value}
use Rattle.model.proofs.FunctionLaws.{split, whether, clash, and_left, all_map, all-of-images}
use Rattle.model.proofs.CheckLaws.{first-pass, and_then, first-append, Errnos, first-errno}
use Rattle.model.proofs.NameLaws.{named-name}
use Rattle.model.proofs.SettingLaws.{setting_of, setting_of-value_of}
use Rattle.model.proofs.DeviceLaws.{ascending-from}
use Rattle.model.proofs.DeviceRuleLaws.{none-all-max, at_first, at-later, at_before, device-rules}
use Rattle.model.proofs.FileReads.{file-read}
use Rattle.model.proofs.Books.{reply-number}

-- When a write answers 28.
-- the setting whose value was read
named-by-value : (o : Option Setting) (line : List ℕ) (v : SettingValue) → setting_value o line ≡ Some v → o ≡ Some (setting_of v)
named-by-value None line v e = let z : ◌≡◌ {A = ℕ} 0 1 = cc in absurd (omega arith)
named-by-value (Some s) line v e = ap Some (sym (setting_of-value_of s _ v e))

module _ (t : Tree) (well : WellFormed t) (user g : ℕ) (file line : List ℕ) where
  abbrev others : List Check
  others = setting_checks t user g file line

  abbrev last : List Check
  last = device_check t g file line

  number-of-write : (reply t (write_setting user g file line)).number ≡ answer_number (and_then (first others) (first last))
  unfolding verdict checks
  number-of-write = reply-number t (write_setting user g file line) ∙ ap answer_number (first-append others last)

  table-of-write : first others ≡ Ok tt → Table (settings_at t g).io
  unfolding setting_checks Pass
  table-of-write d = let k : Pass others = first-pass others d in (well.ranges.within g (search)).table

  module _ (d : first others ≡ Ok tt) where
    abbrev st : Settings
    st = settings_at t g

    -- a value that leaves the devices alone finds room
    roomy : {A : Type 0} (v : SettingValue) → (assign v st).io ≡ st.io → has_room st v ≡ false → A
    unfolding has_room
    roomy v e r = clash (has_room st v) (rw e (le-leb (length st.io) most_devices (table-of-write d).few)) r

    fifth-of-value : (v : SettingValue) → line_value file line ≡ Some v → has_room st v ≡ false → FifthWrite t user g file line
    unfolding assign
    fifth-of-value (Weight n) e r = roomy (Weight n) refl r
    fifth-of-value (Quota q) e r = roomy (Quota q) refl r
    fifth-of-value (Bandwidth q p) e r = roomy (Bandwidth q p) refl r
    fifth-of-value (Device a b p) e r =
        record {
          major = a;
          minor = b;
          pairs = p;
          name = named-name setting_name file settings IoMax (named-by-value (setting_named file) line (Device a b p) e);
          value = e;
          others = d;
          fifth = device-rules.fifth st a b p (table-of-write d) r;
        }
    fifth-of-value (Maximum x l) e r = roomy (Maximum x l) refl r

    fifth-of-refusal : (o : Option SettingValue) → line_value file line ≡ o → passes o (has_room st) ≡ false → FifthWrite t user g file line
    unfolding setting_checks Pass
    fifth-of-refusal None e r =
        let k : Pass others = first-pass others d in
        let form : known (line_value file line) ≡ true = (search) in
        clash false (ap known (sym e) ∙ form) refl
    fifth-of-refusal (Some v) e r = fifth-of-value v e r

  last_done : passes (line_value file line) (has_room (settings_at t g)) ≡ true → first last ≡ Ok tt
  unfolding first
  last_done y = rw y

  only-fifth : (reply t (write_setting user g file line)).number ≡ 28 → FifthWrite t user g file line
  unfolding setting_checks Errnos
  only-fifth n = go (first others) refl
    where
      answered : (a : Answer) → first others ≡ a → answer_number (and_then a (first last)) ≡ 28
      answered a e = ap (λ x. answer_number (and_then x (first last))) (sym e) ∙ sym number-of-write ∙ n

      go : (a : Answer) → first others ≡ a → FifthWrite t user g file line
      go (Ok tt) e =
          split (passes (line_value file line) (has_room (settings_at t g)))
          (λ y. absurd (omega (arith, answered (Ok tt) e, ap answer_number (last_done y))))
          (λ y. fifth-of-refusal e (line_value file line) refl y)
      go (Err x) e = absurd (first-errno (λ y. errno_number y ≢ 28) others (omega arith) x e (answered (Err x) e))

  always-fifth : FifthWrite t user g file line → (reply t (write_setting user g file line)).number ≡ 28
  unfolding first
  always-fifth f =
      number-of-write
      ∙ rw (f.others, f.value, device-rules.refused (settings_at t g) f.major f.minor f.pairs (table-of-write f.others) f.fifth)

pub device-refusal : (t : Tree) → WellFormed t → DeviceRefusal t
device-refusal t w = record { only = only-fifth t w; always = always-fifth t w }

-- What a reader sees.
-- the line that a device is shown in: the words of DeviceLines, each with what stands before it
line-of-parts : (major s minor t a u b v c w d end : List ℕ)
    → ((major ++ (s ++ minor)) ++ ((t ++ a) ++ ((u ++ b) ++ ((v ++ c) ++ (w ++ d))))) ++ end
    ≡ major ++ s ++ minor ++ t ++ a ++ u ++ b ++ v ++ c ++ w ++ d ++ end
line-of-parts major s minor t a u b v c w d end = simp append_assoc

line-of-device : (x : DeviceLimits) → ended (value_text (shown_device x)) ≡ plain_line x.device x.limit
unfolding value_text spaced pair_texts plain_line
line-of-device x =
    line-of-parts (decimal (major_of x.device)) (bytes ":") (decimal (minor_of x.device))
    (bytes " rbps=") (limit_text (x.limit Rbps)) (bytes " wbps=") (limit_text (x.limit Wbps))
    (bytes " riops=") (limit_text (x.limit Riops)) (bytes " wiops=") (limit_text (x.limit Wiops)) (bytes "\n")

-- no line for a device without a limit, and the line of one that has any
module _ (r : Rates) (d n : ℕ) where
  lines-skip : ((k : Key) → r d k ≡ NoLimit) → device_lines_from r (suc d) n ≡ device_lines_from r d (suc n)
  unfolding device_lines_from
  lines-skip h = rw (none-all-max (r d) h)

  lines-take : all_max (r d) ≡ false → plain_line d (r d) ++ device_lines_from r (suc d) n ≡ device_lines_from r d (suc n)
  unfolding device_lines_from
  lines-take h = rw h

-- limits that are a table's, from d on
module _ (r : Rates) (end : ℕ) where
  lines-of-table : (n d : ℕ) (xs : List DeviceLimits) → ((e : ℕ) → d ≤ e → (k : Key) → r e k ≡ limits_at e xs k) → d + n ≡ end
      → Ascending d xs → All (λ x. all_max x.limit ≡ false) xs → All (λ x. x.device < end) xs
      → joined (map ended (map value_text (map shown_device xs))) ≡ device_lines_from r d n
  unfolding Ascending All joined device_lines_from
  lines-of-table zero d [] h q a p b = refl
  lines-of-table zero d (x ∷ xs) h q a p b = absurd (omega (arith, a.0, b.0))
  lines-of-table (suc n) d [] h q a p b =
      lines-of-table n (suc d) [] (λ e l. h e (omega arith)) (omega arith) tt tt tt
      ∙ lines-skip r d n (λ k. h d (omega arith) k ∙ at_before d [] tt k)
  lines-of-table (suc n) d (x ∷ xs) h q a p b =
      whether x.device d
      (λ z.
      let l : r d ≡ x.limit = fun_ext (λ k. h d (omega arith) k ∙ at_first d x xs k z) in
      ap₂ (λ (u v : List ℕ). u ++ v)
      (line-of-device x ∙ ap₂ plain_line z (sym l))
      (lines-of-table n (suc d) xs (λ e m k. h e (omega arith) k ∙ at-later e x xs k (λ y. omega arith)) (omega arith)
      (ascending-from (suc d) (suc x.device) xs (omega arith) a.1) p.1 b.1)
      ∙ lines-take r d n (ap all_max l ∙ p.0))
      (λ ne.
      let u : Ascending (suc d) (x ∷ xs) = (omega (arith, a.0), a.1) in
      lines-of-table n (suc d) (x ∷ xs) (λ e m. h e (omega arith)) (omega arith) u p b
      ∙ lines-skip r d n (λ k. h d (omega arith) k ∙ at_before d (x ∷ xs) u k))

-- a device that is shown in range is one of those that are gone over
device-below : (x : DeviceLimits) → in_range (shown_device x) ≡ true → x.device < device_numbers * device_numbers
unfolding in_range
device-below x e =
    let a : ℕ = major_of x.device in
    let b : ℕ = minor_of x.device in
    let h : a < device_numbers = ltb-true a device_numbers (and_left (ltb a device_numbers) (ltb b device_numbers) (and_left (device_in a b) _ e)) in
    omega arith

module _ (t : Tree) (well : WellFormed t) (g : ℕ) (live : lives t g ≡ true) where
  text-of-devices : contents (facts_of t) g (Value IoMax) ≡ io_max_text (account_of t g)
  unfolding contents shown
  text-of-devices =
      let k : Allowed (settings_at t g) = well.ranges.within g live in
      let xs : List DeviceLimits = (t.group g).io in
      lines-of-table (account_of t g) (device_numbers * device_numbers) (device_numbers * device_numbers) 0 xs (λ e _ j. refl) refl
      k.table.ascending k.table.limited
      (all_map _ _ xs device-below (all-of-images (λ v. in_range v ≡ true) shown_device xs (k.values IoMax)))

  read-of-devices : (buffer : List ℕ) → on t Io g ≡ true → fits (io_max_text (account_of t g)) buffer ≡ true
      → reply t (read g (bytes "io.max") buffer) ≡ text_reply (Ok tt) (io_max_text (account_of t g)) buffer
  read-of-devices buffer o f =
      file-read t well (Value IoMax) g buffer live o (rw text-of-devices f)
      ∙ ap (λ (x : List ℕ). text_reply (Ok tt) x buffer) text-of-devices

pub device-reading : (t : Tree) → WellFormed t → DeviceReading t (account_of t)
device-reading t well = record { text = text-of-devices t well; delivered = λ g buffer l. read-of-devices t well g l buffer }
