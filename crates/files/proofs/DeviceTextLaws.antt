-- Laws of the text of io.max: the lines of the slots in use, one after another, are the file. Assumes nothing.
use Prim.Native.Nat.{ℕ, ◌+◌, ◌≤◌, ◌<◌}
use native.Mathlib.Numerals.{add-one}
use native.Mathlib.Omega.{arith}
use mathlib.Core.List.{List, [], ◌∷◌, ◌++◌, append_assoc, append-nil, map}
use mathlib.Core.Logic.{◌≢◌}
use mathlib.Core.Path.{◌≡◌, ap, sym, ◌∙◌}
use lib.ListN.{length, length-append, drop, drop_of_length-le, get_or}
use lib.Seq.{drop-cons}
use borrow.Author.Tests.{eq-eqb, ne_eqb}
use Rattle.model.specs.Text.{ended, joined}
use Rattle.model.specs.Devices.{DeviceLimits}
use Rattle.model.specs.Settings.{shown_device, shown, value_text}
use Rattle.model.specs.Files.{contents}
use Rattle.model.specs.declared.Setting.TheVariants.{IoMax}
use Rattle.model.specs.declared.File.TheVariants.{Value}
use Rattle.devices.specs.Slots.{table_of}
use Rattle.devices.specs.declared.slot.Slot.{Slot}
use Rattle.tree.specs.Changes.{Slotted}
use Rattle.files.specs.Texts.{slot_text, file_contents}

abbrev lines_of : List DeviceLimits → List ℕ
lines_of ds = joined (map ended (map value_text (map shown_device ds)))

-- The text after the first i: the lines of the slots that are left make it the whole.
pub record Lines (s : List Slot) (i : ℕ) (out whole : List ℕ) : Type 0 where
  pub text : out ++ lines_of (table_of (drop i s)) ≡ whole

pub lines-none : {xs : List ℕ} {g : ℕ} {s : List Slot} {out : List ℕ} → Slotted xs g s → out ≡ [] → Lines s 0 out (file_contents xs g (Value IoMax))
unfolding file_contents contents shown
lines-none h e = record { text = rw e (ap lines_of h.table) }

pub lines-all : {s : List Slot} {i : ℕ} {out whole : List ℕ} → Lines s i out whole → length s ≤ i → out ≡ whole
unfolding table_of joined
lines-all {s} {i} {out} p l = sym (append-nil out) ∙ (rw (drop_of_length-le s {i = i} l) at p.text)

module _ {s : List Slot} {i : ℕ} {out whole : List ℕ} (p : Lines s i out whole) (l : i < length s) (d : Slot) where
  abbrev x : Slot
  x = get_or s i d

  here : drop i s ≡ x ∷ drop (i + 1) s
  here = rw add-one (drop-cons s i d l)

  -- the first free slot ends it
  pub lines-end : x.device ≡ 0 → out ≡ whole
  unfolding table_of joined
  lines-end z = sym (append-nil out) ∙ (rw (here, eq-eqb x.device 0 z) at p.text)

  module _ (nz : x.device ≢ 0) where
    lines-here : out ++ (slot_text x ++ lines_of (table_of (drop (i + 1) s))) ≡ whole
    unfolding table_of joined
    lines-here = rw (here, ne_eqb x.device 0 nz) at p.text

    pub lines-next : {new : List ℕ} → new ≡ out ++ slot_text x → Lines s (i + 1) new whole
    lines-next e = record { text = rw e (append_assoc out (slot_text x) (lines_of (table_of (drop (i + 1) s))) ∙ lines-here) }

    pub lines-room : length out + length (slot_text x) ≤ length whole
    lines-room =
        omega (
          arith,
          ap length lines-here,
          length-append out (slot_text x ++ lines_of (table_of (drop (i + 1) s))),
          length-append (slot_text x) (lines_of (table_of (drop (i + 1) s))),
        )
