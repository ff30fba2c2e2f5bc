-- Laws of control lines: what the words that are left ask, and the first bad word. Assumes nothing.
use Prim.Native.Nat.{ℕ, ◌+◌, ◌-◌, ◌≤◌}
use mathlib.Core.Bool.{Bool, true, false}
use mathlib.Core.List.{List, [], ◌∷◌, ◌++◌}
use mathlib.Core.Path.{◌≡◌, refl, ap, sym, ◌∙◌}
use native.Mathlib.Omega.{arith}
use lib.ListN.{length, length-append}
use borrow.Author.Tests.{eq-eqb}
use Rattle.model.specs.Text.{same_bytes, leading_word, starts}
use Rattle.model.specs.Names.{controller_name}
use Rattle.model.specs.Control.{Ask, keep, enable, disable, at_controller, is_control_word, asked_by, or_before, asked_from, first_bad}
use Rattle.model.specs.declared.Controller.{Controller}
use Rattle.model.specs.declared.Controller.TheVariants.{Cpu, Io, Memory, Pids}
use Rattle.model.specs.declared.PerController.{PerController}
use Rattle.lines.specs.declared.control.Wish.{Wish}
use Rattle.lines.specs.declared.control.Wish.TheVariants.{Keep}
use Rattle.text.specs.Line.{FirstWord}
use Rattle.lines.specs.Control.{ask_of, BadSpan}

-- ---- one word, by its sign s and the name after it, where n is the controller's

module _ (c : Controller) (word : List ℕ) (s : ℕ) (name n : List ℕ) (w : word ≡ s ∷ name) (is : n ≡ controller_name c) (a : Ask) where
  names : (t : Bool) → t ≡ same_bytes name n → same_bytes name (controller_name c) ≡ t
  names t e = ap (same_bytes name) (sym is) ∙ sym e

  pub asked-other : false ≡ same_bytes name n → a ≡ or_before a (asked_by c word)
  unfolding asked_by
  asked-other e = rw (w, names false e) refl

  module _ (e : true ≡ same_bytes name n) where
    pub asked-plus : s ≡ 43 → enable ≡ or_before a (asked_by c word)
    unfolding asked_by
    asked-plus p = rw (w, names true e, eq-eqb s 43 p) refl

    pub asked-minus : s ≡ 45 → disable ≡ or_before a (asked_by c word)
    unfolding asked_by
    asked-minus p = rw (w, names true e, p) refl

-- ---- the words ws that are left, after which a is asked, where all the words ask r

module _ (a r : Ask) (c : Controller) (ws : List (List ℕ)) (inv : asked_from a c ws ≡ r) where
  pub asked-none : ws ≡ [] → a ≡ r
  unfolding asked_from
  asked-none e = rw e at inv

  pub asked-more : (b : Ask) (w : List ℕ) (vs : List (List ℕ)) → ws ≡ w ∷ vs → b ≡ or_before a (asked_by c w)
      → asked_from b c vs ≡ r
  unfolding asked_from
  asked-more b w vs e f = rw f (rw e at inv)

-- ---- each controller's wish, before all words and after one more

none-is-kept : (w : Wish) → w ≡ Keep → ask_of w ≡ keep
none-is-kept w e = ap ask_of e

pub none-asked : (v : PerController Wish) → v.cpu ≡ Keep → v.io ≡ Keep → v.memory ≡ Keep → v.pids ≡ Keep
    → (c : Controller) → ask_of (at_controller v c) ≡ keep
none-asked v e f g h Cpu = none-is-kept _ e
none-asked v e f g h Io = none-is-kept _ f
none-asked v e f g h Memory = none-is-kept _ g
none-asked v e f g h Pids = none-is-kept _ h

module _ (v u : PerController Wish) (w : List ℕ) where
  abbrev After : Controller → Type 0
  After c = ask_of (at_controller u c) ≡ or_before (ask_of (at_controller v c)) (asked_by c w)

  pub each-asked : After Cpu → After Io → After Memory → After Pids → (c : Controller) → After c
  each-asked e f g h Cpu = e
  each-asked e f g h Io = f
  each-asked e f g h Memory = g
  each-asked e f g h Pids = h

-- ---- the first bad word, where w is the first word of what is left, and r what follows it

module _ (l w r : List ℕ) (f : FirstWord l w r) where
  pub bad-later : is_control_word w ≡ true → first_bad (starts r) ≡ first_bad (starts l)
  unfolding first_bad
  bad-later g = rw (f.starts, f.word, g)

  pub bad-here : is_control_word w ≡ false → first_bad (starts l) ≡ w ++ r
  unfolding first_bad
  bad-here g = rw (f.starts, f.word, g)

  pub shorter : length w + length r ≤ length l
  shorter = omega (arith, f.long, length-append w r)

  pub bad-span-here : (text : List ℕ) → first_bad (starts text) ≡ w ++ r → (n : ℕ) → n + length r ≡ length text
      → length w ≤ n → BadSpan text (record { start = n - length w; end = n })
  bad-span-here text b n e h =
      record {
        order = omega arith;
        bound = omega arith;
        left = rw b (omega (arith, length-append w r));
        size = rw (b, f.word) (omega arith);
      }

pub bad-span-none : (text : List ℕ) → first_bad (starts text) ≡ [] → BadSpan text (record { start = length text; end = length text })
unfolding leading_word
bad-span-none text b =
    record { order = omega arith; bound = omega arith; left = rw b (omega arith); size = rw b (omega arith) }

pub bad-none : (l : List ℕ) → starts l ≡ [] → first_bad (starts l) ≡ []
unfolding first_bad
bad-none l e = rw e
