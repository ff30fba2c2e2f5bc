-- What an accepted line of memory.max or pids.max leaves: what is kept and shown of a figure. Assumes nothing.
use Rattle.std.specs.Prelude.{Option, Some, None, Ok}
use Prim.Native.Nat.{ℕ}
use mathlib.Core.Bool.{true}
use mathlib.Core.List.{List, append-nil}
use mathlib.Core.Path.{◌≡◌, refl, ap, sym, ◌∙◌, subst}
use Rattle.model.specs.Functions.{known, mapped}
use Rattle.model.specs.Checks.{Pass}
use Rattle.model.specs.Tree.{Tree, Group, Settings, settings_of, settings_at}
use Rattle.model.specs.Text.{ended, joined, line_words, one_word, decimal}
use Rattle.model.specs.Figures.{limit_word, limit_text}
use Rattle.model.specs.Names.{setting_name}
use Rattle.model.specs.Settings.{value_of, to_amount, to_figure, RoundedDown, map_limit, assign, shown, value_text, shown_lines}
use Rattle.model.specs.Files.{contents}
use Rattle.model.specs.Calls.{Call, line_value, write_setting, setting_checks, checks, verdict}
use Rattle.model.specs.Effects.{written, effect, step}
use Rattle.model.specs.Lists.{Accepted}
use Rattle.model.specs.Demands.{Rounds}
use Rattle.model.specs.declared.Resource.{Resource}
use Rattle.model.specs.declared.Resource.TheVariants.{Pages, Processes}
use Rattle.model.specs.declared.Limit.{Limit}
use Rattle.model.specs.declared.Limit.TheVariants.{NoLimit, Figure}
use Rattle.model.specs.declared.Setting.TheVariants.{Max}
use Rattle.model.specs.declared.SettingValue.TheVariants.{Maximum}
use Rattle.model.proofs.FunctionLaws.{clash, upd_same}
use Rattle.model.proofs.CheckLaws.{answer-zero}
use Rattle.model.proofs.NameLaws.{setting_named-setting_name}
use Rattle.model.proofs.SettingLaws.{rounded-down}
use Rattle.model.proofs.RoomLaws.{no-figure}
use Rattle.model.proofs.Steps.{step-accepted, passed}
use Rattle.model.proofs.Books.{reply-number}

-- a limit that is assigned, and as its file shows it
limit-assigned : (r : Resource) (l : Limit) (st : Settings) → (assign (Maximum r l) st).limit r ≡ map_limit (to_amount r) l
unfolding assign
limit-assigned Pages l st = refl
limit-assigned Processes l st = refl

shown-assigned : (r : Resource) (n : ℕ) (st : Settings)
    → joined (shown_lines (Max r) (assign (Maximum r (Figure n)) st)) ≡ ended (decimal (to_figure r (to_amount r n)))
unfolding assign shown value_text joined limit_text
shown-assigned Pages n st = append-nil _
shown-assigned Processes n st = append-nil _

-- An accepted line.
module _ (t : Tree) (r : Resource) (user g : ℕ) (line : List ℕ)
    (z : Accepted t (write_setting user g (setting_name (Max r)) line)) where
  abbrev write : Call
  write = write_setting user g (setting_name (Max r)) line

  done : verdict t write ≡ Ok tt
  done = answer-zero (verdict t write) (sym (reply-number t write) ∙ z)

  value_read : line_value (setting_name (Max r)) line ≡ mapped (Maximum r) (one_word limit_word (line_words line))
  unfolding value_of
  value_read = rw setting_named-setting_name

  well-formed : known (line_value (setting_name (Max r)) line) ≡ true
  unfolding checks setting_checks Pass
  well-formed = let p = passed t write done in (search)

  module _ (l : Limit) (e : one_word limit_word (line_words line) ≡ Some l) where
    group-written : (step t write).group g ≡ written (Some (Maximum r l)) (t.group g)
    unfolding effect
    group-written =
        ap (λ (u : Tree). u.group g) (step-accepted t write done)
        ∙ upd_same t.group g _
        ∙ ap (λ o. written o (t.group g)) (value_read ∙ ap (mapped (Maximum r)) e)

    limit-written : ((step t write).group g).core.limit r ≡ map_limit (to_amount r) l
    limit-written = ap (λ (x : Group). x.core.limit r) group-written ∙ limit-assigned r l (settings_at t g)

pub rounds : (t : Tree) → Rounds t
unfolding contents
rounds t r user g NoLimit line e z = limit-written t r user g line z NoLimit e
rounds t r user g (Figure n) line e z =
    record {
      amount = to_amount r n;
      rounded = rounded-down r n;
      limit = limit-written t r user g line z (Figure n) e;
      shown =
          ap (λ (x : Group). joined (shown_lines (Max r) (settings_of x))) (group-written t r user g line z (Figure n) e)
          ∙ shown-assigned r n (settings_at t g);
    }

-- where a figure stands as the limit after a line, the line had one, which rounds to it
pub figure-given : (t : Tree) (r : Resource) (user g k : ℕ) (line : List ℕ)
    → Accepted t (write_setting user g (setting_name (Max r)) line)
    → ((step t (write_setting user g (setting_name (Max r)) line)).group g).core.limit r ≡ Figure k
    → (n : ℕ) × (one_word limit_word (line_words line) ≡ Some (Figure n)) × RoundedDown r n k
figure-given t r user g k line z h = go (one_word limit_word (line_words line)) refl
  where
    go : (o : Option Limit) → one_word limit_word (line_words line) ≡ o
        → (n : ℕ) × (one_word limit_word (line_words line) ≡ Some (Figure n)) × RoundedDown r n k
    go None e =
        clash (known (line_value (setting_name (Max r)) line)) (well-formed t r user g line z)
        (ap known (value_read t r user g line z ∙ ap (mapped (Maximum r)) e))
    go (Some NoLimit) e = no-figure NoLimit k refl (sym (limit-written t r user g line z NoLimit e) ∙ h)
    go (Some (Figure n)) e =
        let w : Figure (to_amount r n) ≡ Figure k = sym (limit-written t r user g line z (Figure n) e) ∙ h in
        let m : to_amount r n ≡ k = cc in
        (n, e, subst (RoundedDown r n) m (rounded-down r n))
