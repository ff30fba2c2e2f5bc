-- The tree's tables of io.max have the limits of the account of specs/DeviceBook.antt after every list of calls. `rates-entered` is the
-- one place where each call's step in the account meets its effect. As in the book, the one call where this is not plain is a control
-- line: the account goes by the last word, the tree by what leaves the set. Assumes nothing.
use Rattle.std.specs.Prelude.{Option, Some, None}
use Prim.Native.Nat.{ℕ}
use mathlib.Core.Bool.{Bool, true, false}
use mathlib.Core.List.{List, [], ◌∷◌}
use mathlib.Core.Path.{◌≡◌, refl, ap, sym, ◌∙◌, fun_ext}
use Rattle.model.specs.Functions.{upd, pick}
use Rattle.model.specs.Checks.{Pass}
use Rattle.model.specs.Devices.{device_of, pair_of, DeviceLimits, limits_at, or_before, Table, Pairs}
use Rattle.model.specs.Tree.{Tree, Core, Group, no_group, new_group, Settings, settings_of, at_group, cores, parents}
use Rattle.model.specs.Hierarchy.{child_of, facts_of}
use Rattle.model.specs.Control.{asked, is_dropped}
use Rattle.model.specs.Settings.{assign}
use Rattle.model.specs.Rules.{leaving}
use Rattle.model.specs.Calls.{Call, line_value, setting_checks, checks}
use Rattle.model.specs.Effects.{charged, new_set, controlled, written, effect, step, fresh, run}
use Rattle.model.specs.Replies.{reply}
use Rattle.model.specs.Book.{Book, book_step}
use Rattle.model.specs.WellFormed.{WellFormed}
use Rattle.model.specs.Lists.{log}
use Rattle.model.specs.DeviceRules.{Written}
use Rattle.model.specs.DeviceBook.{Rates, no_rates, no_account, rates_of, account_of, rate_after, rates_after, rates_written, child_rates, enter_rates, account_step, account_fed, account_after}
use Rattle.model.specs.declared.Limit.{Limit}
use Rattle.model.specs.declared.Controller.TheVariants.{Io}
use Rattle.model.specs.declared.SettingValue.{SettingValue}
use Rattle.model.specs.declared.SettingValue.TheVariants.{Weight, Quota, Bandwidth, Device, Maximum}
use Rattle.model.proofs.FunctionLaws.{split, whether, upd_same, upd_other, upd-map, upd-keeps}
use Rattle.model.proofs.DeviceRuleLaws.{device-rules}
use Rattle.model.proofs.ControlPreservation.{setting-after-control, setting-after-control-other}
use Rattle.model.proofs.Steps.{step-accepted, step-refused, by-verdict, passed}
use Rattle.model.proofs.Books.{number-accepted, number-refused, child-piece}
use Rattle.model.proofs.States.{State, state-step}

-- the limits that a table has
abbrev rates_in : List DeviceLimits → Rates
rates_in xs d k = limits_at d xs k

-- A setting written.
same-rate : (l : Limit) (q : Option Limit) → or_before l q ≡ rate_after l q
same-rate l None = refl
same-rate l (Some m) = refl

rates-of-line : (st : Settings) (a b : ℕ) (p : Pairs) → Table st.io
    → rates_in (assign (Device a b p) st).io ≡ rates_after (rates_in st.io) (Device a b p)
rates-of-line st a b p t =
    let d : ℕ = device_of a b in
    let w : Written st a b p = device-rules.written st a b p t in
    fun_ext
    (λ e. whether e d
    (λ z. rw z (fun_ext (λ k. w.here k ∙ same-rate (limits_at d st.io k) (pair_of p k)) ∙ sym (upd_same (rates_in st.io) d _)))
    (λ ne. fun_ext (w.elsewhere e ne) ∙ sym (upd_other (rates_in st.io) d _ e ne)))

rates-of-value : (st : Settings) (v : SettingValue) → Table st.io → rates_in (assign v st).io ≡ rates_after (rates_in st.io) v
unfolding assign
rates-of-value st (Weight n) t = refl
rates-of-value st (Quota q) t = refl
rates-of-value st (Bandwidth q p) t = refl
rates-of-value st (Device a b p) t = rates-of-line st a b p t
rates-of-value st (Maximum r l) t = refl

rates-written : (v : Group) (o : Option SettingValue) → Table v.io → rates_of (written o v) ≡ rates_written (rates_of v) o
rates-written v None t = refl
rates-written v (Some x) t = rates-of-value (settings_of v) x t

-- A control line.
rates-picked : (b : Bool) (xs : List DeviceLimits) → rates_in (pick b [] xs) ≡ pick b no_rates (rates_in xs)
unfolding limits_at
rates-picked true xs = refl
rates-picked false xs = refl

rates-after-control : (t : Tree) → WellFormed t → (g : ℕ) (line : List ℕ) (k : ℕ)
    → account_of (controlled t g (new_set t g line) (leaving t g line)) k ≡ child_rates g line k (cores t k) (account_of t k)
rates-after-control t w g line k =
    split (child_of g k (cores t k))
    (λ y. rw (y, child_rates)
    (ap (λ s. rates_in s.io) (setting-after-control t g (new_set t g line) (leaving t g line) k y)
    ∙ ap rates_in (child-piece t w g line Io k y) ∙ rates-picked (is_dropped (asked line Io)) (t.group k).io))
    (λ n. rw (n, child_rates)
    (ap (λ s. rates_in s.io) (setting-after-control-other t g (new_set t g line) (leaving t g line) k n)))

-- An accepted call.
rates-put : (t : Tree) (g : ℕ) (v : Group) → account_of (at_group t g v) ≡ upd (account_of t) g (rates_of v)
rates-put t g v = upd-map rates_of t.group g v

rates-kept : (t : Tree) (g : ℕ) (v : Group) → v.io ≡ (t.group g).io → account_of (at_group t g v) ≡ account_of t
rates-kept t g v e = fun_ext (upd-keeps rates_of t.group g v (ap rates_in e))

rates-entered : (t : Tree) (c : Call) → WellFormed t → Pass (checks (facts_of t) c)
    → account_of (effect t c) ≡ enter_rates (cores t) (account_of t) c
unfolding effect enter_rates limits_at checks Pass setting_checks
rates-entered t (Call.make user parent new) w p = rates-put t new _
rates-entered t (Call.remove user g) w p =
    let u : Tree = at_group t (parents t g) (charged (t.group g).core.own (t.group (parents t g))) in
    rates-put u g no_group ∙ ap (λ a. upd a g no_rates) (rates-kept t (parents t g) _ refl)
rates-entered t (Call.hand_over user g owner) w p = rates-kept t g _ refl
rates-entered t (Call.write_procs user g line) w p = refl
rates-entered t (Call.write_control user g line) w p = fun_ext (rates-after-control t w g line)
rates-entered t (Call.write_setting user g file line) w p =
    rates-put t g _ ∙ ap (upd (account_of t) g) (rates-written (t.group g) (line_value file line) (w.ranges.within g (search)).table)
rates-entered t (Call.admit q user) w p = refl
rates-entered t (Call.fork q new) w p = refl
rates-entered t (Call.exit q) w p = refl
rates-entered t (Call.collect q) w p = refl
rates-entered t (Call.charge q n) w p = rates-kept t _ _ refl
rates-entered t (Call.release g n) w p = rates-kept t g _ refl
rates-entered t (Call.read g file buffer) w p = refl
rates-entered t (Call.membership q buffer) w p = refl

-- A call, accepted or not, and a list of them.
account-step : (t : Tree) (b : Book) (c : Call) → State t b
    → account_of (step t c) ≡ account_step b (account_of t) (record { call = c; number = (reply t c).number })
unfolding account_step
account-step t b c s =
    by-verdict t c
    (λ e. rw (step-accepted t c e, number-accepted t c e)
    (rates-entered t c s.formed (passed t c e) ∙ ap (λ (f : ℕ → Core). enter_rates f (account_of t) c) s.same.groups))
    (λ x e. rw (step-refused t c x e, number-refused t c x e))

pub account-run : (cs : List Call) (t : Tree) (b : Book) → State t b → account_of (run t cs) ≡ account_after t b (account_of t) cs
unfolding run log account_fed
account-run [] t b s = refl
account-run (c ∷ cs) t b s =
    account-run cs (step t c) (book_step b c (reply t c).number) (state-step t b c s)
    ∙ ap (λ a. account_fed (book_step b c (reply t c).number) a (log (step t c) cs)) (account-step t b c s)

pub account-of-fresh : (m : ℕ) → account_of (fresh m) ≡ no_account
unfolding fresh limits_at
account-of-fresh m = fun_ext (upd-keeps rates_of (λ g. no_group) 0 (new_group 0 0 0) refl)
