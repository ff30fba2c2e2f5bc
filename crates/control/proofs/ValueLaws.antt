-- A value: what can be stored of it, what its stores make of a group, and that there is room for all but a device. Assumes nothing.
use Rattle.std.specs.Prelude.{Some, Ok}
use Prim.Native.Nat.{ℕ}
use native.Mathlib.Omega.{arith}
use mathlib.Core.Bool.{true}
use mathlib.Core.List.{List}
use mathlib.Core.Path.{◌≡◌, ap, sym}
use borrow.Author.Tests.{le-leb}
use Rattle.model.specs.Functions.{All}
use Rattle.model.specs.Sizes.{most_devices}
use Rattle.model.specs.Tree.{Group, CpuSettings, Settings, settings_at, with_cpu, with_amounts, with_limit, with_settings, settings_of}
use Rattle.model.specs.Settings.{figure_in, quota_in, largest, in_range, to_amount, map_limit, assign, has_room, shown}
use Rattle.model.specs.Effects.{written}
use Rattle.model.specs.declared.Resource.{Resource}
use Rattle.model.specs.declared.Resource.TheVariants.{Pages, Processes}
use Rattle.model.specs.declared.Limit.{Limit}
use Rattle.model.specs.declared.Limit.TheVariants.{NoLimit, Figure}
use Rattle.model.specs.declared.Setting.TheVariants.{CpuMax}
use Rattle.model.specs.declared.SettingValue.{SettingValue}
use Rattle.model.specs.declared.SettingValue.TheVariants.{Weight, Quota, Bandwidth, Maximum}
use Rattle.model.proofs.FigureLaws.{between_le}
use Rattle.model.proofs.SettingLaws.{range-of-quota}
use Rattle.tree.specs.Layout.{view}
use Rattle.devices.specs.LimitWords.{Storable}
use Rattle.tree.specs.Changes.{GroupRow, Wrote}
use Rattle.control.specs.Stores.{changed_at}
use Rattle.control.specs.Values.{Settable, Stored, store_answer}

-- ---- what can be stored

storable-in : (q : Limit) → quota_in q ≡ true → Storable q
storable-in NoLimit e = tt
storable-in (Figure n) e = omega (arith, between_le 1000 1000000000 n e)

pub storable-amount : (r : Resource) (l m : Limit) → m ≡ map_limit (to_amount r) l → figure_in 0 (largest r) l ≡ true → Storable m
storable-amount r l m e h = rw e (go r l h)
  where
    go : (r : Resource) (l : Limit) → figure_in 0 (largest r) l ≡ true → Storable (map_limit (to_amount r) l)
    go r NoLimit h = tt
    go Pages (Figure n) h = omega (arith, between_le 0 (largest Pages) n h)
    go Processes (Figure n) h = omega (arith, between_le 0 (largest Processes) n h)

module _ (xs : List ℕ) (g : ℕ) (value : SettingValue) (k : Settable xs g value) where
  pub settable-row : GroupRow xs g
  settable-row = record { long = k.at.kept.long; low = k.at.kept.formed.sound.range g k.at.live }

  -- the quota that stands there
  pub storable-kept : (q : Limit) → q ≡ ((view xs).group g).cpu.quota → Storable q
  unfolding shown All
  storable-kept q e =
      let c : CpuSettings = ((view xs).group g).cpu in
      rw e
      (storable-in c.quota
      (range-of-quota c.quota c.period ((k.at.kept.formed.ranges.within g k.at.live).values CpuMax).0))

  pub storable-quota : (q : Limit) → value ≡ Quota q → Storable q
  unfolding in_range
  storable-quota q e = storable-in q (rw e at k.within)

  pub storable-bandwidth : (q : Limit) (p : ℕ) → value ≡ Bandwidth q p → Storable q
  storable-bandwidth q p e = storable-in q (range-of-quota q p (rw e at k.within))

  pub figure-in : (r : Resource) (l : Limit) → value ≡ Maximum r l → figure_in 0 (largest r) l ≡ true
  unfolding in_range
  figure-in r l e = rw e at k.within

-- ---- what the stores make of a group

-- cpu.weight and cpu.max
abbrev cpu-assigned : Group → ℕ → Limit → ℕ → Group
cpu-assigned v n q p = with_settings (with_cpu (record { weight = n; quota = q; period = p }) (settings_of v)) v

module _ (v : Group) (value : SettingValue) where
  pub weight-written : (n : ℕ) (q : Limit) (p : ℕ) → value ≡ Weight n → q ≡ v.cpu.quota → p ≡ v.cpu.period
      → cpu-assigned v n q p ≡ written (Some value) v
  unfolding assign
  weight-written n q p e f h = rw (e, f, h)

  pub quota-written : (n : ℕ) (q : Limit) (p : ℕ) → value ≡ Quota q → n ≡ v.cpu.weight → p ≡ v.cpu.period
      → cpu-assigned v n q p ≡ written (Some value) v
  unfolding assign
  quota-written n q p e f h = rw (e, f, h)

  pub bandwidth-written : (n : ℕ) (q : Limit) (p : ℕ) → value ≡ Bandwidth q p → n ≡ v.cpu.weight
      → cpu-assigned v n q p ≡ written (Some value) v
  unfolding assign
  bandwidth-written n q p e f = rw (e, f)

  pub limit-written : (r : Resource) (l m : Limit) → value ≡ Maximum r l → m ≡ map_limit (to_amount r) l
      → with_settings (with_amounts (with_limit r m v.core.limit) (settings_of v)) v ≡ written (Some value) v
  unfolding assign
  limit-written r l m e f = rw (e, f)

-- ---- room for a value

module _ (v : SettingValue) (st : Settings) where
  pub weight-io : (n : ℕ) → v ≡ Weight n → (assign v st).io ≡ st.io
  unfolding assign
  weight-io n e = rw e

  pub quota-io : (q : Limit) → v ≡ Quota q → (assign v st).io ≡ st.io
  unfolding assign
  quota-io q e = rw e

  pub bandwidth-io : (q : Limit) (p : ℕ) → v ≡ Bandwidth q p → (assign v st).io ≡ st.io
  unfolding assign
  bandwidth-io q p e = rw e

  pub limit-io : (r : Resource) (l : Limit) → v ≡ Maximum r l → (assign v st).io ≡ st.io
  unfolding assign
  limit-io r l e = rw e

module _ (xs : List ℕ) (g : ℕ) (value : SettingValue) (k : Settable xs g value) where
  -- a value that leaves the devices as they are finds room
  finds-room : (assign value (settings_at (view xs) g)).io ≡ (settings_at (view xs) g).io → has_room (settings_at (view xs) g) value ≡ true
  unfolding has_room
  finds-room e = rw e (le-leb _ most_devices (k.at.kept.formed.ranges.within g k.at.live).table.few)

  pub stored-with-room : (ys : List ℕ) → (assign value (settings_at (view xs) g)).io ≡ (settings_at (view xs) g).io
      → Wrote xs ys (changed_at (view xs) g (written (Some value))) → Stored xs ys g value (Ok tt)
  stored-with-room ys e w = record { room = sym (ap store_answer (finds-room e)); done = λ _. w; same = λ n. cc }
