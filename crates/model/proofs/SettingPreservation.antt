-- A setting that is written changes settings and nothing else: neither who lives nor any amount. Assumes nothing.
use Rattle.std.specs.Prelude.{Option, Some, None}
use Prim.Native.Nat.{ℕ}
use mathlib.Core.Path.{◌≡◌, refl}
use Rattle.model.specs.Functions.{upd}
use Rattle.model.specs.Tree.{Tree, Group, Settings, with_settings, cores, places}
use Rattle.model.specs.Hierarchy.{own_pages, amount}
use Rattle.model.specs.Effects.{written}
use Rattle.model.specs.declared.Resource.{Resource}
use Rattle.model.specs.declared.SettingValue.{SettingValue}
use Rattle.model.proofs.FunctionLaws.{upd-keeps}
use Rattle.model.proofs.AmountLaws.{amount-same}

-- a part of a group that holds no settings
pub part-written : {A : Type 0} (F : Group → A) → ((x : Settings) (v : Group) → F (with_settings x v) ≡ F v)
    → (o : Option SettingValue) (v : Group) → F (written o v) ≡ F v
part-written F e None v = refl
part-written F e (Some x) v = e _ v

module _ (t : Tree) (g : ℕ) (o : Option SettingValue) where
  abbrev pub set-in : ℕ → Group
  set-in = upd t.group g (written o (t.group g))

  pub part-after-setting : {A : Type 0} (F : Group → A) → ((x : Settings) (v : Group) → F (with_settings x v) ≡ F v)
      → (k : ℕ) → F (set-in k) ≡ F (t.group k)
  part-after-setting F e = upd-keeps F t.group g _ (part-written F e o (t.group g))

  pub amount-after-setting : (r : Resource) (a : ℕ) → amount (λ k. (set-in k).core) (places t) r a ≡ amount (cores t) (places t) r a
  amount-after-setting =
      amount-same (cores t) (λ k. (set-in k).core) (places t)
      (part-after-setting (λ v. v.core.parent) (λ _ _. refl)) (part-after-setting (λ v. own_pages v.core) (λ _ _. refl))
