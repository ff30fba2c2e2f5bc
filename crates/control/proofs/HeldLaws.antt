-- Two searches in either order: through the controllers that leave, and through the numbers below a bound, from the last one down; and so
-- one pass over the groups for all that leave. Assumes nothing.
use Prim.Native.Nat.{ℕ, zero, suc, ◌-◌, ◌≤◌, ◌<◌}
use native.Mathlib.Omega.{arith}
use mathlib.Core.Bool.{Bool, true, false, ◌&&◌, ◌||◌}
use mathlib.Core.List.{List, [], ◌∷◌}
use mathlib.Core.Path.{◌≡◌, refl, ap, sym, ◌∙◌, fun_ext}
use Rattle.model.specs.Functions.{any}
use Rattle.model.specs.Sizes.{groups}
use Rattle.model.specs.Tree.{Tree, Controls, cores, sets}
use Rattle.model.specs.Hierarchy.{child_of}
use Rattle.model.specs.Control.{any_in, any_controller}
use Rattle.model.specs.Rules.{held_by_child}
use Rattle.model.specs.declared.Controller.{Controller}
use Rattle.model.proofs.ControlLaws.{any-controller-none}
use Rattle.control.specs.Flags.{child_holds_any, is_any_held}

-- the first or the second, as `any` and `any_in` have it
abbrev or : Bool → Bool → Bool
or a b = elim a [ true ↦ true | false ↦ b ]

as-or : (a b : Bool) → or a b ≡ (a || b)
as-or true b = refl
as-or false b = refl

-- ---- a search through the numbers below a bound, from the last one down
module _ (f : ℕ → Bool) (left : ℕ) where
  pub any_last : 0 < left → any left f ≡ (f (left - 1) || any (left - 1) f)
  unfolding any
  any_last h = let e : left ≡ suc (left - 1) = omega arith in ap (λ k. any k f) e ∙ go (left - 1)
    where
      go : (k : ℕ) → any (suc k) f ≡ (f k || any k f)
      go k = as-or (f k) (any k f)

  pub any_end : left ≤ 0 → any left f ≡ false
  unfolding any
  any_end h = let z : left ≡ 0 = omega arith in rw z

-- ---- two searches

module _ (leaving : Controls) where
  -- ---- the controllers of a list

  any-in-never : (cs : List Controller) → false ≡ any_in (λ c. leaving c && false) cs
  unfolding any_in
  any-in-never [] = refl
  any-in-never (c ∷ cs) = any-in-never cs ∙ ap (λ b. or b (any_in (λ c'. leaving c' && false) cs)) (go (leaving c))
    where
      go : (b : Bool) → false ≡ (b && false)
      go true = refl
      go false = refl

  any-in-either : (p q : Controls) (cs : List Controller)
      → or (any_in (λ c. leaving c && p c) cs) (any_in (λ c. leaving c && q c) cs) ≡ any_in (λ c. leaving c && or (p c) (q c)) cs
  unfolding any_in
  any-in-either p q [] = refl
  any-in-either p q (c ∷ cs) = go (leaving c) (p c) (q c) _ _ ∙ ap (or (leaving c && or (p c) (q c))) (any-in-either p q cs)
    where
      go : (a b d x y : Bool) → or (or (a && b) x) (or (a && d) y) ≡ or (a && or b d) (or x y)
      go true true d x y = refl
      go true false true true y = refl
      go true false true false y = refl
      go true false false x y = refl
      go false b d x y = refl

  -- a test that is the same for all of them
  any-in-if : (b : Bool) (p : Controls) (cs : List Controller)
      → (b && any_in (λ c. leaving c && p c) cs) ≡ any_in (λ c. leaving c && (b && p c)) cs
  any-in-if true p cs = refl
  any-in-if false p cs = any-in-never cs

  -- ---- and the numbers below n

  any-in-any : (n : ℕ) (h : Controller → ℕ → Bool) (cs : List Controller)
      → any n (λ k. any_in (λ c. leaving c && h c k) cs) ≡ any_in (λ c. leaving c && any n (h c)) cs
  unfolding any
  any-in-any zero h cs = any-in-never cs
  any-in-any (suc n) h cs =
      ap (or (any_in (λ c. leaving c && h c n) cs)) (any-in-any n h cs) ∙ any-in-either (λ c. h c n) (λ c. any n (h c)) cs

  -- ---- the groups

  pub none_held : any_controller leaving ≡ false → (t : Tree) (g : ℕ) → false ≡ is_any_held t g leaving
  unfolding any_in
  none_held n t g = ap (is_any_held t g) (sym (fun_ext (any-controller-none leaving n)))

  pub held_in_one_pass : (t : Tree) (g : ℕ) → any groups (child_holds_any t g leaving) ≡ is_any_held t g leaving
  unfolding held_by_child child_holds_any
  held_in_one_pass t g =
      ap (any groups) (fun_ext (λ k. any-in-if (child_of g k (cores t k)) (sets t k) _))
      ∙ any-in-any groups (λ c k. child_of g k (cores t k) && sets t k c) _

-- what the one function that makes both searches needs
pub ruleset held_in_both = (any_last, any_end, none_held, held_in_one_pass)
