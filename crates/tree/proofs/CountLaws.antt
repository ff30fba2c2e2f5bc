-- What the counters count, after each kind of change: amounts by the laws of `model`; live children, which go by parents and by who is
-- live; members, which go by places; and zombies, by what is kept of the dead. What these three say of a group. Assumes nothing.
use Prim.Native.Nat.{ℕ, ◌+◌, ◌≤◌, ◌<◌}
use native.Mathlib.Omega.{arith}
use mathlib.Core.Bool.{true, false, not, ◌||◌, ◌&&◌}
use mathlib.Core.Logic.{◌≢◌}
use mathlib.Core.Path.{◌≡◌, refl, ap, ap₂, sym, ◌∙◌, fun_ext}
use lib.Dec.{eqb}
use borrow.Author.Tests.{eqb-true, eq-eqb, ne_eqb}
use Rattle.model.specs.Functions.{pick, upd, weigh, sum}
use Rattle.model.specs.Sizes.{groups, processes}
use Rattle.model.specs.Tree.{Tree, Core, Place, nowhere, at, Past, no_core, new_core, cores, lives, places, zombies}
use Rattle.model.specs.Hierarchy.{standing, amount, child_of}
use Rattle.model.specs.Zombies.{remnant_parent, path_parents, on_path, group_taken}
use Rattle.model.specs.Rules.{stands_in, has_child, has_process}
use Rattle.model.specs.WellFormed.{Sound, Placed}
use Rattle.model.proofs.FunctionLaws.{any-counted, split, whether, clash, and_left, and_right, weigh-yes, weigh-no, sum-ext, sum-change, sum-part, sum-zero, upd_same, upd_other}
use Rattle.model.proofs.AmountLaws.{amount-same, amount-dead}
use Rattle.model.proofs.ZombieCounts.{path-counted}
use Rattle.tree.specs.Kept.{children, members, path_up, count_of, count_in}
use Rattle.tree.specs.declared.sum.Counter.{Counter}
use Rattle.tree.specs.declared.sum.Counter.TheVariants.{Of, Children, Members, Zombies}

-- whether a group is a child goes by its parent and by whether it is live
child-same : (a k : ℕ) (c d : Core) → c.live ≡ d.live → c.parent ≡ d.parent → child_of a k c ≡ child_of a k d
child-same a k c d e f = ap₂ (λ l p. l && (not (eqb k 0) && eqb p a)) e f

pub children-same : (s s' : ℕ → Core) → ((g : ℕ) → (s' g).parent ≡ (s g).parent) → ((g : ℕ) → (s' g).live ≡ (s g).live) → (a : ℕ)
    → children s' a ≡ children s a
unfolding children
children-same s s' e f a = sum-ext groups _ _ (λ k _. ap (λ b. weigh b 1) (child-same a k (s' k) (s k) (f k) (e k)))

-- what is counted goes by parents, who is live, own pages and places, and by what is kept of the dead
pub record SameCores (s s' : ℕ → Core) : Type 0 where
  pub parent : (g : ℕ) → (s' g).parent ≡ (s g).parent
  pub live : (g : ℕ) → (s' g).live ≡ (s g).live
  pub own : (g : ℕ) → (s' g).own ≡ (s g).own

-- so do zombies, by parents and by who is live
pub zombies-same : (s s' : ℕ → Core) (d : Past) → ((g : ℕ) → (s' g).parent ≡ (s g).parent) → ((g : ℕ) → (s' g).live ≡ (s g).live) → (a : ℕ)
    → standing (path_up s' d) d.zombie a ≡ standing (path_up s d) d.zombie a
zombies-same s s' d e f a =
    ap (λ (u : ℕ → ℕ). standing u d.zombie a) (fun_ext (λ g i. pick (f g i) (e g i) (remnant_parent (d.remains g))))

pub count_same : (s s' : ℕ → Core) (pl pl' : ℕ → Place) (d d' : Past) → SameCores s s' → pl' ≡ pl → d' ≡ d → (c : Counter) (a : ℕ)
    → count_of s' pl' d' c a ≡ count_of s pl d c a
count_same s s' pl pl' d d' same e f (Of r) a =
    ap (λ (f : ℕ → Place). amount s' f r a) e ∙ amount-same s s' pl same.parent (λ g. ap₂ weigh (same.live g) (same.own g)) r a
count_same s s' pl pl' d d' same e f Children a = children-same s s' same.parent same.live a
count_same s s' pl pl' d d' same e f Members a = ap (λ (h : ℕ → Place). members h a) e
count_same s s' pl pl' d d' same e f Zombies a =
    ap (λ (x : Past). standing (path_up s' x) x.zombie a) f ∙ zombies-same s s' d same.parent same.live a

-- a process that comes to another place is one member of the one less, and of the other more
pub members-change : (pl : ℕ → Place) (p : ℕ) (l : Place) (a : ℕ) → p < processes
    → members (upd pl p l) a + weigh (stands_in (pl p) a) 1 ≡ members pl a + weigh (stands_in l a) 1
unfolding members
members-change pl p l a low =
    sum-change processes p _ _ low (λ k ne. ap (λ x. weigh (stands_in x a) 1) (upd_other pl p l k ne))
    ∙ ap (λ x. sum processes (λ k. weigh (stands_in (pl k) a) 1) + weigh (stands_in x a) 1) (upd_same pl p l)

-- who stands in a group is counted there
pub member-counted : (pl : ℕ → Place) (p a : ℕ) → p < processes → stands_in (pl p) a ≡ true → 1 ≤ members pl a
unfolding members
member-counted pl p a low y = omega (arith, sum-part processes p (λ k. weigh (stands_in (pl k) a) 1) low, weigh-yes (stands_in (pl p) a) 1 y)

-- What the counts say of a group.
pub has_child-counted : (t : Tree) (g : ℕ) → not (eqb (count_in t Children g) 0) ≡ has_child t g
unfolding has_child children
has_child-counted t g = any-counted groups (λ j. child_of g j (cores t j)) _ (λ j. refl)

pub group_taken-counted : (t : Tree) (g : ℕ) → lives t g ≡ false → not (eqb (count_in t Zombies g) 0) ≡ group_taken t g
group_taken-counted t g dead = path-counted (path_parents t) (zombies t) g ∙ sym (ap (λ b. b || on_path t g) dead)

pub has_process-counted : (t : Tree) (g : ℕ) → not (eqb (count_in t Members g) 0) ≡ has_process t g
unfolding has_process members
has_process-counted t g = any-counted processes (λ p. stands_in (places t p) g) _ (λ p. refl)

-- who is no child of a, and who is
no-child : (a k : ℕ) (c : Core) → c.live ≡ false → child_of a k c ≡ false
no-child a k c dead = rw dead

child-is : (a k : ℕ) (c : Core) → c.live ≡ true → k ≢ 0 → child_of a k c ≡ eqb c.parent a
child-is a k c l nz = rw (l, ne_eqb k 0 nz)

-- a group that is made, or removed, is one child of its parent more, or less
children-change : (s s' : ℕ → Core) (g a : ℕ) → g < groups → ((k : ℕ) → k ≢ g → child_of a k (s' k) ≡ child_of a k (s k))
    → children s' a + weigh (child_of a g (s g)) 1 ≡ children s a + weigh (child_of a g (s' g)) 1
unfolding children
children-change s s' g a low e = sum-change groups g _ _ low (λ k ne. ap (λ b. weigh b 1) (e k ne))

module _ (s : ℕ → Core) (pl : ℕ → Place) (depth : ℕ → ℕ) (w : Sound (λ g. (s g).live) (λ g. (s g).parent) depth) (q : Placed (λ g. (s g).live) pl) where
  nonroot : (k : ℕ) → (s k).live ≡ false → k ≢ 0
  nonroot k dead e = clash (s 0).live w.root (rw e at dead)

  -- nobody stands in a dead group
  stands_live : (l : Place) (a : ℕ) → ((g : ℕ) → l ≡ at g → (s g).live ≡ true) → (s a).live ≡ false → stands_in l a ≡ false
  stands_live nowhere a live dead = refl
  stands_live (at g) a live dead = split (eqb g a) (λ y. clash (s a).live (rw (eqb-true g a y) at (live g refl)) dead) (λ n. n)

  -- and a dead group has no child; zombies alone are counted in it
  pub count-dead : (d : Past) (c : Counter) (a : ℕ) → c ≢ Zombies → (s a).live ≡ false → count_of s pl d c a ≡ 0
  unfolding children members
  count-dead d Zombies a ne dead = absurd (ne refl)
  count-dead d (Of r) a ne dead = amount-dead s pl depth w q r a dead
  count-dead d Members a ne dead =
      sum-ext processes _ (λ _. 0) (λ p _. weigh-no _ 1 (stands_live (pl p) a (λ g e. q.group p g e) dead)) ∙ sum-zero processes
  count-dead d Children a ne dead =
      sum-ext groups _ (λ _. 0)
      (λ k _. weigh-no _ 1
      (split (child_of a k (s k))
      (λ y.
      let l : (s k).live ≡ true = and_left (s k).live _ y in
      let both : (not (eqb k 0) && eqb (s k).parent a) ≡ true = and_right (s k).live _ y in
      let nz : k ≢ 0 = (λ e. clash (not (eqb k 0)) (and_left _ _ both) (ap not (eq-eqb k 0 e))) in
      let up : (s k).parent ≡ a = eqb-true (s k).parent a (and_right (not (eqb k 0)) _ both) in
      clash (s a).live (rw (← up) (w.above k l nz)) dead)
      (λ n. n)))
      ∙ sum-zero groups

  pub children-after-make : (new p : ℕ) → new < groups → (s new).live ≡ false → (a : ℕ)
      → children (upd s new (new_core p)) a ≡ children s a + weigh (eqb p a) 1
  children-after-make new p low dead a =
      let after : ℕ → Core = upd s new (new_core p) in
      let here : after new ≡ new_core p = upd_same s new (new_core p) in
      let is : child_of a new (after new) ≡ eqb p a = ap (child_of a new) here ∙ child-is a new (new_core p) refl (nonroot new dead) in
      omega (
        arith,
        children-change s after new a low (λ k ne. ap (child_of a k) (upd_other s new (new_core p) k ne)),
        weigh-no (child_of a new (s new)) 1 (no-child a new (s new) dead),
        ap (λ b. weigh b 1) is,
      )

  -- v is what its parent becomes, which stays live under its own parent
  pub children-after-remove : (g : ℕ) (v : Core) → (s g).live ≡ true → g ≢ 0 → (s g).parent ≢ g
      → v.parent ≡ (s (s g).parent).parent → v.live ≡ (s (s g).parent).live → (a : ℕ)
      → children (upd (upd s (s g).parent v) g no_core) a + weigh (eqb (s g).parent a) 1 ≡ children s a
  children-after-remove g v l nz apart e f a =
      let h : ℕ = (s g).parent in
      let after : ℕ → Core = upd (upd s h v) g no_core in
      let gone : child_of a g (after g) ≡ false = ap (child_of a g) (upd_same (upd s h v) g no_core) ∙ no-child a g no_core refl in
      omega (
        arith,
        children-change s after g a (w.range g l)
            (λ k ne. ap (child_of a k) (upd_other (upd s h v) g no_core k ne)
            ∙ whether k h
            (λ d. rw d (ap (child_of a h) (upd_same s h v) ∙ child-same a h v (s h) f e))
            (λ n. ap (child_of a k) (upd_other s h v k n))),
        ap (λ b. weigh b 1) (child-is a g (s g) l nz),
        weigh-no (child_of a g (after g)) 1 gone,
      )

  -- a child is counted by its parent
  pub child-counted : (g : ℕ) → (s g).live ≡ true → g ≢ 0 → 1 ≤ children s (s g).parent
  unfolding children
  child-counted g l nz =
      omega (
        arith,
        sum-part groups g (λ k. weigh (child_of (s g).parent k (s k)) 1) (w.range g l),
        weigh-yes (child_of (s g).parent g (s g)) 1 (child-is (s g).parent g (s g) l nz ∙ eq-eqb (s g).parent (s g).parent refl),
      )
