-- What follows of words that keep the invariant: groups and parents have rows, sums and own pages are small, chains can be searched and
-- adjusted, and room found by the running sums is room by the definitions. Assumes nothing.
use Prim.Native.Nat.{ℕ, zero, suc, ◌+◌, ◌^◌, ◌≤◌, ◌<◌}
use native.Mathlib.Omega.{arith}
use mathlib.Core.Bool.{Bool, true, false}
use mathlib.Core.List.{List}
use mathlib.Core.Path.{◌≡◌, ap₂, ◌∙◌, fun_ext}
use Rattle.model.specs.Functions.{weigh, sum, member}
use Rattle.model.specs.Sizes.{groups, processes, largest_machine, largest_charge}
use Rattle.model.specs.Tree.{Tree, Core, Place, nowhere, at, group_of, cores, lives, parents, places, zombies}
use Rattle.model.specs.Hierarchy.{child_of, chain, inside, held, own_pages, headcount, standing, usage, population, amount, facts_of}
use Rattle.model.specs.Zombies.{path_parents}
use Rattle.model.specs.Rules.{stands_in}
use Rattle.model.specs.Rooms.{Room, acting_limit, consult, room_for}
use Rattle.model.specs.WellFormed.{Sound, WellFormed}
use Rattle.model.specs.declared.Resource.{Resource}
use Rattle.model.specs.declared.Resource.TheVariants.{Pages, Processes}
use Rattle.model.proofs.FunctionLaws.{split, whether, weigh-yes, weigh-no}
use Rattle.model.proofs.ChainLaws.{inside-live, root-inside}
use Rattle.model.proofs.AmountLaws.{own-within-usage}
use Rattle.tree.specs.Layout.{view, sum_in}
use Rattle.tree.specs.Counters.{listed, ChainOf, HasParent, Countable, Adjustable}
use Rattle.tree.specs.Kept.{children, members, count_in, Kept, KeptAt}
use Rattle.tree.specs.declared.chain.Chain.{Chain}
use Rattle.tree.specs.declared.sum.Counter.{Counter}
use Rattle.tree.specs.declared.sum.Counter.TheVariants.{Of, Children, Members, Zombies}

-- A live group has a row.
pub kept_low : {xs : List ℕ} {g : ℕ} → KeptAt xs g → g < groups
kept_low {xs} {g} k = k.kept.formed.sound.range g k.live

-- Sums are within the root's, and so within the machine; there are no more processes than numbers.
sum-le : (n : ℕ) (f g : ℕ → ℕ) → ((j : ℕ) → j < n → f j ≤ g j) → sum n f ≤ sum n g
unfolding sum
sum-le zero f g h = omega arith
sum-le (suc n) f g h = omega (arith, h n (omega arith), sum-le n f g (λ j l. h j (omega arith)))

sum_ones : (n : ℕ) (f : ℕ → ℕ) → ((j : ℕ) → f j ≤ 1) → sum n f ≤ n
unfolding sum
sum_ones zero f h = omega arith
sum_ones (suc n) f h = omega (arith, h n, sum_ones n f h)

weigh-le : (b : Bool) (w : ℕ) → weigh b w ≤ w
unfolding weigh
weigh-le true w = omega arith
weigh-le false w = omega arith

usage-below-root : (t : Tree) → WellFormed t → (a : ℕ) → usage (cores t) a ≤ usage (cores t) 0
unfolding usage held
usage-below-root t w a =
    sum-le groups _ _
    (λ g l. split (lives t g)
    (λ y. omega (arith, weigh-le (inside (parents t) a g) (own_pages (cores t g)), weigh-yes (inside (parents t) 0 g) (own_pages (cores t g)) (root-inside w.sound g y)))
    (λ n. let z : own_pages (cores t g) ≡ 0 = weigh-no _ _ n in
    omega (arith, weigh-le (inside (parents t) a g) (own_pages (cores t g)))))

head-le : (l : Place) → headcount l ≤ 1
head-le nowhere = omega arith
head-le (at g) = omega arith

standing-few : (up : ℕ → ℕ) (pl : ℕ → Place) (a : ℕ) → standing up pl a ≤ processes
unfolding held
standing-few up pl a = sum_ones processes _ (λ p. omega (arith, weigh-le (inside up a (group_of (pl p))) (headcount (pl p)), head-le (pl p)))

amount-small : (t : Tree) → WellFormed t → (r : Resource) (a : ℕ) → amount (cores t) (places t) r a ≤ largest_machine
unfolding population
amount-small t w Pages a = omega (arith, usage-below-root t w a, w.sized.fits, w.sized.size)
amount-small t w Processes a = omega (arith, standing-few (parents t) (places t) a)

children-few : (s : ℕ → Core) (a : ℕ) → children s a ≤ groups
unfolding children
children-few s a = sum_ones groups _ (λ k. weigh-le (child_of a k (s k)) 1)

members-few : (pl : ℕ → Place) (a : ℕ) → members pl a ≤ processes
unfolding members
members-few pl a = sum_ones processes _ (λ p. weigh-le (stands_in (pl p) a) 1)

pub count_small : (t : Tree) → WellFormed t → (c : Counter) (a : ℕ) → count_in t c a ≤ largest_machine
count_small t w (Of r) a = amount-small t w r a
count_small t w Children a = omega (arith, children-few (cores t) a)
count_small t w Members a = omega (arith, members-few (places t) a)
count_small t w Zombies a = omega (arith, standing-few (path_parents t) (zombies t) a)

-- The groups of a chain are live.
on-chain-live : {live : ℕ → Bool} {up depth : ℕ → ℕ} (s : Sound live up depth) (g a : ℕ) → live g ≡ true → member a (chain up g) ≡ true → live a ≡ true
unfolding inside
on-chain-live s g a l m = inside-live s a g l m

-- the limits and sums of a list of groups can be asked for n more
pub record Searchable (xs : List ℕ) (r : Resource) (gs : List ℕ) (n : ℕ) : Type 0 where
  pub live : (g : ℕ) → member g gs ≡ true → KeptAt xs g
  pub room : (g : ℕ) → member g gs ≡ true → sum_in xs (Of r) g + n < 2 ^ 64

module _ (xs : List ℕ) (k : Kept xs) where
  sum-small : (c : Counter) (a : ℕ) → sum_in xs c a ≤ largest_machine
  sum-small c a = omega (arith, k.sums c a, count_small (view xs) k.formed c a)

  pub live-row : (a : ℕ) → lives (view xs) a ≡ true → HasParent xs a
  live-row a l =
      record {
        low = k.formed.sound.range a l;
        above = λ nz. k.formed.sound.range (parents (view xs) a) (k.formed.sound.above a l nz);
      }

  -- a live group's parent has a row, the root's too
  pub parent-low : (g p : ℕ) → lives (view xs) g ≡ true → p ≡ parents (view xs) g → p < groups
  parent-low g p l e =
      let s = k.formed.sound in
      rw e
      (whether g 0
      (λ z. rw (z, s.top) (s.range 0 s.root))
      (λ nz. s.range (parents (view xs) g) (s.above g l nz)))

  -- own pages are within the machine
  pub own-small : (g : ℕ) → lives (view xs) g ≡ true → ((view xs).group g).core.own ≤ largest_machine
  own-small g l =
      let w = k.formed in
      omega (
        arith,
        own-within-usage (cores (view xs)) 0 g (w.sound.range g l) l (root-inside w.sound g l),
        w.sized.fits,
        w.sized.size,
      )

  module _ (g : ℕ) (l : lives (view xs) g ≡ true) (c : Chain) (h : ChainOf (view xs) g c) where
    -- a group of the chain lives
    chain-live : (a : ℕ) → member a (listed c) ≡ true → lives (view xs) a ≡ true
    chain-live a m = on-chain-live k.formed.sound g a l (rw h.groups at m)

    pub searchable : (r : Resource) (n : ℕ) → n ≤ largest_charge → Searchable xs r (listed c) n
    searchable r n few =
        record {
          live = λ a m. record { kept = k; live = chain-live a m };
          room = λ a m. omega (arith, sum-small (Of r) a);
        }

  pub adjustable : (g : ℕ) → lives (view xs) g ≡ true → (c : Counter) (n m : ℕ) → n ≤ largest_charge
      → ((a : ℕ) → inside (parents (view xs)) a g ≡ true → m ≤ count_in (view xs) c a)
      → Adjustable xs c g n m
  adjustable g l c n m few enough =
      let s = k.formed.sound in
      record {
        long = k.long;
        sound = s;
        live = l;
        room = λ a i. omega (arith, sum-small c a);
        enough = λ a i. omega (arith, enough a i, k.sums c a);
      }

  pub countable : (g : ℕ) → lives (view xs) g ≡ true → (c : Counter) (n m : ℕ) → n ≤ largest_charge → m ≤ count_in (view xs) c g
      → Countable xs c g n m
  countable g l c n m few enough =
      record {
        long = k.long;
        low = k.formed.sound.range g l;
        room = omega (arith, sum-small c g);
        enough = omega (arith, enough, k.sums c g);
      }

  -- Room by the running sums is room by the definitions.
  pub room-found : (g : ℕ) (c : Chain) → ChainOf (view xs) g c → (r : Resource) (n : ℕ) (x : Room)
      → x ≡ consult (acting_limit (view xs) r) (sum_in xs (Of r)) n 0 (listed c) → x ≡ room_for (facts_of (view xs)) r n g
  room-found g c h r n x e =
      e ∙ ap₂ (λ (f : ℕ → ℕ) (gs : List ℕ). consult (acting_limit (view xs) r) f n 0 gs) (fun_ext (k.sums (Of r))) h.groups
