-- Running sums adjusted along a chain that is handed about: the chain is the way up from its bottom group, so that the walk along
-- it goes on as the walk up the parents does; and the walk that ends at a group of it. Assumes nothing.
use Prim.Native.Nat.{ℕ, ◌+◌, ◌≤◌, ◌<◌}
use native.Mathlib.Omega.{arith}
use mathlib.Core.Bool.{true}
use mathlib.Core.List.{List}
use mathlib.Core.Logic.{⊎_elim, ◌≢◌}
use mathlib.Core.Path.{◌≡◌, refl, ap, sym, ◌∙◌}
use lib.Dec.{ltb}
use lib.ListN.{get_or, drop}
use borrow.Author.Tests.{ltb-true, ltb-false}
use Rattle.model.specs.Tree.{Tree, parents}
use Rattle.model.specs.Hierarchy.{chain, inside}
use Rattle.model.proofs.FunctionLaws.{split}
use Rattle.model.proofs.ChainLaws.{chain-up, inside-cases, inside-root}
use Rattle.tree.specs.Layout.{view}
use Rattle.tree.specs.Changes.{AdjustedAt, Adjusted}
use Rattle.tree.specs.Counters.{listed, group_at, bottom, ChainOf, Countable, Adjustable}
use Rattle.tree.specs.declared.chain.Chain.{Chain}
use Rattle.tree.specs.declared.sum.Counter.{Counter}
use Rattle.tree.proofs.WalkLaws.{left-more, first_of}
use Rattle.tree.proofs.AdjustLaws.{Rising, rising-start, rising-countable, rising-next, rising-end}

-- In the loop: the walk is at place j, whose group is reached on the way up, and what is left is its chain.
pub record Along (xs : List ℕ) (k : Counter) (c : Chain) (n m : ℕ) (ys : List ℕ) (j : ℕ) : Type 0 where
  pub within : j + 1 ≤ c.len
  pub rising : Rising xs k (bottom c) n m ys (group_at c j)
  pub rest : drop j (listed c) ≡ chain (parents (view xs)) (group_at c j)

module _ (xs : List ℕ) (k : Counter) (c : Chain) (n m : ℕ) (h : ChainOf (view xs) (bottom c) c) (a : Adjustable xs k (bottom c) n m) where
  pub along-start : Along xs k c n m xs 0
  along-start = record { within = h.whole.some; rising = rising-start xs k (bottom c) n m a; rest = h.groups }

  module _ (ys : List ℕ) (j : ℕ) (w : Along xs k c n m ys j) where
    pub along-countable : (g : ℕ) → g ≡ group_at c j → Countable ys k g n m
    along-countable g e = rw e (rising-countable xs k (bottom c) n m a ys (group_at c j) w.rising)

    -- the groups above this one
    above : j + 1 < c.len → drop (j + 1) (listed c) ≡ chain (parents (view xs)) (parents (view xs) (group_at c j))
    above l =
        ap (λ (gs : List ℕ). drop 1 gs)
        (sym (left-more c h.whole j (omega arith))
        ∙ w.rest
        ∙ chain-up a.sound (group_at c j) w.rising.live (h.whole.inner j l))

    -- the next one is its parent
    next_up : j + 1 < c.len → group_at c (j + 1) ≡ parents (view xs) (group_at c j)
    next_up l =
        ap (λ (gs : List ℕ). get_or gs 0 0) (sym (left-more c h.whole (j + 1) l) ∙ above l)
        ∙ first_of a.sound (parents (view xs) (group_at c j)) (a.sound.above (group_at c j) w.rising.live (h.whole.inner j l))

    module _ (zs : List ℕ) (g : ℕ) (same : g ≡ group_at c j) (d : AdjustedAt ys zs k g n m) where
      pub along-next : j + 1 < c.len → Along xs k c n m zs (j + 1)
      along-next l =
          let e : AdjustedAt ys zs k (group_at c j) n m = rw same at d in
          let up : group_at c (j + 1) ≡ parents (view zs) (group_at c j) =
          next_up l ∙ ap (λ (t : Tree). parents t (group_at c j)) (sym (e.tree ∙ w.rising.tree)) in
          record {
            within = omega arith;
            rising = rising-next xs k (bottom c) n m a ys (group_at c j) w.rising zs e (h.whole.inner j l) (group_at c (j + 1)) up;
            rest = above l ∙ ap (chain (parents (view xs))) (sym (next_up l));
          }

    -- the last is the root
    module _ (l : c.len ≤ j + 1) where
      at-root : group_at c j ≡ 0
      at-root = h.whole.last j (omega (arith, w.within))

      pub along-root : Countable ys k 0 n m
      along-root = along-countable 0 (sym at-root)

      pub along-end : (zs : List ℕ) → AdjustedAt ys zs k 0 n m → Adjusted xs zs k (bottom c) n m
      along-end zs e = rising-end xs k (bottom c) n m a ys (group_at c j) w.rising zs (rw at-root e) at-root

-- A walk that goes no farther than a group a of the chain, which is left as it was with those above it.
pub record AlongTo (xs : List ℕ) (k : Counter) (c : Chain) (n m a : ℕ) (ys : List ℕ) (j : ℕ) : Type 0 where
  pub along : Along xs k c n m ys j
  pub ahead : inside (parents (view xs)) a (group_at c j) ≡ true

module _ (xs : List ℕ) (k : Counter) (c : Chain) (n m : ℕ) (h : ChainOf (view xs) (bottom c) c) (d : Adjustable xs k (bottom c) n m) (a : ℕ) where
  pub along-to-start : inside (parents (view xs)) a (bottom c) ≡ true → AlongTo xs k c n m a xs 0
  along-to-start on = record { along = along-start xs k c n m h d; ahead = on }

  module _ (ys : List ℕ) (j : ℕ) (w : AlongTo xs k c n m a ys j) (ne : group_at c j ≢ a) where
    -- the root is not left
    not_top : group_at c j ≢ 0
    not_top z = ne (z ∙ sym (inside-root d.sound a (rw z at w.ahead)))

    pub along-to-more : j + 1 < c.len
    along-to-more =
        split (ltb (j + 1) c.len)
        (λ y. ltb-true (j + 1) c.len y)
        (λ o. absurd (not_top (h.whole.last j (omega (arith, w.along.within, ltb-false (j + 1) c.len o)))))

    pub along-to-countable : Countable ys k (group_at c j) n m
    along-to-countable = along-countable xs k c n m h d ys j w.along (group_at c j) refl

    pub along-to-next : (zs : List ℕ) → AdjustedAt ys zs k (group_at c j) n m → AlongTo xs k c n m a zs (j + 1)
    along-to-next zs e =
        record {
          along = along-next xs k c n m h d ys j w.along zs (group_at c j) refl e along-to-more;
          ahead = rw (next_up xs k c n m h d ys j w.along along-to-more)
              (⊎_elim (λ (e : a ≡ group_at c j). absurd (ne (sym e))) (λ i. i)
              (inside-cases d.sound a (group_at c j) w.along.rising.live not_top w.ahead));
        }

  pub along-to-end : (ys : List ℕ) (j : ℕ) → AlongTo xs k c n m a ys j → group_at c j ≡ a → Rising xs k (bottom c) n m ys a
  along-to-end ys j w e = rw (← e) w.along.rising
