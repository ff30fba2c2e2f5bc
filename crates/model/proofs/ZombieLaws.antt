-- Laws of zombies' paths: who is on one, and where chains along other parents are the same. Over the functions that they speak of.
-- Assumes nothing.
use Prim.Native.Nat.{ℕ, suc, ◌<◌}
use mathlib.Core.Bool.{Bool, true, false}
use mathlib.Core.Logic.{◌≢◌, ◌⊎◌, inl, inr}
use mathlib.Core.Path.{◌≡◌, refl, ap, sym, ◌∙◌}
use Rattle.model.specs.Sizes.{processes}
use Rattle.model.specs.Tree.{Tree, is_live, lives, parents, places, zombies, remains, Place, nowhere, at, Remnant, no_remnant, remnant, group_of}
use Rattle.model.specs.Hierarchy.{inside}
use Rattle.model.specs.Zombies.{is_zombie, is_removed, remnant_parent, there_in, or_remnant, path_parents, runs_through, on_path_in, on_path, there, process_taken, last_group}
use Rattle.model.specs.WellFormed.{Sound, Placed, WellFormed}
use Rattle.model.proofs.FunctionLaws.{split, clash, or-true, or-false, or_right, any_some, any-has}
use Rattle.model.proofs.AmountLaws.{place-live}
use Rattle.model.proofs.ChainLaws.{inside-live, inside-self, inside-up, inside-trans, inside-same}

-- a zombie has a place where it ended
pub zombie-place : (l : Place) → is_zombie l ≡ true → l ≡ at (group_of l)
zombie-place nowhere h = clash false h refl
zombie-place (at g) h = refl

pub zombie-none : (l : Place) → is_zombie l ≡ false → l ≡ nowhere
zombie-none nowhere h = refl
zombie-none (at g) h = clash true refl h

pub not-removed : (r : Remnant) → is_removed r ≡ false → r ≡ no_remnant
not-removed no_remnant h = refl
not-removed (remnant parent depth) h = clash true refl h

-- Who is there is live, or something is left of him.
module _ (live : ℕ → Bool) (left : ℕ → Remnant) (g : ℕ) where
  pub there-live : live g ≡ true → there_in live left g ≡ true
  there-live l = rw l

  pub there-removed : is_removed (left g) ≡ true → there_in live left g ≡ true
  there-removed r = or_right (live g) _ r

  pub there-cases : there_in live left g ≡ true → (live g ≡ true) ⊎ ((live g ≡ false) × (is_removed (left g) ≡ true))
  there-cases h = split (live g) (λ l. inl l) (λ n. inr (n, or-true (live g) _ h n))

  pub or-live : (h : Remnant → ℕ) (f : ℕ → ℕ) → live g ≡ true → or_remnant h live f left g ≡ f g
  or-live h f l = rw l

  pub or-dead : (h : Remnant → ℕ) (f : ℕ → ℕ) → live g ≡ false → or_remnant h live f left g ≡ h (left g)
  or-dead h f n = rw n

-- The path of a zombie.
runs-some : {C : Type 0} (up : ℕ → ℕ) (g : ℕ) (l : Place) → runs_through up g l ≡ true → ((h : ℕ) → l ≡ at h → inside up g h ≡ true → C) → C
runs-some up g nowhere e k = clash false e refl
runs-some up g (at h) e k = k h refl e

pub runs-has : (up : ℕ → ℕ) (g h : ℕ) (l : Place) → l ≡ at h → runs_through up g l ≡ inside up g h
runs-has up g h l e = ap (runs_through up g) e

pub path-some : {C : Type 0} (up : ℕ → ℕ) (zombie : ℕ → Place) (g : ℕ) → on_path_in up zombie g ≡ true
    → ((p h : ℕ) → p < processes → zombie p ≡ at h → inside up g h ≡ true → C) → C
unfolding on_path_in
path-some up zombie g e k = any_some processes _ e (λ p l r. runs-some up g (zombie p) r (λ h q i. k p h l q i))

pub path-has : (up : ℕ → ℕ) (zombie : ℕ → Place) (g p h : ℕ) → p < processes → zombie p ≡ at h → inside up g h ≡ true → on_path_in up zombie g ≡ true
unfolding on_path_in
path-has up zombie g p h l e i = any-has processes (λ q. runs_through up g (zombie q)) p l (runs-has up g h (zombie p) e ∙ i)

-- no other paths, where each zombie of the one is one of the other
pub path-more : (up : ℕ → ℕ) (zombie other : ℕ → Place) (g : ℕ)
    → ((p h : ℕ) → zombie p ≡ at h → inside up g h ≡ true → other p ≡ at h)
    → on_path_in up zombie g ≡ true → on_path_in up other g ≡ true
path-more up zombie other g k e = path-some up zombie g e (λ p h l q i. path-has up other g p h l (k p h q i) i)

-- The groups that zombies ended in, and all above them, are those of a sound tree.
module _ {there : ℕ → Bool} {up depth : ℕ → ℕ} (s : Sound there up depth) {zombie : ℕ → Place} (q : Placed there zombie) where
  pub path-there : (g : ℕ) → on_path_in up zombie g ≡ true → there g ≡ true
  path-there g e = path-some up zombie g e (λ p h l eq i. inside-live s g h (q.group p h eq) i)

  pub path-own : (p h : ℕ) → zombie p ≡ at h → on_path_in up zombie h ≡ true
  path-own p h e = path-has up zombie h p h (q.range p h e) e (inside-self s h (q.group p h e))

  pub path-up : (g : ℕ) → g ≢ 0 → on_path_in up zombie g ≡ true → on_path_in up zombie (up g) ≡ true
  path-up g nz e =
      path-some up zombie g e
      (λ p h l eq i.
      let lg : there g ≡ true = inside-live s g h (q.group p h eq) i in
      path-has up zombie (up g) p h l eq
      (inside-trans s (up g) g h (q.group p h eq) i (inside-up s (up g) g lg nz (inside-self s (up g) (s.above g lg nz)))))

  -- along other parents that are the same on every path
  pub path-same : (up' : ℕ → ℕ) → ((x : ℕ) → on_path_in up zombie x ≡ true → up x ≡ up' x) → (g : ℕ) → on_path_in up zombie g ≡ on_path_in up' zombie g
  path-same up' k g =
      split (on_path_in up zombie g)
      (λ e. e ∙ sym (path-some up zombie g e (λ p h l eq i. path-has up' zombie g p h l eq (sym (same p h l eq) ∙ i))))
      (λ n. split (on_path_in up' zombie g)
      (λ e. path-some up' zombie g e (λ p h l eq i. clash (on_path_in up zombie g) (path-has up zombie g p h l eq (same p h l eq ∙ i)) n))
      (λ m. n ∙ sym m))
    where
      same : (p h : ℕ) → p < processes → zombie p ≡ at h → inside up g h ≡ inside up' g h
      same p h l eq = inside-same up up' g h (λ x i. k x (path-has up zombie x p h l eq i))

-- A part of a sound tree that is closed upwards is sound.
pub sound-shrink : {there : ℕ → Bool} {up depth : ℕ → ℕ} → Sound there up depth → (there' : ℕ → Bool) (up' depth' : ℕ → ℕ) → there' 0 ≡ true
    → ((g : ℕ) → there' g ≡ true → (there g ≡ true) × (up' g ≡ up g) × (depth' g ≡ depth g))
    → ((g : ℕ) → there' g ≡ true → g ≢ 0 → there' (up g) ≡ true)
    → Sound there' up' depth'
sound-shrink {there} {up} {depth} s there' up' depth' r k c =
    record {
      root = r;
      top = (k 0 r).1 ∙ s.top;
      level = (k 0 r).2 ∙ s.level;
      range = λ g l. s.range g (k g l).0;
      above = λ g l nz. ap there' (k g l).1 ∙ c g l nz;
      deeper = λ g l nz. (k g l).2 ∙ s.deeper g (k g l).0 nz ∙ ap suc (sym (ap depth' (k g l).1 ∙ (k (up g) (c g l nz)).2));
      shallow = λ g l. rw (k g l).2 (s.shallow g (k g l).0);
    }

-- Of a number that no path runs through nothing is left, and so of one that is not taken.
pub untaken-blank : (t : Tree) → WellFormed t → (g : ℕ) → on_path t g ≡ false → remains t g ≡ no_remnant
untaken-blank t w g n =
    split (is_removed (remains t g)) (λ r. clash (on_path t g) (w.past.needed g r) n) (λ r. not-removed (remains t g) r)

pub untaken-process : (t : Tree) (p : ℕ) → process_taken t p ≡ false → (is_live (places t p) ≡ false) × (zombies t p ≡ nowhere)
untaken-process t p h =
    let k = or-false (is_live (places t p)) (is_zombie (zombies t p)) h in
    (k.0, zombie-none (zombies t p) k.1)

-- the group of a live process, or that a zombie ended in, is there
pub last-there : (t : Tree) → WellFormed t → (p : ℕ) → process_taken t p ≡ true → there t (last_group t p) ≡ true
last-there t w p k =
    split (is_live (places t p))
    (λ l. rw l (there-live (lives t) (remains t) _ (w.placed.group p _ (place-live (places t p) l))))
    (λ n. rw n (w.past.ended.group p _ (zombie-place (zombies t p) (or-true (is_live (places t p)) _ k n))))

-- A live group's path is its chain.
pub path_inside : (t : Tree) → WellFormed t → (a g : ℕ) → lives t g ≡ true → inside (path_parents t) a g ≡ inside (parents t) a g
path_inside t w a g l =
    sym (inside-same (parents t) (path_parents t) a g
    (λ x i. sym (or-live (lives t) (remains t) x remnant_parent (parents t) (inside-live w.sound x g l i))))
