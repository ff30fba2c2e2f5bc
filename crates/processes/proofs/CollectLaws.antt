-- Collect: the removed groups on the zombie's path are passed from the lowest up, each with a zombie less, and nothing is left of one that
-- has none then; the live groups above follow, and then the number is free. Assumes nothing.
use Rattle.std.specs.Prelude.{Ok}
use Prim.Native.Nat.{ℕ, ◌+◌, ◌-◌, ◌≤◌, ◌<◌}
use native.Mathlib.Omega.{arith}
use mathlib.Core.Bool.{Bool, true, false, not}
use mathlib.Core.List.{List}
use mathlib.Core.Logic.{◌≢◌, ⊎_elim}
use mathlib.Core.Path.{◌≡◌, refl, ap, sym, ◌∙◌, fun_ext, subst}
use lib.Dec.{eqb}
use lib.ListN.{length}
use borrow.Author.Tests.{eq-eqb, ne_eqb}
use Rattle.model.specs.Functions.{pick, upd}
use Rattle.model.specs.Sizes.{groups, processes}
use Rattle.model.specs.Checks.{Pass, Answer}
use Rattle.model.specs.Tree.{Tree, Place, Remnant, no_remnant, nowhere, at, no_process, with_past, group_of, is_live, lives, parents, depths, places, zombies, remains}
use Rattle.model.specs.Hierarchy.{inside, standing}
use Rattle.model.specs.Zombies.{is_zombie, is_removed, remnant_parent, there, path_parents, path_depths, on_path_in}
use Rattle.model.specs.Calls.{collect, checks, verdict}
use Rattle.model.specs.Effects.{kept_if, effect}
use Rattle.model.specs.WellFormed.{Sound, WellFormed}
use Rattle.model.proofs.FunctionLaws.{split, whether, clash, upd_same, upd_other, upd-id, weigh-yes, weigh-no}
use Rattle.model.proofs.ChainLaws.{inside-self, inside-live, inside-up, inside-cases, inside-trans, inside-level}
use Rattle.model.proofs.ProcessLaws.{zombie-range}
use Rattle.model.proofs.ZombieLaws.{zombie-place, not-removed, or-dead, path-some, path-has, path_inside}
use Rattle.model.proofs.ZombieCounts.{path-counted, zombies-without, zombies-after-collect}
use Rattle.model.proofs.Steps.{passed}
use Rattle.tree.specs.Layout.{tree_words, view, sum_in, Spare}
use Rattle.tree.specs.Changes.{Wrote, AdjustedAt, Adjusted, remnant_set, process_gone}
use Rattle.tree.specs.Counters.{Countable, Adjustable}
use Rattle.tree.specs.Kept.{count_in, Settled, Kept}
use Rattle.tree.specs.Calling.{Calling}
use Rattle.tree.specs.declared.sum.Counter.{Counter}
use Rattle.tree.specs.declared.sum.Counter.TheVariants.{Of, Children, Members, Zombies}
use Rattle.tree.proofs.KeptLaws.{count_small}
use Rattle.tree.proofs.CallLaws.{applied}
use Rattle.processes.specs.Zombie.{Ended, Uncounted, collected_tree}
use Rattle.tree.proofs.AnswerLaws.{accepted}

-- One zombie less in a group, by whether it was the last.
module _ (xs ys : List ℕ) (g : ℕ) (d : AdjustedAt xs ys Zombies g 0 1) where
  pub uncounted-some : sum_in ys Zombies g ≢ 0 → Uncounted xs ys g
  uncounted-some nz =
      record {
        long = d.long;
        tree =
            d.tree
            ∙ ap (λ (f : ℕ → Remnant). with_past (record { zombie = zombies (view xs); remains = f }) (view xs))
            (sym (ap (λ b. upd (remains (view xs)) g (kept_if (not b) (remains (view xs) g))) (ne_eqb (sum_in ys Zombies g) 0 nz) ∙ upd-id (remains (view xs)) g));
        here = d.here;
        elsewhere = d.elsewhere;
        other = d.other;
        spare = d.spare;
      }

  pub uncounted-last : sum_in ys Zombies g ≡ 0 → (zs : List ℕ) → Wrote ys zs (remnant_set (view ys) g no_remnant) → Uncounted xs zs g
  uncounted-last z zs w =
      let none : sum_in zs Zombies g ≡ 0 = w.sums Zombies g ∙ z in
      record {
        long = w.long;
        tree =
            w.tree ∙ ap (λ (t : Tree). remnant_set t g no_remnant) d.tree
            ∙ ap (λ b. remnant_set (view xs) g (kept_if (not b) (remains (view xs) g))) (sym (eq-eqb (sum_in zs Zombies g) 0 none));
        here = w.sums Zombies g ∙ d.here;
        elsewhere = λ a ne. w.sums Zombies a ∙ d.elsewhere a ne;
        other = λ c ne a. w.sums c a ∙ d.other c ne a;
        spare = λ s. w.spare (d.spare s);
      }

module _ (xs : List ℕ) (p : ℕ) where
  abbrev t : Tree
  t = view xs

  abbrev up : ℕ → ℕ
  up = path_parents (view xs)

  -- where it ended, and the other zombies
  abbrev home : ℕ
  home = group_of (zombies (view xs) p)

  abbrev others : ℕ → Place
  others = upd (zombies (view xs)) p nowhere

  -- what is left of a group in the end
  abbrev rest : ℕ → Remnant
  rest x = kept_if (on_path_in (path_parents (view xs)) (upd (zombies (view xs)) p nowhere) x) (remains (view xs) x)

  -- In the loop: the groups from `here` up are as they were, and those of the path below it are as they will be.
  pub record Passing (ys : List ℕ) (here : ℕ) : Type 0 where
    pub long : length ys ≡ tree_words
    pub tree : view ys ≡ with_past (record { zombie = zombies (view xs); remains = remains (view ys) }) (view xs)
    pub on : inside up here home ≡ true
    pub left : (x : ℕ) → inside up x here ≡ true → remains (view ys) x ≡ remains (view xs) x
    pub done : (x : ℕ) → inside up x here ≡ false → remains (view ys) x ≡ rest x
    pub sum_left : (a : ℕ) → inside up a here ≡ true → sum_in ys Zombies a ≡ count_in (view xs) Zombies a
    pub sum_done : (a : ℕ) → inside up a here ≡ false → sum_in ys Zombies a ≡ standing up others a
    pub other : (c : Counter) → c ≢ Zombies → (a : ℕ) → sum_in ys c a ≡ sum_in xs c a
    pub spare : Spare xs → Spare ys

  module _ (k : Ended xs p) where
    w : WellFormed (view xs)
    w = k.kept.formed

    paths : Sound (there (view xs)) (path_parents (view xs)) (path_depths (view xs))
    paths = w.past.paths

    ended : zombies (view xs) p ≡ at home
    ended = zombie-place (zombies (view xs) p) k.zombie

    home-there : there (view xs) home ≡ true
    home-there = w.past.ended.group p home ended

    pub zombie-low : p < processes
    zombie-low = zombie-range (view xs) w p k.zombie

    kept-none : (b : Bool) → kept_if b no_remnant ≡ no_remnant
    kept-none true = refl
    kept-none false = refl

    -- off its path nothing changes: another zombie needs what is left there
    rest-elsewhere : (x : ℕ) → inside up x home ≡ false → rest x ≡ remains t x
    rest-elsewhere x o =
        split (is_removed (remains t x))
        (λ r. ap (λ b. kept_if b (remains t x))
        (path-some up (zombies t) x (w.past.needed x r)
        (λ q h l e i. path-has up others x q h l
        (upd_other (zombies t) p nowhere q
        (λ d. clash (inside up x home) (subst (λ y. inside up x y ≡ true) (ap group_of (sym e ∙ ap (zombies t) d)) i) o)
        ∙ e) i)))
        (λ n. ap (kept_if (on_path_in up others x)) (not-removed (remains t x) n) ∙ kept-none (on_path_in up others x) ∙ sym (not-removed (remains t x) n))

    count-elsewhere : (a : ℕ) → inside up a home ≡ false → standing up others a ≡ count_in t Zombies a
    count-elsewhere a o = omega (arith, zombies-without t w p k.zombie a, weigh-no (inside up a home) 1 o)

    count-on : (a : ℕ) → inside up a home ≡ true → standing up others a + 1 ≡ count_in t Zombies a
    count-on a i = omega (arith, zombies-without t w p k.zombie a, weigh-yes (inside up a home) 1 i)

    pub passing-start : (here : ℕ) → here ≡ home → Passing xs here
    passing-start here e =
        rw e
        (record {
          long = k.kept.long;
          tree = refl;
          on = inside-self paths home home-there;
          left = λ x _. refl;
          done = λ x o. sym (rest-elsewhere x o);
          sum_left = λ a _. k.kept.sums Zombies a;
          sum_done = λ a o. k.kept.sums Zombies a ∙ sym (count-elsewhere a o);
          other = λ c _ a. refl;
          spare = λ s. s;
        })

    module _ (ys : List ℕ) (here : ℕ) (i : Passing ys here) where
      here-there : there t here ≡ true
      here-there = inside-live paths here home home-there i.on

      pub passing-low : here < groups
      passing-low = paths.range here here-there

      live-still : (x : ℕ) → lives (view ys) x ≡ lives t x
      live-still x = ap (λ (u : Tree). lives u x) i.tree

      self : inside up here here ≡ true
      self = inside-self paths here here-there

      pub passing-countable : Countable ys Zombies here 0 1
      passing-countable =
          record {
            long = i.long;
            low = passing-low;
            room = omega (arith, i.sum_left here self, count_small t w Zombies here);
            enough = omega (arith, i.sum_left here self, count-on here i.on);
          }

      -- a removed group, and the one above it
      module _ (dead : lives (view ys) here ≡ false) (above : ℕ) (e : above ≡ remnant_parent (remains (view ys) here)) where
        was-dead : lives t here ≡ false
        was-dead = sym (live-still here) ∙ dead

        inner : here ≢ 0
        inner z = clash (lives t here) (rw z w.sound.root) was-dead

        above-is : above ≡ up here
        above-is = e ∙ ap remnant_parent (i.left here self) ∙ sym (or-dead (lives t) (remains t) here remnant_parent (parents t) was-dead)

        above-there : there t (up here) ≡ true
        above-there = paths.above here here-there inner

        pub passing-less : path_depths t above < path_depths t here
        passing-less = rw above-is (omega (arith, paths.deeper here here-there inner))

        -- what is above is not the group itself, and what is not above is below or the group itself
        not-here : (x : ℕ) → inside up x (up here) ≡ true → x ≢ here
        not-here x j d = absurd (omega (arith, inside-level paths here (up here) above-there (rw d at j), paths.deeper here here-there inner))

        below : (x : ℕ) → inside up x (up here) ≡ false → x ≢ here → inside up x here ≡ false
        below x o ne =
            split (inside up x here)
            (λ y. ⊎_elim (λ d. absurd (ne d)) (λ j. clash (inside up x (up here)) j o) (inside-cases paths x here here-there inner y))
            (λ n. n)

        pub passing-next : (zs : List ℕ) → Uncounted ys zs here → Passing zs above
        passing-next zs u =
            rw above-is
            (record {
              long = u.long;
              tree = tree-after;
              on = inside-trans paths (up here) here home home-there i.on
                  (inside-up paths (up here) here here-there inner (inside-self paths (up here) above-there));
              left = λ x j. left_other x (not-here x j) ∙ i.left x (inside-up paths x here here-there inner j);
              done = λ x o. whether x here (λ d. rw d left_here) (λ ne. left_other x ne ∙ i.done x (below x o ne));
              sum_left = λ a j. u.elsewhere a (not-here a j) ∙ i.sum_left a (inside-up paths a here here-there inner j);
              sum_done = λ a o. whether a here (λ d. rw d sum-after) (λ ne. u.elsewhere a ne ∙ i.sum_done a (below a o ne));
              other = λ c ne a. u.other c ne a ∙ i.other c ne a;
              spare = λ s. u.spare (i.spare s);
            })
          where
            left_after : (x : ℕ) → remains (view zs) x ≡ upd (remains (view ys)) here (kept_if (not (eqb (sum_in zs Zombies here) 0)) (remains (view ys) here)) x
            left_after x = ap (λ (v : Tree). remains v x) u.tree

            left_other : (x : ℕ) → x ≢ here → remains (view zs) x ≡ remains (view ys) x
            left_other x ne = left_after x ∙ upd_other (remains (view ys)) here _ x ne

            sum-after : sum_in zs Zombies here ≡ standing up others here
            sum-after = omega (arith, u.here, i.sum_left here self, count-on here i.on)

            left_here : remains (view zs) here ≡ rest here
            left_here =
                left_after here ∙ upd_same (remains (view ys)) here _
                ∙ (λ j. kept_if (not (eqb (sum-after j) 0)) (i.left here self j))
                ∙ ap (λ b. kept_if b (remains t here)) (path-counted up others here)

            tree-after : view zs ≡ with_past (record { zombie = zombies t; remains = remains (view zs) }) t
            tree-after =
                u.tree
                ∙ ap (λ (v : Tree). with_past (record { zombie = zombies v; remains = upd (remains (view ys)) here (kept_if (not (eqb (sum_in zs Zombies here) 0)) (remains (view ys) here)) }) v) i.tree
                ∙ ap (λ (f : ℕ → Remnant). with_past (record { zombie = zombies t; remains = f }) t) (sym (fun_ext left_after))

      -- a live group: the rest of the path is its chain
      module _ (alive : lives (view ys) here ≡ true) where
        was-live : lives t here ≡ true
        was-live = sym (live-still here) ∙ alive

        chain-still : (a : ℕ) → inside (parents (view ys)) a here ≡ inside up a here
        chain-still a = ap (λ (u : Tree). inside (parents u) a here) i.tree ∙ sym (path_inside t w a here was-live)

        pub passing-adjustable : (m : ℕ) → m ≤ 1 → Adjustable ys Zombies here 0 m
        passing-adjustable m few =
            record {
              long = i.long;
              sound = subst (λ (u : Tree). Sound (lives u) (parents u) (depths u)) (sym i.tree) w.sound;
              live = alive;
              room = λ a j. omega (arith, i.sum_left a (sym (chain-still a) ∙ j), count_small t w Zombies a);
              enough = λ a j.
                  let o : inside up a here ≡ true = sym (chain-still a) ∙ j in
                  omega (arith, i.sum_left a o, count-on a (inside-trans paths a here home home-there i.on o));
            }

        -- nothing is left of a live group, nor was
        left-live : (x : ℕ) → inside up x here ≡ true → remains (view ys) x ≡ rest x
        left-live x j =
            let l : lives t x ≡ true = inside-live w.sound x here was-live (sym (path_inside t w x here was-live) ∙ j) in
            let none : remains t x ≡ no_remnant = w.past.group x l in
            i.left x j ∙ none ∙ sym (ap (kept_if (on_path_in up others x)) none ∙ kept-none (on_path_in up others x))

        module _ (zs ws : List ℕ) (d : Adjusted ys zs Zombies here 0 1) (v : Wrote zs ws (process_gone (view zs) p)) where
          blank : t.process p ≡ no_process
          blank = w.blank.free_process p (split (is_live (places t p)) (λ l. clash (is_zombie (zombies t p)) k.zombie (ap is_zombie (w.past.process p l))) (λ n. n))

          tree-after : view ws ≡ collected_tree t p
          tree-after =
              v.tree
              ∙ ap (λ (u : Tree). process_gone u p) (d.tree ∙ i.tree)
              ∙ (λ j.
              record {
                machine = t.machine;
                group = t.group;
                process = (ap (upd t.process p) (sym blank) ∙ upd-id t.process p) j;
                past = record { zombie = others; remains = λ x. split-left x j };
              })
            where
              split-left : (x : ℕ) → remains (view ys) x ≡ rest x
              split-left x = split (inside up x here) (left-live x) (i.done x)

          zombies-now : (a : ℕ) → sum_in zs Zombies a ≡ standing up others a
          zombies-now a =
              split (inside up a here)
              (λ j. omega (
                arith,
                d.sums a ∙ ap (λ b. pick b (sum_in ys Zombies a + 0 - 1) (sum_in ys Zombies a)) (chain-still a ∙ j),
                i.sum_left a j,
                count-on a (inside-trans paths a here home home-there i.on j),
              ))
              (λ o. d.sums a ∙ ap (λ b. pick b (sum_in ys Zombies a + 0 - 1) (sum_in ys Zombies a)) (chain-still a ∙ o) ∙ i.sum_done a o)

          pub forgotten : Settled ws (collected_tree t p)
          forgotten =
              record {
                long = v.long;
                tree = tree-after;
                sums = λ c a. v.sums c a ∙ sums-now c a;
                spare = v.spare (d.spare (i.spare k.kept.spare));
              }
            where
              stays : (c : Counter) (a : ℕ) → c ≢ Zombies → sum_in zs c a ≡ count_in t c a
              stays c a ne = d.other c ne a ∙ i.other c ne a ∙ k.kept.sums c a

              sums-now : (c : Counter) (a : ℕ) → sum_in zs c a ≡ count_in (collected_tree t p) c a
              sums-now (Of r) a = stays (Of r) a (λ e. cc)
              sums-now Children a = stays Children a (λ e. cc)
              sums-now Members a = stays Members a (λ e. cc)
              sums-now Zombies a = zombies-now a ∙ sym (zombies-after-collect t w p k.zombie a)

-- A collect that the check lets through.
module _ (xs : List ℕ) (k : Kept xs) (p : ℕ) (v : ◌≡◌ {A = Answer} (Ok tt) (verdict (view xs) (collect p))) where
  pub collect-ended : Ended xs p
  unfolding checks Pass
  collect-ended = record { kept = k; zombie = (passed (view xs) (collect p) (sym v)).0 }

  pub collect-done : (ys : List ℕ) → Settled ys (collected_tree (view xs) p) → Calling xs ys (collect p) (verdict (view xs) (collect p)) (Ok tt)
  unfolding effect
  collect-done ys d = accepted xs (collect p) k ys v (applied xs k (collect p) (sym v) ys d)
