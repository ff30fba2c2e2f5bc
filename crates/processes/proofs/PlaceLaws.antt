-- A process's place, the running sums above it and the members of its group, changed together: the sums are counted anew above one group
-- or two, the members there, then the place is stored, and every count is what it counts. Who comes and who goes; who moves is in
-- MoveLaws.antt. Assumes nothing.
use Rattle.std.specs.Prelude.{Ok}
use Prim.Native.Nat.{ℕ, ◌+◌, ◌≤◌, ◌<◌}
use native.Mathlib.Omega.{arith}
use mathlib.Core.Bool.{true, false}
use mathlib.Core.List.{List}
use mathlib.Core.Logic.{◌≢◌}
use mathlib.Core.Path.{◌≡◌, refl, ap, sym, ◌∙◌, subst}
use lib.Dec.{eqb}
use lib.ListN.{length}
use borrow.Author.Tests.{eq-eqb}
use Rattle.model.specs.Functions.{upd, weigh}
use Rattle.model.specs.Sizes.{groups, processes}
use Rattle.model.specs.Tree.{Tree, Place, nowhere, at, Process, no_process, group_of, is_live, cores, lives, places, parents, depths, zombies, at_process}
use Rattle.model.specs.Hierarchy.{inside, headcount, standing, population}
use Rattle.model.specs.Zombies.{path_parents}
use Rattle.model.specs.Rules.{stands_in, process_group}
use Rattle.model.specs.WellFormed.{Sound}
use Rattle.model.specs.Calls.{Call, verdict}
use Rattle.model.specs.Effects.{effect}
use Rattle.model.specs.declared.Resource.TheVariants.{Pages, Processes}
use Rattle.model.proofs.FunctionLaws.{upd-map, weigh-yes, weigh-no, weigh-zero}
use Rattle.model.proofs.AmountLaws.{place-live, place-free, standing-change, population-change}
use Rattle.model.proofs.ZombieLaws.{untaken-process, path_inside}
use Rattle.model.proofs.ProcessLaws.{process-range}
use Rattle.tree.specs.Layout.{tree_words, view, sum_in, Spare}
use Rattle.tree.specs.Changes.{ProcessRow, UnendedRow, Wrote, AdjustedAt, Adjusted, ended_set, process_ended}
use Rattle.tree.specs.Counters.{Countable, Adjustable}
use Rattle.tree.specs.Kept.{members, count_in, Settled, Kept}
use Rattle.tree.specs.Calling.{Applied}
use Rattle.tree.specs.declared.sum.Counter.{Counter}
use Rattle.tree.specs.declared.sum.Counter.TheVariants.{Of, Children, Members, Zombies}
use Rattle.tree.proofs.AdjustLaws.{sum-adjusted-at}
use Rattle.tree.proofs.CountLaws.{members-change, member-counted}
use Rattle.tree.proofs.KeptLaws.{kept_low, countable, adjustable}
use Rattle.tree.proofs.CallLaws.{applied-as}
use Rattle.tree.proofs.RoomCallLaws.{sum-after-adjust}
use Rattle.processes.specs.Place.{Vacant, Standing, Seated, ended_tree}

-- what a process in that place adds to the number inside a
abbrev pub counted : Tree → Place → ℕ → ℕ
counted t l a = weigh (inside (parents t) a (group_of l)) (headcount l)

-- a live process is counted in every group that it is inside
counted-within : (t : Tree) (p a : ℕ) → p < processes → is_live (places t p) ≡ true → inside (parents t) a (process_group t p) ≡ true
    → 1 ≤ population (cores t) (places t) a
counted-within t p a low l i =
    let e : places t p ≡ at (process_group t p) = place-live (places t p) l in
    let h : counted t (places t p) a ≡ 1 = weigh-yes _ _ i ∙ ap headcount e in
    omega (arith, population-change (cores t) (places t) p nowhere a low, weigh-zero (inside (parents t) a 0))

-- the sums of processes after one left `from` and came to `to`; all else is as it was
pub record Recounted (xs ys : List ℕ) (from to : Place) : Type 0 where
  pub long : length ys ≡ tree_words
  pub tree : view ys ≡ view xs
  pub processes : (a : ℕ) → sum_in ys (Of Processes) a + counted (view xs) from a ≡ sum_in xs (Of Processes) a + counted (view xs) to a
  pub other : (c : Counter) → c ≢ Of Processes → (a : ℕ) → sum_in ys c a ≡ sum_in xs c a
  pub spare : Spare xs → Spare ys

module _ (xs ys : List ℕ) (g : ℕ) where
  recounted-more : Adjusted xs ys (Of Processes) g 1 0 → Recounted xs ys nowhere (at g)
  recounted-more d =
      record {
        long = d.long;
        tree = d.tree;
        processes = λ a.
            omega (
              arith,
              sum-after-adjust xs ys g (Of Processes) 1 0 d (λ b _. omega arith) a,
              weigh-zero (inside (parents (view xs)) a g),
              weigh-zero (inside (parents (view xs)) a 0),
            );
        other = d.other;
        spare = d.spare;
      }

  recounted-less : ((a : ℕ) → inside (parents (view xs)) a g ≡ true → 1 ≤ sum_in xs (Of Processes) a) → Adjusted xs ys (Of Processes) g 0 1
      → Recounted xs ys (at g) nowhere
  recounted-less some d =
      record {
        long = d.long;
        tree = d.tree;
        processes = λ a.
            omega (
              arith,
              sum-after-adjust xs ys g (Of Processes) 0 1 d (λ b i. omega (arith, some b i)) a,
              weigh-zero (inside (parents (view xs)) a g),
              weigh-zero (inside (parents (view xs)) a 0),
            );
        other = d.other;
        spare = d.spare;
      }

-- the members after one left `from` and came to `to`; all else is as it was
pub record Mustered (xs ys : List ℕ) (from to : Place) : Type 0 where
  pub long : length ys ≡ tree_words
  pub tree : view ys ≡ view xs
  pub members : (a : ℕ) → sum_in ys Members a + weigh (stands_in from a) 1 ≡ sum_in xs Members a + weigh (stands_in to a) 1
  pub other : (c : Counter) → c ≢ Members → (a : ℕ) → sum_in ys c a ≡ sum_in xs c a
  pub spare : Spare xs → Spare ys

-- one more in g
pub mustered-more : (xs ys : List ℕ) (g : ℕ) → AdjustedAt xs ys Members g 1 0 → Mustered xs ys nowhere (at g)
mustered-more xs ys g d =
    record {
      long = d.long;
      tree = d.tree;
      members = λ a. omega (arith, sum-adjusted-at xs ys Members g 1 0 d (omega arith) a, weigh-zero (eqb g a), weigh-no false 1 refl);
      other = d.other;
      spare = d.spare;
    }

-- and one less
pub mustered-less : (xs ys : List ℕ) (g : ℕ) → Countable xs Members g 0 1 → AdjustedAt xs ys Members g 0 1 → Mustered xs ys (at g) nowhere
mustered-less xs ys g q d =
    record {
      long = d.long;
      tree = d.tree;
      members = λ a. omega (arith, sum-adjusted-at xs ys Members g 0 1 d q.enough a, weigh-zero (eqb g a), weigh-no false 1 refl);
      other = d.other;
      spare = d.spare;
    }

pub mustered-then : {xs ys zs : List ℕ} {from to : Place} → Mustered xs ys from nowhere → Mustered ys zs nowhere to → Mustered xs zs from to
mustered-then d e =
    record {
      long = e.long;
      tree = e.tree ∙ d.tree;
      members = λ a. omega (arith, d.members a, e.members a);
      other = λ c ne a. e.other c ne a ∙ d.other c ne a;
      spare = λ s. e.spare (d.spare s);
    }

-- what can be adjusted along a chain still can
pub still-adjustable : {xs ys : List ℕ} {c : Counter} {g n m : ℕ} → Adjustable xs c g n m → length ys ≡ tree_words → view ys ≡ view xs
    → ((a : ℕ) → sum_in ys c a ≡ sum_in xs c a) → Adjustable ys c g n m
still-adjustable {g = g} q l e f =
    record {
      long = l;
      sound = subst (λ (t : Tree). Sound (lives t) (parents t) (depths t)) (sym e) q.sound;
      live = subst (λ (t : Tree). lives t g ≡ true) (sym e) q.live;
      room = λ a i. rw (f a) (q.room a (subst (λ (t : Tree). inside (parents t) a g ≡ true) e i));
      enough = λ a i. rw (f a) (q.enough a (subst (λ (t : Tree). inside (parents t) a g ≡ true) e i));
    }

-- what can be counted there still can
pub still-countable : {xs ys : List ℕ} {g n m : ℕ} → Countable xs Members g n m → length ys ≡ tree_words → sum_in ys Members g ≡ sum_in xs Members g
    → Countable ys Members g n m
still-countable q l e = record { long = l; low = q.low; room = rw e q.room; enough = rw e q.enough }

-- what counts live processes counts them where p stands then
module _ (xs ys us : List ℕ) (k : Kept xs) (p : ℕ) (low : p < processes) (v : Process) (d : Recounted xs ys (places (view xs) p) v.place)
    (m : Mustered ys us (places (view xs) p) v.place) where
  -- counts that are not of processes are as before, and count nothing of a place
  stays : (c : Counter) → c ≢ Of Processes → c ≢ Members → (a : ℕ) → sum_in us c a ≡ count_in (view xs) c a
  stays c ne nm a = m.other c nm a ∙ d.other c ne a ∙ k.sums c a

  -- the places after it
  after : upd (places (view xs)) p v.place ≡ places (at_process (view xs) p v)
  after = sym (upd-map (λ (x : Process). x.place) (view xs).process p v)

  pub counted-after : (c : Counter) (a : ℕ) → sum_in us c a ≡ count_in (at_process (view xs) p v) c a
  counted-after (Of Pages) a = stays (Of Pages) (λ e. cc) (λ e. cc) a
  counted-after Children a = stays Children (λ e. cc) (λ e. cc) a
  counted-after Zombies a = stays Zombies (λ e. cc) (λ e. cc) a
  counted-after (Of Processes) a =
      let u : population (cores (view xs)) (upd (places (view xs)) p v.place) a ≡ sum_in ys (Of Processes) a =
      omega (
        arith,
        population-change (cores (view xs)) (places (view xs)) p v.place a low,
        d.processes a,
        k.sums (Of Processes) a,
      ) in
      m.other (Of Processes) (λ e. cc) a ∙ sym u ∙ ap (λ (pl : ℕ → Place). population (cores (view xs)) pl a) after
  counted-after Members a =
      let u : members (upd (places (view xs)) p v.place) a ≡ sum_in us Members a =
      omega (
        arith,
        members-change (places (view xs)) p v.place a low,
        m.members a,
        d.other Members (λ e. cc) a,
        k.sums Members a,
      ) in
      sym u ∙ ap (λ (pl : ℕ → Place). members pl a) after

  -- then the place is stored
  pub seated : (zs : List ℕ) → Wrote us zs (at_process (view us) p v) → Seated xs zs p v
  seated zs w =
      record {
        long = w.long;
        tree = w.tree ∙ ap (λ (t : Tree). at_process t p v) (m.tree ∙ d.tree);
        sums = λ c a. w.sums c a ∙ counted-after c a;
        spare = w.spare (m.spare (d.spare k.spare));
      }

-- A birth.
module _ (xs : List ℕ) (p g : ℕ) (h : Vacant xs p g) where
  pub enter-adjustable : (n : ℕ) → n ≤ 1 → Adjustable xs (Of Processes) g n 0
  enter-adjustable n few = adjustable xs h.home.kept g h.home.live (Of Processes) n 0 (omega arith) (λ a i. omega arith)

  pub enter-countable : (ys : List ℕ) → Adjusted xs ys (Of Processes) g 1 0 → (n : ℕ) → n ≤ 1 → Countable ys Members g n 0
  enter-countable ys d n few =
      still-countable (countable xs h.home.kept g h.home.live Members n 0 (omega arith) (omega arith)) d.long
      (d.other Members (λ e. cc) g)

  -- neither live nor a zombie
  was_free : (is_live (places (view xs) p) ≡ false) × (zombies (view xs) p ≡ nowhere)
  was_free = untaken-process (view xs) p h.free

  -- number and group have a row still
  pub enter-rows : (ys us : List ℕ) → Adjusted xs ys (Of Processes) g 1 0 → AdjustedAt ys us Members g 1 0 → UnendedRow us p × (g < groups)
  enter-rows ys us d j = (
    record {
      row = record { long = j.long; low = h.low };
      unended = ap (λ (t : Tree). zombies t p) (j.tree ∙ d.tree) ∙ was_free.1;
    },
    kept_low h.home,
  )

  pub entered : (ys us zs : List ℕ) (user : ℕ) → Adjusted xs ys (Of Processes) g 1 0 → AdjustedAt ys us Members g 1 0
      → Wrote us zs (at_process (view us) p (record { place = at g; user = user })) → Seated xs zs p (record { place = at g; user = user })
  entered ys us zs user d j w =
      let was : places (view xs) p ≡ nowhere = place-free (places (view xs) p) was_free.0 in
      seated xs ys us h.home.kept p h.low (record { place = at g; user = user })
      (rw was (recounted-more xs ys g d)) (rw was (mustered-more ys us g j)) zs w

-- An end.
module _ (xs : List ℕ) (p : ℕ) (h : Standing xs p) where
  pub standing-low : p < processes
  standing-low = process-range (view xs) h.home.kept.formed p h.live

  -- it is counted along its chain
  pub standing-inside : (a : ℕ) → inside (parents (view xs)) a (process_group (view xs) p) ≡ true → 1 ≤ population (cores (view xs)) (places (view xs)) a
  standing-inside a i = counted-within (view xs) p a standing-low h.live i

  pub leave-adjustable : (g m : ℕ) → g ≡ process_group (view xs) p → m ≤ 1 → Adjustable xs (Of Processes) g 0 m
  leave-adjustable g m e few =
      rw e
      (adjustable xs h.home.kept (process_group (view xs) p) h.home.live (Of Processes) 0 m (omega arith)
      (λ a i. omega (arith, standing-inside a i)))

  -- without the process
  left_out : (ys : List ℕ) (g : ℕ) → g ≡ process_group (view xs) p → Adjusted xs ys (Of Processes) g 0 1
      → Recounted xs ys (at (process_group (view xs) p)) nowhere
  left_out ys g e d =
      let o = h.home in
      recounted-less xs ys (process_group (view xs) p)
      (λ a i. omega (
        arith,
        standing-inside a i,
        o.kept.sums (Of Processes) a,
      ))
      (rw e at d)

  -- and in the group where it stands
  pub member-standing : (g m : ℕ) → g ≡ process_group (view xs) p → m ≤ 1 → Countable xs Members g 0 m
  member-standing g m e few =
      let here : ℕ = process_group (view xs) p in
      let stands : stands_in (places (view xs) p) here ≡ true =
      ap (λ (l : Place). stands_in l here) (place-live (places (view xs) p) h.live) ∙ eq-eqb here here refl in
      rw e
      (countable xs h.home.kept here h.home.live Members 0 m (omega arith)
      (omega (arith, member-counted (places (view xs)) p here standing-low stands)))

  pub leave-countable : (ys : List ℕ) (g m : ℕ) → g ≡ process_group (view xs) p → Adjusted xs ys (Of Processes) g 0 1 → m ≤ 1
      → Countable ys Members g 0 m
  leave-countable ys g m e d few = still-countable (member-standing g m e few) d.long (d.other Members (λ e. cc) g)

  -- and a zombie more along its chain, where the live one was taken off
  module _ (ys us : List ℕ) (g : ℕ) (e : g ≡ process_group (view xs) p) (d : Adjusted xs ys (Of Processes) g 0 1) (j : AdjustedAt ys us Members g 0 1) where
    was : places (view xs) p ≡ at g
    was = place-live (places (view xs) p) h.live ∙ ap at (sym e)

    home : lives (view xs) g ≡ true
    home = rw e h.home.live

    tree-still : view us ≡ view xs
    tree-still = j.tree ∙ d.tree

    zombies-still : (a : ℕ) → sum_in us Zombies a ≡ sum_in xs Zombies a
    zombies-still a = j.other Zombies (λ e. cc) a ∙ d.other Zombies (λ e. cc) a

    pub ended-adjustable : (n : ℕ) → n ≤ 1 → Adjustable us Zombies g n 0
    ended-adjustable n few =
        still-adjustable (adjustable xs h.home.kept g home Zombies n 0 (omega arith) (λ a i. omega arith)) j.long tree-still zombies-still

    -- number and group have a row still
    pub ended-rows : (vs : List ℕ) → Adjusted us vs Zombies g 1 0 → ProcessRow vs p × (g < groups)
    ended-rows vs z = (record { long = z.long; low = standing-low }, h.home.kept.formed.sound.range g home)

    module _ (vs zs : List ℕ) (z : Adjusted us vs Zombies g 1 0) (w : Wrote vs zs (process_ended (view vs) p g)) where
      zombies-more : (a : ℕ) → sum_in vs Zombies a ≡ standing (path_parents (view xs)) (upd (zombies (view xs)) p (places (view xs) p)) a
      zombies-more a =
          let wf = h.home.kept.formed in
          let free : zombies (view xs) p ≡ nowhere = wf.past.process p h.live in
          omega (
            arith,
            sum-after-adjust us vs g Zombies 1 0 z (λ b i. omega arith) a,
            weigh-zero (inside (parents (view us)) a g),
            ap (λ (u : Tree). weigh (inside (parents u) a g) 1) tree-still,
            zombies-still a,
            h.home.kept.sums Zombies a,
            standing-change (path_parents (view xs)) (zombies (view xs)) p (places (view xs) p) a standing-low,
            ap (λ (l : Place). weigh (inside (path_parents (view xs)) a (group_of l)) (headcount l)) free,
            weigh-zero (inside (path_parents (view xs)) a 0),
            ap (λ (l : Place). weigh (inside (path_parents (view xs)) a (group_of l)) (headcount l)) was,
            ap (λ b. weigh b 1) (path_inside (view xs) wf a g home),
          )

      pub exited : Settled zs (ended_tree (view xs) p)
      exited =
          record {
            long = w.long;
            tree =
                w.tree ∙ ap (λ (u : Tree). process_ended u p g) (z.tree ∙ tree-still)
                ∙ ap (λ (l : Place). ended_set (at_process (view xs) p no_process) p l) (sym was);
            sums = λ c a. w.sums c a ∙ sums-after c a;
            spare = w.spare (z.spare (j.spare (d.spare h.home.kept.spare)));
          }
        where
          live-after : (c : Counter) (a : ℕ) → c ≢ Zombies → sum_in vs c a ≡ count_in (at_process (view xs) p no_process) c a
          live-after c a ne =
              z.other c ne a
              ∙ counted-after xs ys us h.home.kept p standing-low no_process
              (rw (place-live (places (view xs) p) h.live) (left_out ys g e d))
              (rw was (mustered-less ys us g (leave-countable ys g 1 e d (omega arith)) j)) c a

          sums-after : (c : Counter) (a : ℕ) → sum_in vs c a ≡ count_in (ended_tree (view xs) p) c a
          sums-after (Of r) a = live-after (Of r) a (λ e. cc)
          sums-after Children a = live-after Children a (λ e. cc)
          sums-after Members a = live-after Members a (λ e. cc)
          sums-after Zombies a = zombies-more a

-- An accepted call whose effect is such a change.
pub applied-seated : (xs ys : List ℕ) (c : Call) (p : ℕ) (v : Process) → Kept xs → verdict (view xs) c ≡ (Ok tt) → Seated xs ys p v
    → effect (view xs) c ≡ at_process (view xs) p v → Applied xs ys c
applied-seated xs ys c p v k e d f =
    applied-as xs k c e ys (at_process (view xs) p v) f d
