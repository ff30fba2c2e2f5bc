-- The reset of one controller in a group, of a child, of the children passed so far, and of all after the set is written.
-- Assumes nothing.
use Prim.Native.Nat.{ℕ, ◌+◌, ◌≤◌}
use native.Mathlib.Omega.{arith}
use mathlib.Core.Bool.{Bool, true, false}
use mathlib.Core.List.{List, []}
use mathlib.Core.Logic.{◌≢◌}
use mathlib.Core.Path.{◌≡◌, refl, ap, sym, ◌∙◌, fun_ext, subst}
use lib.Dec.{ltb}
use lib.ListN.{length}
use borrow.Author.Tests.{ltb-true, ltb-false, lt-ltb, le-ltb}
use Rattle.model.specs.Functions.{upd, pick}
use Rattle.model.specs.Sizes.{groups}
use Rattle.model.specs.Tree.{Tree, Core, Group, Controls, default_cpu, with_amounts, with_limit, with_set, with_settings, settings_of, cores, lives, at_group}
use Rattle.model.specs.Hierarchy.{child_of}
use Rattle.model.specs.Control.{any_controller, at_controller}
use Rattle.model.specs.Settings.{reset}
use Rattle.model.specs.Effects.{reset_child, controlled}
use Rattle.model.specs.declared.Controller.{Controller}
use Rattle.model.specs.declared.Controller.TheVariants.{Cpu, Io, Memory, Pids}
use Rattle.model.specs.declared.Resource.{Resource}
use Rattle.model.specs.declared.Resource.TheVariants.{Pages, Processes}
use Rattle.model.specs.declared.Limit.TheVariants.{NoLimit}
use Rattle.model.proofs.FunctionLaws.{split, whether, upd_same, upd_other, upd-keeps}
use Rattle.model.proofs.ControlLaws.{any-controller-none}
use Rattle.model.proofs.ControlPreservation.{child-live, reset-child, reset-other}
use Rattle.devices.specs.Slots.{table_of, Packed, no_slots}
use Rattle.devices.specs.declared.slot.Slot.{Slot}
use Rattle.devices.proofs.TableLaws.{packed_none}
use Rattle.tree.specs.Layout.{tree_words, controls_of, view}
use Rattle.tree.specs.Changes.{Wrote, controls_set}
use Rattle.tree.specs.Kept.{Kept}
use Rattle.control.specs.Stores.{with_groups, changed_at, cpu_reset, io_reset, limit_reset, Ranged, children_reset}
use Rattle.model.specs.declared.PerController.{PerController}
use Rattle.control.proofs.WroteLaws.{wrote_as, same-groups, wrote-group-as, wrote_none, wrote_then}

-- ---- the settings of one controller

module _ (v : Group) where
  pub limit-kept : (r : Resource) → v ≡ limit_reset r false v
  limit-kept r = ap (λ l. with_settings (with_amounts l (settings_of v)) v) (fun_ext (same r))
    where
      same : (r q : Resource) → v.core.limit q ≡ with_limit r (v.core.limit r) v.core.limit q
      same Pages Pages = refl
      same Pages Processes = refl
      same Processes Pages = refl
      same Processes Processes = refl

-- no device in a table of four free slots
module _ {s : List Slot} (e : s ≡ no_slots) where
  pub no-slots-table : table_of s ≡ []
  unfolding table_of
  no-slots-table = rw e

  pub no-slots-packed : Packed s
  no-slots-packed = subst Packed (sym e) packed_none

-- ---- a child

reset-each : (gone : PerController Bool) (v : Group)
    → limit_reset Processes gone.pids (limit_reset Pages gone.memory (io_reset gone.io (cpu_reset gone.cpu v)))
    ≡ with_settings (reset (at_controller gone) (settings_of v)) v
unfolding reset
reset-each gone v =
    ap (λ l. with_settings (record { limit = l; cpu = pick gone.cpu default_cpu v.cpu; io = pick gone.io [] v.io }) v) (fun_ext go)
  where
    go : (r : Resource)
        → with_limit Processes (pick gone.pids NoLimit (v.core.limit Processes))
        (with_limit Pages (pick gone.memory NoLimit (v.core.limit Pages)) v.core.limit) r
        ≡ (reset (at_controller gone) (settings_of v)).limit r
    go Pages = refl
    go Processes = refl

module _ (xs : List ℕ) (g k : ℕ) (gone : PerController Bool) where
  pub wrote-no-child : length xs ≡ tree_words → child_of g k (cores (view xs) k) ≡ false
      → Wrote xs xs (changed_at (view xs) k (reset_child (view xs) g (at_controller gone) k))
  wrote-no-child l n = wrote_none xs k l (sym (reset-other (view xs) g (at_controller gone) k ((view xs).group k) n))

  pub wrote-child : (as' bs cs ys : List ℕ) → child_of g k (cores (view xs) k) ≡ true
      → Wrote xs as' (changed_at (view xs) k (cpu_reset gone.cpu))
      → Wrote as' bs (changed_at (view as') k (io_reset gone.io))
      → Wrote bs cs (changed_at (view bs) k (limit_reset Pages gone.memory))
      → Wrote cs ys (changed_at (view cs) k (limit_reset Processes gone.pids))
      → Wrote xs ys (changed_at (view xs) k (reset_child (view xs) g (at_controller gone) k))
  wrote-child as' bs cs ys y p i q s =
      wrote-group-as xs k (reset-each gone ((view xs).group k) ∙ sym (reset-child (view xs) g (at_controller gone) k ((view xs).group k) y))
      (wrote_then xs k cs ys _ (limit_reset Processes gone.pids)
      (wrote_then xs k bs cs _ (limit_reset Pages gone.memory) (wrote_then xs k as' bs _ (io_reset gone.io) p i) q) s)

-- ---- the children among the first n numbers

abbrev pub reset_below : Tree → ℕ → Controls → ℕ → Tree
reset_below t g gone n = with_groups t (λ k. pick (ltb k n) (reset_child t g gone k (t.group k)) (t.group k))

below_next : (j k : ℕ) → j ≢ k → ltb j k ≡ ltb j (k + 1)
below_next j k ne =
    split (ltb j k)
    (λ y. y ∙ sym (lt-ltb j (k + 1) (omega (arith, ltb-true j k y))))
    (λ n. n ∙ sym (le-ltb j (k + 1) (omega (arith, ltb-false j k n))))

-- what becomes of group k is decided by what is kept of it
abbrev reset_by : ℕ → Controls → ℕ → Core → Group → Group
reset_by g gone k c v = elim (child_of g k c) [ true ↦ with_settings (reset gone (settings_of v)) v | false ↦ v ]

module _ (xs : List ℕ) (g : ℕ) (gone : Controls) where
  abbrev after : ℕ → Group
  after k = reset_child (view xs) g gone k ((view xs).group k)

  -- group k where it is passed, and where it is not
  abbrev passed-if : ℕ → Bool → Group
  passed-if k b = pick b (after k) ((view xs).group k)

  pub reset-start : length xs ≡ tree_words → Wrote xs xs (reset_below (view xs) g gone 0)
  reset-start l =
      let same : (k : ℕ) → (view xs).group k ≡ passed-if k (ltb k 0) = (λ k. sym (ap (passed-if k) (le-ltb k 0 (omega arith)))) in
      record { long = l; tree = same-groups (view xs) same; sums = λ c h. refl; spare = λ s. s }

  pub reset-next : (ys zs : List ℕ) (k : ℕ) → Wrote xs ys (reset_below (view xs) g gone k)
      → Wrote ys zs (changed_at (view ys) k (reset_child (view ys) g gone k))
      → Wrote xs zs (reset_below (view xs) g gone (k + 1))
  reset-next ys zs k p q =
      record {
        long = q.long;
        tree =
            q.tree ∙ ap (λ (t : Tree). changed_at t k (reset_child t g gone k)) p.tree ∙ same-groups (view xs) one_more;
        sums = λ c h. q.sums c h ∙ p.sums c h;
        spare = λ s. q.spare (p.spare s);
      }
    where
      so_far : ℕ → Group
      so_far = (reset_below (view xs) g gone k).group

      -- k itself is as it was
      here : so_far k ≡ (view xs).group k
      here = ap (passed-if k) (le-ltb k k (omega arith))

      one_more : (j : ℕ) → upd so_far k (reset_by g gone k (so_far k).core (so_far k)) j ≡ passed-if j (ltb j (k + 1))
      one_more j =
          whether j k
          (λ d. rw d
          (upd_same so_far k _
          ∙ ap (λ (v : Group). reset_by g gone k v.core v) here
          ∙ sym (ap (passed-if k) (lt-ltb k (k + 1) (omega arith)))))
          (λ ne. upd_other so_far k _ j ne ∙ ap (passed-if j) (below_next j k ne))

  -- a live group has a number in range, so all children are passed
  pub reset-end : Ranged xs → (ys : List ℕ) (n : ℕ) → groups ≤ n → Wrote xs ys (reset_below (view xs) g gone n)
      → Wrote xs ys (children_reset (view xs) g gone)
  reset-end q ys n h w =
      wrote_as
      (same-groups (view xs)
      (λ k. split (ltb k n)
      (λ y. ap (passed-if k) y)
      (λ o. ap (passed-if k) o ∙ sym (reset-other (view xs) g gone k ((view xs).group k) (no-child k (ltb-false k n o))))))
      w
    where
      no-child : (k : ℕ) → n ≤ k → child_of g k (cores (view xs) k) ≡ false
      no-child k o =
          split (child_of g k (cores (view xs) k))
          (λ y. absurd (omega (arith, q.range k (child-live g k (cores (view xs) k) y))))
          (λ no_one. no_one)

  -- where none is gone no group changes
  pub reset-none : length xs ≡ tree_words → any_controller gone ≡ false → Wrote xs xs (children_reset (view xs) g gone)
  unfolding reset
  reset-none l n = record { long = l; tree = same-groups (view xs) (λ k. sym (same k)); sums = λ c h. refl; spare = λ s. s }
    where
      unchanged : (v : Group) → with_settings (reset gone (settings_of v)) v ≡ v
      unchanged v = ap (λ (f : Controls). with_settings (reset f (settings_of v)) v) (fun_ext (any-controller-none gone n))

      same : (k : ℕ) → after k ≡ (view xs).group k
      same k =
          split (child_of g k (cores (view xs) k))
          (λ y. reset-child (view xs) g gone k ((view xs).group k) y ∙ unchanged ((view xs).group k))
          (λ o. reset-other (view xs) g gone k ((view xs).group k) o)

-- ---- the set, and then the children

module _ (xs ys : List ℕ) (g : ℕ) (set : PerController Bool)
    (p : Wrote xs ys (controls_set (view xs) g set)) where
  abbrev set_first : ℕ → Group
  set_first = upd (view xs).group g (with_set (at_controller set) ((view xs).group g))

  core-kept : (k : ℕ) → (set_first k).core ≡ ((view xs).group k).core
  core-kept k = upd-keeps (λ v. v.core) (view xs).group g (with_set (at_controller set) ((view xs).group g)) refl k

  controls_same : controls_of set.cpu set.io set.memory set.pids ≡ at_controller set
  controls_same = fun_ext go
    where
      go : (c : Controller) → controls_of set.cpu set.io set.memory set.pids c ≡ at_controller set c
      go Cpu = refl
      go Io = refl
      go Memory = refl
      go Pids = refl

  tree-set : view ys ≡ at_group (view xs) g (with_set (at_controller set) ((view xs).group g))
  tree-set = p.tree ∙ ap (λ (s : Controls). at_group (view xs) g (with_set s ((view xs).group g))) controls_same

  pub ranged-after-set : Ranged xs → Ranged ys
  ranged-after-set q =
      record {
        long = p.long;
        range = λ k l.
            q.range k (sym (ap (λ c. c.live) (core-kept k)) ∙ sym (ap (λ (t : Tree). lives t k) tree-set) ∙ l);
      }

  pub set-then-reset : (zs : List ℕ) (gone : Controls) → Wrote ys zs (children_reset (view ys) g gone)
      → Wrote xs zs (controlled (view xs) g (at_controller set) gone)
  set-then-reset zs gone q =
      record {
        long = q.long;
        tree =
            q.tree
            ∙ ap (λ (t : Tree). children_reset t g gone) tree-set
            ∙ same-groups (view xs) (λ k. ap (λ (c : Core). reset_by g gone k c (set_first k)) (core-kept k));
        sums = λ c h. q.sums c h ∙ p.sums c h;
        spare = λ s. q.spare (p.spare s);
      }

pub ranged-kept : (xs : List ℕ) → Kept xs → Ranged xs
ranged-kept xs k = record { long = k.long; range = k.formed.sound.range }
