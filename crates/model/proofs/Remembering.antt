-- How `Remembered` of specs/WellFormed.antt, the rule of the dead, is kept: when a process is put somewhere or exits, when a group is
-- made or removed, and when a zombie is collected. Over the functions that the rule speaks of. Assumes nothing.
use Prim.Native.Nat.{ℕ, suc, ◌<◌}
use native.Mathlib.Omega.{arith}
use mathlib.Core.Bool.{Bool, true, false}
use mathlib.Core.Logic.{◌≢◌, ⊎_elim}
use mathlib.Core.Path.{◌≡◌, refl, ap, sym, ◌∙◌, fun_ext}
use Rattle.model.specs.Functions.{pick, upd}
use Rattle.model.specs.Sizes.{groups, processes, deepest}
use Rattle.model.specs.Tree.{Place, nowhere, at, is_live, Remnant, no_remnant, remnant, Past}
use Rattle.model.specs.Zombies.{is_removed, remnant_parent, remnant_depth, there_in, or_remnant, on_path_in}
use Rattle.model.specs.WellFormed.{Sound, Placed, Remembered}
use Rattle.model.specs.Effects.{kept_if}
use Rattle.model.proofs.FunctionLaws.{split, whether, clash, upd_same, upd_other}
use Rattle.model.proofs.RuleLaws.{NoChild, sound-eq, placed-eq, sound-after-make, placed-after-make, sound-after-remove, placed-after-remove, placed-after-put}
use Rattle.model.proofs.ZombieLaws.{there-live, there-removed, there-cases, or-live, path-more, path-there, path-own, path-up, path-same, sound-shrink}

pub remembered-eq : {l l' : ℕ → Bool} {u u' h h' : ℕ → ℕ} {p p' : ℕ → Place} {d : Past} → l ≡ l' → u ≡ u' → h ≡ h' → p ≡ p'
    → Remembered l' u' h' p' d → Remembered l u h p d
remembered-eq e f g k m = rw (e, f, g, k) m

-- no place is there where the number is free
pub no_place : {A : Type 0} (l : Place) (g : ℕ) → l ≡ nowhere → l ≡ at g → A
no_place l g n e = let z : ◌≡◌ {A = ℕ} 0 1 = cc in absurd (omega arith)

-- What is there, and what is asked of it, where one number becomes live or is no longer so.
module _ (live : ℕ → Bool) (left : ℕ → Remnant) (g : ℕ) where
  there-made : there_in (upd live g true) left ≡ upd (there_in live left) g true
  there-made =
      fun_ext (λ j. whether j g (λ e. rw (e, upd_same, upd_same)) (λ ne. rw (upd_other live g true j ne, upd_other (there_in live left) g true j ne)))

  or-made : (h : Remnant → ℕ) (f : ℕ → ℕ) (v : ℕ) → or_remnant h (upd live g true) (upd f g v) left ≡ upd (or_remnant h live f left) g v
  or-made h f v =
      fun_ext
      (λ j. whether j g
      (λ e. rw (e, upd_same, upd_same, upd_same))
      (λ ne. rw (upd_other live g true j ne, upd_other f g v j ne, upd_other (or_remnant h live f left) g v j ne)))

  there-gone : there_in (upd live g false) (upd left g no_remnant) ≡ upd (there_in live left) g false
  there-gone =
      fun_ext
      (λ j. whether j g
      (λ e. rw (e, upd_same, upd_same, upd_same))
      (λ ne. rw (upd_other live g false j ne, upd_other left g no_remnant j ne, upd_other (there_in live left) g false j ne)))

  or-gone : (h : Remnant → ℕ) (f : ℕ → ℕ) → h no_remnant ≡ 0
      → or_remnant h (upd live g false) (upd f g 0) (upd left g no_remnant) ≡ upd (or_remnant h live f left) g 0
  or-gone h f z =
      fun_ext
      (λ j. whether j g
      (λ e. rw (e, upd_same, upd_same, upd_same) z)
      (λ ne. rw (upd_other live g false j ne, upd_other left g no_remnant j ne, upd_other f g 0 j ne, upd_other (or_remnant h live f left) g 0 j ne)))

  -- something is left of it
  there-left : (p d : ℕ) → live g ≡ true → there_in (upd live g false) (upd left g (remnant p d)) ≡ there_in live left
  there-left p d l =
      fun_ext
      (λ j. whether j g
      (λ e. rw (e, upd_same, upd_same, l))
      (λ ne. rw (upd_other live g false j ne, upd_other left g (remnant p d) j ne)))

  or_left : (h : Remnant → ℕ) (f : ℕ → ℕ) (p d : ℕ) → live g ≡ true → h (remnant p d) ≡ f g
      → or_remnant h (upd live g false) (upd f g 0) (upd left g (remnant p d)) ≡ or_remnant h live f left
  or_left h f p d l z =
      fun_ext
      (λ j. whether j g
      (λ e. rw (e, upd_same, upd_same, l) z)
      (λ ne. rw (upd_other live g false j ne, upd_other left g (remnant p d) j ne, upd_other f g 0 j ne)))

module _ {live : ℕ → Bool} {parent depth : ℕ → ℕ} {place : ℕ → Place} {d : Past} (s : Sound live parent depth) (m : Remembered live parent depth place d) where
  abbrev there : ℕ → Bool
  there = there_in live d.remains

  abbrev up : ℕ → ℕ
  up = or_remnant remnant_parent live parent d.remains

  abbrev level : ℕ → ℕ
  level = or_remnant remnant_depth live depth d.remains

  -- A process is put somewhere, or nowhere.
  pub remembered-after-put : (p : ℕ) (v : Place) → (is_live v ≡ true → d.zombie p ≡ nowhere) → Remembered live parent depth (upd place p v) d
  remembered-after-put p v k =
      record {
        paths = m.paths;
        ended = m.ended;
        needed = m.needed;
        group = m.group;
        process = λ q l.
            whether q p
            (λ e. rw e (k (sym (ap is_live (upd_same place p v)) ∙ rw e at l)))
            (λ ne. m.process q (sym (ap is_live (upd_other place p v q ne)) ∙ l));
      }

  -- It exits.
  pub remembered-after-exit : (p g : ℕ) → p ≢ 0 → p < processes → place p ≡ at g → live g ≡ true
      → Remembered live parent depth (upd place p nowhere) (record { zombie = upd d.zombie p (place p); remains = d.remains })
  remembered-after-exit p g pz low e l =
      record {
        paths = m.paths;
        ended =
            placed-after-put p (place p) m.ended pz
            (λ h k. let same : g ≡ h = cc in (there-live live d.remains h (rw (← same) l), low));
        needed = λ x r.
            path-more up d.zombie (upd d.zombie p (place p)) x
            (λ q h k _. upd_other d.zombie p (place p) q (λ same. no_place (d.zombie p) h free (sym (ap d.zombie same) ∙ k)) ∙ k)
            (m.needed x r);
        group = m.group;
        process = λ q a.
            whether q p
            (λ same. clash false (sym (ap is_live (upd_same place p nowhere)) ∙ rw same at a) refl)
            (λ ne. upd_other d.zombie p (place p) q ne ∙ m.process q (sym (ap is_live (upd_other place p nowhere q ne)) ∙ a));
      }
    where
      free : d.zombie p ≡ nowhere
      free = m.process p (ap is_live e)

  -- A group is made.
  module _ (new p : ℕ) (lp : live p ≡ true) (dead : live new ≡ false) (blank : d.remains new ≡ no_remnant) where
    gone : there new ≡ false
    gone = rw (dead, blank)

    pub remembered-after-make : new < groups → depth p < deepest
        → Remembered (upd live new true) (upd parent new p) (upd depth new (suc (depth p))) place d
    remembered-after-make low shallow =
        let tp : there p ≡ true = there-live live d.remains p lp in
        let same : level p ≡ depth p = or-live live d.remains p remnant_depth depth lp in
        let ups : or_remnant remnant_parent (upd live new true) (upd parent new p) d.remains ≡ upd up new p = or-made live d.remains new remnant_parent parent p in
        record {
          paths =
              sound-eq (there-made live d.remains new) ups
              (or-made live d.remains new remnant_depth depth (suc (depth p)) ∙ ap (λ n. upd level new (suc n)) (sym same))
              (sound-after-make m.paths new p tp gone low (rw same shallow));
          ended = placed-eq (there-made live d.remains new) refl (placed-after-make m.paths new p tp gone m.ended);
          needed = λ x r.
              ap (λ f. on_path_in f d.zombie x) ups
              ∙ sym (path-same m.paths m.ended (upd up new p)
              (λ y i. sym (upd_other up new p y (λ e. clash (there y) (path-there m.paths m.ended y i) (rw e gone)))) x)
              ∙ m.needed x r;
          group = λ x l. whether x new (λ e. rw e blank) (λ ne. m.group x (sym (upd_other live new true x ne) ∙ l));
          process = m.process;
        }

  -- A group without live children is removed.
  module _ (g : ℕ) (lg : live g ≡ true) (gz : g ≢ 0) (nc : NoChild live parent g) where
    abbrev after : Remnant → Past
    after r = record { zombie = d.zombie; remains = upd d.remains g r }

    live-after : (r : Remnant) (x : ℕ) → upd live g false x ≡ true → upd d.remains g r x ≡ no_remnant
    live-after r x l =
        whether x g
        (λ e. clash (upd live g false x) l (rw (e, upd_same)))
        (λ ne. upd_other d.remains g r x ne ∙ m.group x (sym (upd_other live g false x ne) ∙ l))

    -- a path runs through it
    left-on-path : on_path_in up d.zombie g ≡ true
        → Remembered (upd live g false) (upd parent g 0) (upd depth g 0) place (after (remnant (parent g) (depth g)))
    left-on-path o =
        let r : Remnant = remnant (parent g) (depth g) in
        let ups : or_remnant remnant_parent (upd live g false) (upd parent g 0) (upd d.remains g r) ≡ up = or_left live d.remains g remnant_parent parent (parent g) (depth g) lg refl in
        record {
          paths =
              sound-eq (there-left live d.remains g (parent g) (depth g) lg) ups
              (or_left live d.remains g remnant_depth depth (parent g) (depth g) lg refl) m.paths;
          ended = placed-eq (there-left live d.remains g (parent g) (depth g) lg) refl m.ended;
          needed = λ x k.
              ap (λ f. on_path_in f d.zombie x) ups
              ∙ whether x g (λ e. rw e o) (λ ne. m.needed x (sym (ap is_removed (upd_other d.remains g r x ne)) ∙ k));
          group = live-after r;
          process = m.process;
        }

    -- or none does
    blank-off-path : on_path_in up d.zombie g ≡ false → Remembered (upd live g false) (upd parent g 0) (upd depth g 0) place (after no_remnant)
    blank-off-path n =
        let ups : or_remnant remnant_parent (upd live g false) (upd parent g 0) (upd d.remains g no_remnant) ≡ upd up g 0 = or-gone live d.remains g remnant_parent parent refl in
        record {
          paths =
              sound-eq (there-gone live d.remains g) ups (or-gone live d.remains g remnant_depth depth refl)
              (sound-after-remove m.paths g gz childless);
          ended =
              placed-eq (there-gone live d.remains g) refl
              (placed-after-remove m.paths g gz childless
              (λ p e. clash (on_path_in up d.zombie g) (path-own m.paths m.ended p g e) n) m.ended);
          needed = λ x k.
              ap (λ f. on_path_in f d.zombie x) ups
              ∙ sym (path-same m.paths m.ended (upd up g 0) (λ y i. sym (upd_other up g 0 y (λ e. clash (on_path_in up d.zombie y) i (rw e n)))) x)
              ∙ m.needed x
              (whether x g
              (λ e. clash false (sym (ap is_removed (upd_same d.remains g no_remnant)) ∙ rw e at k) refl)
              (λ ne. sym (ap is_removed (upd_other d.remains g no_remnant x ne)) ∙ k));
          group = live-after no_remnant;
          process = m.process;
        }
      where
        childless : NoChild there up g
        childless c t cz e =
            ⊎_elim
            (λ (l : live c ≡ true). nc c l cz (sym (or-live live d.remains c remnant_parent parent l) ∙ e))
            (λ (r : (live c ≡ false) × (is_removed (d.remains c) ≡ true)).
            clash (on_path_in up d.zombie g) (rw (← e) (path-up m.paths m.ended c cz (m.needed c r.1))) n)
            (there-cases live d.remains c t)

    pub remembered-after-remove : Remembered (upd live g false) (upd parent g 0) (upd depth g 0) place
        (after (kept_if (on_path_in up d.zombie g) (remnant (parent g) (depth g))))
    remembered-after-remove = split (on_path_in up d.zombie g) (λ o. rw o (left-on-path o)) (λ n. rw n (blank-off-path n))

  -- A zombie is collected.
  module _ (p : ℕ) where
    abbrev others : ℕ → Place
    others = upd d.zombie p nowhere

    abbrev rest : ℕ → Remnant
    rest x = kept_if (on_path_in up others x) (d.remains x)

    other-ended : (q h : ℕ) → others q ≡ at h → d.zombie q ≡ at h
    other-ended q h e =
        whether q p
        (λ same. no_place (others p) h (upd_same d.zombie p nowhere) (rw same at e))
        (λ ne. sym (upd_other d.zombie p nowhere q ne) ∙ e)

    placed-others : Placed there others
    placed-others =
        record {
          group = λ q h e. m.ended.group q h (other-ended q h e);
          range = λ q h e. m.ended.range q h (other-ended q h e);
          none = whether 0 p (λ e. ap others e ∙ upd_same d.zombie p nowhere) (λ ne. upd_other d.zombie p nowhere 0 ne ∙ m.ended.none);
        }

    -- what is left then was left before, and is on a path
    rest-kept : (x : ℕ) → is_removed (rest x) ≡ true → (on_path_in up others x ≡ true) × (rest x ≡ d.remains x)
    rest-kept x r =
        split (on_path_in up others x)
        (λ o. (o, rw o))
        (λ n. clash (is_removed (rest x)) r (rw n))

    rest-on-path : (x : ℕ) → on_path_in up others x ≡ true → rest x ≡ d.remains x
    rest-on-path x o = rw o

    was-there : (x : ℕ) → there_in live rest x ≡ true
        → (there x ≡ true) × (or_remnant remnant_parent live parent rest x ≡ up x) × (or_remnant remnant_depth live depth rest x ≡ level x)
    was-there x t =
        ⊎_elim
        (λ (l : live x ≡ true). (there-live live d.remains x l, rw l, rw l))
        (λ (r : (live x ≡ false) × (is_removed (rest x) ≡ true)).
        let k : rest x ≡ d.remains x = (rest-kept x r.1).1 in (
          there-removed live d.remains x (sym (ap is_removed k) ∙ r.1),
          ap (λ v. pick (live x) (parent x) (remnant_parent v)) k,
          ap (λ v. pick (live x) (depth x) (remnant_depth v)) k,
        ))
        (there-cases live rest x t)

    closed : (x : ℕ) → there_in live rest x ≡ true → x ≢ 0 → there_in live rest (up x) ≡ true
    closed x t xz =
        ⊎_elim
        (λ (l : live x ≡ true).
        there-live live rest (up x) (rw (or-live live d.remains x remnant_parent parent l) (s.above x l xz)))
        (λ (r : (live x ≡ false) × (is_removed (rest x) ≡ true)).
        let o : on_path_in up others (up x) ≡ true = path-up m.paths placed-others x xz (rest-kept x r.1).0 in
        ap (λ v. there_of (live (up x)) v) (rest-on-path (up x) o) ∙ path-there m.paths placed-others (up x) o)
        (there-cases live rest x t)
      where
        there_of : Bool → Remnant → Bool
        there_of l v = there_in (λ _. l) (λ _. v) 0

    paths-after : Sound (there_in live rest) (or_remnant remnant_parent live parent rest) (or_remnant remnant_depth live depth rest)
    paths-after = sound-shrink m.paths _ _ _ (there-live live rest 0 s.root) was-there closed

    pub remembered-after-collect : Remembered live parent depth place (record { zombie = others; remains = rest })
    remembered-after-collect =
        record {
          paths = paths-after;
          ended =
              record {
                group = λ q h e.
                    let o : on_path_in up others h ≡ true = path-own m.paths placed-others q h e in
                    ⊎_elim
                    (λ (l : live h ≡ true). there-live live rest h l)
                    (λ (r : (live h ≡ false) × (is_removed (d.remains h) ≡ true)). there-removed live rest h (ap is_removed (rest-on-path h o) ∙ r.1))
                    (there-cases live d.remains h (m.ended.group q h (other-ended q h e)));
                range = placed-others.range;
                none = placed-others.none;
              };
          needed = λ x r.
              let o : on_path_in up others x ≡ true = (rest-kept x r).0 in
              sym (path-same m.paths placed-others (or_remnant remnant_parent live parent rest)
              (λ y i. ap (λ v. pick (live y) (parent y) (remnant_parent v)) (sym (rest-on-path y i))) x)
              ∙ o;
          group = λ x l. ap (kept_if (on_path_in up others x)) (m.group x l) ∙ kept-none (on_path_in up others x);
          process = λ q l.
              whether q p
              (λ e. ap others e ∙ upd_same d.zombie p nowhere)
              (λ ne. upd_other d.zombie p nowhere q ne ∙ m.process q l);
        }
      where
        kept-none : (b : Bool) → kept_if b no_remnant ≡ no_remnant
        kept-none true = refl
        kept-none false = refl
