-- Every tree that calls can reach is well formed, and every call hands back such a tree. Assumes nothing.
use Prim.Native.Nat.{ℕ}
use native.Mathlib.Omega.{arith}
use mathlib.Core.Bool.{true, false}
use mathlib.Core.List.{[], ◌∷◌, ◌++◌}
use mathlib.Core.Logic.{⊎_elim}
use mathlib.Core.Path.{◌≡◌, refl, ap, sym, ◌∙◌, subst}
use Rattle.model.specs.Tree.{Tree, no_group, new_group, lives, parents, depths, remains}
use Rattle.model.specs.Zombies.{remnant_parent, remnant_depth, there}
use Rattle.model.specs.Calls.{Call}
use Rattle.model.specs.Effects.{step, fresh, run}
use Rattle.model.specs.WellFormed.{WellFormed}
use Rattle.model.specs.Demands.{Reachable}
use Rattle.model.proofs.FunctionLaws.{whether, clash, upd_same, upd_other, upd-map, upd-all}
use Rattle.model.proofs.AmountLaws.{usage-fresh}
use Rattle.model.proofs.ZombieLaws.{there-live, there-cases, or-live}
use Rattle.model.proofs.PieceLaws.{default-new}
use Rattle.model.proofs.AllowedLaws.{allowed-new}
use Rattle.model.proofs.Steps.{well-formed-run}
use Rattle.model.proofs.Books.{run_more}

module _ (m : ℕ) where
  -- the root alone is live
  only-root : (g : ℕ) → lives (fresh m) g ≡ true → g ≡ 0
  unfolding fresh
  only-root g h = whether g 0 (λ e. e) (λ ne. clash false (sym (ap (λ x. x.core.live) (upd_other (λ (x : ℕ). no_group) 0 (new_group 0 0 0) g ne)) ∙ h) refl)

  only-there : (g : ℕ) → there (fresh m) g ≡ true → g ≡ 0
  unfolding fresh
  only-there g h =
      ⊎_elim (λ (l : lives (fresh m) g ≡ true). only-root g l) (λ (r : (lives (fresh m) g ≡ false) × (false ≡ true)). clash false r.1 refl)
      (there-cases (lives (fresh m)) (remains (fresh m)) g h)

  root-new : (fresh m).group 0 ≡ new_group 0 0 0
  unfolding fresh
  root-new = upd_same (λ (x : ℕ). no_group) 0 (new_group 0 0 0)

  pub well-formed-fresh : WellFormed (fresh m)
  unfolding fresh
  well-formed-fresh =
      record {
        sound =
            record {
              root = ap (λ x. x.core.live) root-new;
              top = ap (λ x. x.core.parent) root-new;
              level = ap (λ x. x.depth) root-new;
              range = λ g l. omega (arith, only-root g l);
              above = λ g l nz. absurd (nz (only-root g l));
              deeper = λ g l nz. absurd (nz (only-root g l));
              shallow = λ g l. rw (only-root g l) (omega (arith, ap (λ x. x.depth) root-new));
            };
        placed =
            record {
              group = λ p g e. let z : ◌≡◌ {A = ℕ} 0 1 = cc in absurd (omega arith);
              range = λ p g e. let z : ◌≡◌ {A = ℕ} 0 1 = cc in absurd (omega arith);
              none = refl;
            };
        top_down = record { within = λ c g l nz h. absurd (nz (only-root g l)) };
        defaults = record { off = λ c g l o. rw (only-root g l, root-new) (default-new c) };
        ranges = record { within = λ g l. rw (only-root g l, root-new) allowed-new };
        quiet = record { empty = λ p g e nz c. let z : ◌≡◌ {A = ℕ} 0 1 = cc in absurd (omega arith) };
        blank =
            record {
              free_group =
                  upd-all (λ j x. x.core.live ≡ false → x ≡ no_group) (λ (g : ℕ). no_group) 0 (new_group 0 0 0)
                  (λ h. clash true refl h) (λ j _ _. refl);
              free_process = λ p e. refl;
            };
        past =
            record {
              paths =
                  record {
                    root = there-live (lives (fresh m)) (remains (fresh m)) 0 (ap (λ x. x.core.live) root-new);
                    top = or-live (lives (fresh m)) (remains (fresh m)) 0 remnant_parent (parents (fresh m)) (ap (λ x. x.core.live) root-new) ∙ ap (λ x. x.core.parent) root-new;
                    level = or-live (lives (fresh m)) (remains (fresh m)) 0 remnant_depth (depths (fresh m)) (ap (λ x. x.core.live) root-new) ∙ ap (λ x. x.depth) root-new;
                    range = λ g l. omega (arith, only-there g l);
                    above = λ g l nz. absurd (nz (only-there g l));
                    deeper = λ g l nz. absurd (nz (only-there g l));
                    shallow = λ g l.
                        rw (only-there g l)
                        (omega (
                          arith,
                          or-live (lives (fresh m)) (remains (fresh m)) 0 remnant_depth (depths (fresh m)) (ap (λ x. x.core.live) root-new),
                          ap (λ x. x.depth) root-new,
                        ));
                  };
              ended =
                  record {
                    group = λ p g e. let z : ◌≡◌ {A = ℕ} 0 1 = cc in absurd (omega arith);
                    range = λ p g e. let z : ◌≡◌ {A = ℕ} 0 1 = cc in absurd (omega arith);
                    none = refl;
                  };
              needed = λ g r. clash false r refl;
              group = λ g l. refl;
              process = λ p l. refl;
            };
        owned = ap (λ x. x.owner) root-new;
        sized =
            record {
              size = omega arith;
              fits = rw (upd-map (λ x. x.core) (λ (g : ℕ). no_group) 0 (new_group 0 0 0)) (omega (arith, usage-fresh 0));
            };
      }

pub well-formed-reached : (t : Tree) → Reachable t → WellFormed t
well-formed-reached t r = subst WellFormed r.made (well-formed-run r.calls (fresh r.size) (well-formed-fresh r.size))

pub reached-fresh : (m : ℕ) → Reachable (fresh m)
unfolding run
reached-fresh m = record { size = m; calls = []; made = refl }

pub reached-step : (t : Tree) (c : Call) → Reachable t → Reachable (step t c)
reached-step t c r =
    record {
      size = r.size;
      calls = r.calls ++ (c ∷ []);
      made = run_more r.calls (fresh r.size) c ∙ ap (λ x. step x c) r.made;
    }
