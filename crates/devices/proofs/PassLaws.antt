-- A pass over packed, ascending slots that carries a device with a limit is `with_device` of the table, and leaves packed slots. Assumes nothing.
use Rattle.std.specs.Prelude.{Some, None}
use Prim.Native.Nat.{ℕ, suc, ◌+◌, ◌-◌, ◌≤◌, ◌<◌}
use native.Mathlib.Omega.{arith}
use mathlib.Core.Bool.{false}
use native.Mathlib.Numerals.{add-one}
use mathlib.Core.List.{List, [], ◌∷◌, ◌++◌, append_assoc, append-nil}
use lib.ListN.{length, length-set, get_or, set, take, drop, drop_of_length-le}
use lib.Seq.{drop-cons, take_all}
use Rattle.std.proofs.lemmas.List.{take_more_set, drop-set-lt}
use mathlib.Core.Logic.{◌≢◌}
use mathlib.Core.Path.{◌≡◌, refl, ap, sym, ◌∙◌, subst}
use borrow.Author.Tests.{eqb-true, eq-eqb, ne_eqb, lt-ltb, le-ltb}
use Rattle.model.specs.Functions.{All}
use Rattle.model.specs.Sizes.{most_devices}
use Rattle.model.specs.Devices.{DeviceLimits, all_max, with_device, Ascending}
use Rattle.model.specs.declared.Limit.{Limit}
use Rattle.model.specs.declared.Key.{Key}
use Rattle.devices.specs.Slots.{free_slot, limits_of, line_of, table_of, Packed, stepped, kept, carried, put_in}
use Rattle.devices.specs.declared.slot.Slot.{Slot}
use Rattle.devices.proofs.TableLaws.{taken-or-free, table-free, table_taken, rest-free, packed-rest, packed-taken, ascending-first, ascending-rest}
use Rattle.devices.proofs.WithLaws.{compare, entered-limited, with_none, with-below, with-same, with-above}

-- One place, by its four tests.
module _ (x c : Slot) where
  pub none-comes : c.device ≡ 0 → stepped x c ≡ (x, c)
  none-comes h = rw (eq-eqb c.device 0 h)

  module _ (comes : c.device ≢ 0) where
    pub none_here : x.device ≡ 0 → stepped x c ≡ (c, x)
    none_here h = rw (ne_eqb c.device 0 comes, eq-eqb x.device 0 h)

    module _ (here : x.device ≢ 0) where
      pub comes-below : c.device < x.device → stepped x c ≡ (c, x)
      comes-below h = rw (ne_eqb c.device 0 comes, ne_eqb x.device 0 here, lt-ltb c.device x.device h)

      pub comes-again : c.device ≡ x.device → stepped x c ≡ (c, free_slot)
      comes-again h =
          rw (ne_eqb c.device 0 comes, ne_eqb x.device 0 here, le-ltb c.device x.device (omega arith), eq-eqb c.device x.device h)

      pub comes-above : x.device < c.device → stepped x c ≡ (x, c)
      comes-above h =
          rw (ne_eqb c.device 0 comes, ne_eqb x.device 0 here, le-ltb c.device x.device (omega arith), ne_eqb c.device x.device (λ e. omega arith))

-- the slots after the pass, with what is carried out of them
abbrev pub passed : Slot → List Slot → List Slot
passed c xs = kept c xs ++ (carried c xs ∷ [])

table_step : (c x u v : Slot) (xs : List Slot) → stepped x c ≡ (u, v) → table_of (passed c (x ∷ xs)) ≡ table_of (u ∷ passed v xs)
unfolding kept carried
table_step c x u v xs e = ap (λ (p : Slot × Slot). table_of (p.0 ∷ passed p.1 xs)) e

-- nothing is carried
pass-none : (c : Slot) (xs : List Slot) → c.device ≡ 0 → table_of (passed c xs) ≡ table_of xs
unfolding table_of kept carried
pass-none c [] h = table-free c [] h
pass-none c (x ∷ xs) h =
    table_step c x x c xs (none-comes x c h)
    ∙ taken-or-free x
    (λ y. table-free x (passed c xs) y ∙ sym (table-free x xs y))
    (λ n. table_taken x (passed c xs) n ∙ ap (λ (l : List DeviceLimits). line_of x ∷ l) (pass-none c xs h) ∙ sym (table_taken x xs n))

-- a device below all that come after it: all go on by one place
pass_below : (c : Slot) (xs : List Slot) → c.device ≢ 0 → Packed xs → Ascending (suc (c.device - 1)) (table_of xs) → table_of (passed c xs) ≡ line_of c ∷ table_of xs
unfolding table_of kept carried
pass_below c [] f p a = table_taken c [] f
pass_below c (x ∷ xs) f p a =
    taken-or-free x
    (λ y. table_step c x c x xs (none_here x c f y)
    ∙ table_taken c (passed x xs) f
    ∙ ap (λ (l : List DeviceLimits). line_of c ∷ l) (pass-none x xs y ∙ rest-free x xs p y ∙ sym (table-free x xs y)))
    (λ n. table_step c x c x xs (comes-below x c f n (omega (arith, ascending-first (suc (c.device - 1)) x xs n a)))
    ∙ table_taken c (passed x xs) f
    ∙ ap (λ (l : List DeviceLimits). line_of c ∷ l)
    (pass_below x xs n (packed-rest x xs p) (ascending-rest (suc (c.device - 1)) x xs n a) ∙ sym (table_taken x xs n)))

-- A device with a limit put into the table.
pub pass-with-device : (n : ℕ) (c : Slot) (xs : List Slot) → c.device ≢ 0 → all_max (limits_of c) ≡ false → Packed xs → Ascending n (table_of xs)
    → table_of (passed c xs) ≡ with_device (c.device - 1) (limits_of c) (table_of xs)
unfolding table_of kept carried
pass-with-device n c [] f m p a = table_taken c [] f ∙ sym (with_none (c.device - 1) (limits_of c) ∙ entered-limited (c.device - 1) (limits_of c) [] m)
pass-with-device n c (x ∷ xs) f m p a =
    taken-or-free x
    (λ y. table_step c x c x xs (none_here x c f y)
    ∙ table_taken c (passed x xs) f
    ∙ ap (λ (l : List DeviceLimits). line_of c ∷ l) (pass-none x xs y ∙ rest-free x xs p y)
    ∙ sym (ap (with_device (c.device - 1) (limits_of c)) (table-free x xs y) ∙ with_none (c.device - 1) (limits_of c)
    ∙ entered-limited (c.device - 1) (limits_of c) [] m))
    (λ h.
    let d : ℕ = c.device - 1 in
    let l : Key → Limit = limits_of c in
    let old : with_device d l (table_of (x ∷ xs)) ≡ with_device d l (line_of x ∷ table_of xs) = ap (with_device d l) (table_taken x xs h) in
    compare c.device x.device
    (λ less. table_step c x c x xs (comes-below x c f h less)
    ∙ table_taken c (passed x xs) f
    ∙ ap (λ (t : List DeviceLimits). line_of c ∷ t) (pass_below x xs h (packed-rest x xs p) (ascending-rest n x xs h a))
    ∙ sym (old ∙ with-below d l (line_of x) (table_of xs) (omega arith) ∙ entered-limited d l (line_of x ∷ table_of xs) m))
    (λ same. table_step c x c free_slot xs (comes-again x c f h same)
    ∙ table_taken c (passed free_slot xs) f
    ∙ ap (λ (t : List DeviceLimits). line_of c ∷ t) (pass-none free_slot xs refl)
    ∙ sym (old ∙ with-same d l (line_of x) (table_of xs) (omega arith) ∙ entered-limited d l (table_of xs) m))
    (λ more. table_step c x x c xs (comes-above x c f h more)
    ∙ table_taken x (passed c xs) h
    ∙ ap (λ (t : List DeviceLimits). line_of x ∷ t) (pass-with-device (suc (x.device - 1)) c xs f m (packed-rest x xs p) (ascending-rest n x xs h a))
    ∙ sym (old ∙ with-above d l (line_of x) (table_of xs) (omega arith))))

-- Packed after a pass.
all-free-passed : (c : Slot) (xs : List Slot) → c ≡ free_slot → All (λ x. x ≡ free_slot) xs → All (λ x. x ≡ free_slot) (passed c xs)
unfolding kept carried All
all-free-passed c [] e h = (e, tt)
all-free-passed c (x ∷ xs) e h =
    subst (λ (p : Slot × Slot). All (λ y. y ≡ free_slot) (p.0 ∷ passed p.1 xs)) (sym (none-comes x c (ap (λ (s : Slot). s.device) e)))
    (h.0, all-free-passed c xs e h.1)

pub packed-passed : (c : Slot) (xs : List Slot) → (c.device ≡ 0 → c ≡ free_slot) → Packed xs → Packed (passed c xs)
unfolding kept carried Packed All
packed-passed c [] f p = ((λ y. (f (eqb-true c.device 0 y), tt)), tt)
packed-passed c (x ∷ xs) f p =
    taken-or-free c
    (λ e. step x c (none-comes x c e)
    ((λ y. ((p.0 y).0, all-free-passed c xs (f e) (p.0 y).1)), packed-passed c xs f p.1))
    (λ comes. taken-or-free x
    (λ e. step c x (none_here x c comes e)
    (packed-taken c (passed x xs) comes (packed-passed x xs (λ z. (p.0 (eq-eqb x.device 0 e)).0) p.1)))
    (λ here. compare c.device x.device
    (λ less. step c x (comes-below x c comes here less) (packed-taken c (passed x xs) comes (packed-passed x xs (λ z. absurd (here z)) p.1)))
    (λ same. step c free_slot (comes-again x c comes here same) (packed-taken c (passed free_slot xs) comes (packed-passed free_slot xs (λ z. refl) p.1)))
    (λ more. step x c (comes-above x c comes here more) (packed-taken x (passed c xs) here (packed-passed c xs f p.1)))))
  where
    step : (u v : Slot) → stepped x c ≡ (u, v) → Packed (u ∷ passed v xs) → Packed (passed c (x ∷ xs))
    step u v e q = subst (λ (z : Slot × Slot). Packed (z.0 ∷ passed z.1 xs)) (sym e) q

-- In the pass: it carries e to place i of ys, and ends from there as the one does that carries c through xs.
pub record Passing (c : Slot) (xs : List Slot) (e : Slot) (ys : List Slot) (i : ℕ) : Type 0 where
  pub long : length ys ≡ most_devices
  pub stays : take i ys ++ kept e (drop i ys) ≡ kept c xs
  pub goes : carried e (drop i ys) ≡ carried c xs

pub passing-next : {c : Slot} {xs : List Slot} {e : Slot} {ys : List Slot} {i : ℕ} → Passing c xs e ys i → i < most_devices → (u v : Slot)
    → (u, v) ≡ stepped (get_or ys i free_slot) e → Passing c xs v (set ys i u) (i + 1)
unfolding kept carried
passing-next {c} {xs} {e} {ys} {i} p h u v s =
    let l : i < length ys = omega (arith, p.long) in
    let rest : drop i ys ≡ get_or ys i free_slot ∷ drop (i + 1) ys = rw add-one (drop-cons ys i free_slot l) in
    let after : drop (i + 1) (set ys i u) ≡ drop (i + 1) ys = drop-set-lt (i + 1) ys i u (omega arith) in
    let stay : take i ys ++ (u ∷ kept v (drop (i + 1) ys)) ≡ kept c xs =
    ap (λ (q : Slot × Slot). take i ys ++ (q.0 ∷ kept q.1 (drop (i + 1) ys))) s ∙ ap (λ (zs : List Slot). take i ys ++ kept e zs) (sym rest) ∙ p.stays in
    record {
      long = length-set ys i u ∙ p.long;
      stays = rw (after, take_more_set ys i u l, append_assoc) stay;
      goes = rw after (ap (λ (q : Slot × Slot). carried q.1 (drop (i + 1) ys)) s ∙ ap (carried e) (sym rest) ∙ p.goes);
    }

-- at the end of it
module _ {c : Slot} {xs : List Slot} {e : Slot} {ys : List Slot} {i : ℕ} (p : Passing c xs e ys i) (h : most_devices ≤ i) where
  l : length ys ≤ i
  l = omega (arith, p.long)

  none-left : drop i ys ≡ []
  none-left = drop_of_length-le ys {i = i} l

  all-kept : ys ≡ kept c xs
  unfolding kept
  all-kept = rw (take_all i ys l, none-left, append-nil) at p.stays

  last-carried : e ≡ carried c xs
  unfolding carried
  last-carried = rw none-left at p.goes

  pub put-in-some : e.device ≡ 0 → Some ys ≡ put_in c xs
  put-in-some z = rw (← last-carried, ← all-kept, eq-eqb e.device 0 z)

  pub put-in-none : e.device ≢ 0 → None ≡ put_in c xs
  put-in-none n = rw (← last-carried, ne_eqb e.device 0 n)

pub kept-long : (c : Slot) (xs : List Slot) → length (kept c xs) ≡ length xs
unfolding kept
kept-long c [] = refl
kept-long c (x ∷ xs) = ap suc (kept-long (stepped x c).1 xs)
