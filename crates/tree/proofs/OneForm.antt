-- One tree has one list of words: each word is read off the tree, or is a sum of it, or is 0. Assumes nothing.
use Prim.Native.Nat.{ℕ, zero, suc, ◌+◌, ◌-◌, ◌*◌, ◌/◌, ◌%◌, ◌≤◌, ◌<◌}
use native.Mathlib.Omega.{arith}
use native.Mathlib.Decide.{dec_lt}
use mathlib.Core.Bool.{true, false}
use mathlib.Core.List.{List}
use mathlib.Core.Logic.{◌≢◌}
use mathlib.Core.Path.{◌≡◌, refl, ap, sym, ◌∙◌, subst}
use lib.Dec.{eqb}
use lib.ListN.{get_or}
use lib.Seq.{ext_get_or}
use borrow.Author.Tests.{eqb-true, eqb-false}
use Rattle.model.specs.Sizes.{groups, processes}
use Rattle.model.specs.Tree.{Tree, Group, Process, nowhere, at, no_remnant, remnant, zombies, remains}
use Rattle.model.specs.declared.Resource.TheVariants.{Pages, Processes}
use Rattle.model.specs.declared.Controller.TheVariants.{Cpu, Io, Memory, Pids}
use Rattle.model.proofs.FunctionLaws.{split, whether}
use Rattle.devices.specs.Slots.{free_slot}
use Rattle.devices.specs.declared.slot.Slot.{Slot}
use Rattle.devices.proofs.LimitWordLaws.{limit-word-is}
use Rattle.devices.proofs.TableLaws.{same-slots}
use Rattle.tree.specs.Layout.{front, machine_at, row_words, tree_words, word, sum_field, sum_in, first_flag, live_field, set_field, first_slot, slot_field, remnant_field, used, ended_from, place_in, zombie_in, remnant_in, flag_in, slot_in, slots_in, group_row, process_in, view, SpareRow}
use Rattle.tree.specs.Kept.{count_in, Kept}
use Rattle.tree.specs.OneForm.{OneForm}
use Rattle.tree.specs.declared.sum.Counter.{Counter}
use Rattle.tree.specs.declared.sum.Counter.TheVariants.{Of, Children, Members, Zombies}
use Rattle.tree.proofs.LayoutLaws.{place_none, place_at, zombie-not, zombie-at, remnant-none, remnant-is}
use Rattle.tree.proofs.RowLaws.{process-in, ended-in}

-- A meaning has one word.
place-word : (v w : ℕ) → place_in v ≡ place_in w → zombie_in v ≡ zombie_in w → v ≡ w
place-word v w e z =
    whether v 0
    (λ a. whether w 0
    (λ b. a ∙ sym b)
    (λ b. elim (dec_lt w ended_from) [
      | yes l ↦ nowhere-at _ (sym (place_none v a) ∙ e ∙ place_at w b l)
      | no l ↦ nowhere-at _ (sym (zombie-not v (omega arith)) ∙ z ∙ zombie-at w (omega arith))
    ]))
    (λ a. elim (dec_lt v ended_from) [
      | yes k ↦ whether w 0
          (λ b. nowhere-at _ (sym (place_none w b) ∙ sym e ∙ place_at v a k))
          (λ b. elim (dec_lt w ended_from) [
            | yes l ↦ let f : v - 1 ≡ w - 1 = at-is _ _ (sym (place_at v a k) ∙ e ∙ place_at w b l) in omega arith
            | no l ↦ nowhere-at _ (sym (zombie-not v k) ∙ z ∙ zombie-at w (omega arith))
          ])
      | no k ↦ elim (dec_lt w ended_from) [
        | yes l ↦ nowhere-at _ (sym (zombie-not w l) ∙ sym z ∙ zombie-at v (omega arith))
        | no l ↦ let f : v - ended_from ≡ w - ended_from = at-is _ _ (sym (zombie-at v (omega arith)) ∙ z ∙ zombie-at w (omega arith)) in omega arith
      ]
    ])
  where
    nowhere-at : (n : ℕ) → nowhere ≡ at n → v ≡ w
    nowhere-at n e = let z : ◌≡◌ {A = ℕ} 0 1 = cc in absurd (omega arith)

    at-is : (m n : ℕ) → at m ≡ at n → m ≡ n
    at-is m n e = cc

remnant-one : (v w : ℕ) → remnant_in v ≡ remnant_in w → v ≡ w
remnant-one v w e =
    whether v 0
    (λ a. whether w 0
    (λ b. a ∙ sym b)
    (λ b. none_left _ _ (sym (remnant-none v a) ∙ e ∙ remnant-is w b)))
    (λ a. whether w 0
    (λ b. none_left _ _ (sym (remnant-none w b) ∙ sym e ∙ remnant-is v a))
    (λ b.
    let f = left_is _ _ _ _ (sym (remnant-is v a) ∙ e ∙ remnant-is w b) in
    let low : (v - 1) % groups ≡ (w - 1) % groups = f.0 in
    let high : (v - 1) / groups ≡ (w - 1) / groups = f.1 in
    omega arith))
  where
    none_left : (m n : ℕ) → no_remnant ≡ remnant m n → v ≡ w
    none_left m n e = let z : ◌≡◌ {A = ℕ} 0 1 = cc in absurd (omega arith)

    left_is : (a b c d : ℕ) → remnant a b ≡ remnant c d → (a ≡ c) × (b ≡ d)
    left_is a b c d e = (cc, cc)

flag_word : (v w : ℕ) → v ≤ 1 → w ≤ 1 → flag_in v ≡ flag_in w → v ≡ w
flag_word v w a b e =
    split (eqb v 1)
    (λ y. let z : eqb w 1 ≡ true = sym e ∙ y in eqb-true v 1 y ∙ sym (eqb-true w 1 z))
    (λ n. let z : eqb w 1 ≡ false = sym e ∙ n in
    let p : v ≢ 1 = eqb-false v 1 n in
    let q : w ≢ 1 = eqb-false w 1 z in
    omega arith)

-- what holds at each place below n, the last first
infixr 5 ◌▹◌
data Below (P : ℕ → Type 0) : ℕ → Type 0 where
  none : Below P zero
  ◌▹◌ : {n : ℕ} → P n → Below P n → Below P (suc n)

below : (P : ℕ → Type 0) (n : ℕ) → Below P n → (k : ℕ) → k < n → P k
below P zero none k l = absurd (omega arith)
below P (suc n) (x ▹ b) k l = whether k n (λ e. rw e x) (λ ne. below P n b k (omega arith))

-- a row is its group, its sums and zeros
module _ (v w : ℕ → ℕ) (a : SpareRow v) (b : SpareRow w) (sums : (c : Counter) → v (sum_field c) ≡ w (sum_field c)) (e : group_row v ≡ group_row w)
    (r : remnant_in (v remnant_field) ≡ remnant_in (w remnant_field)) where
  flag : (k : ℕ) → first_flag ≤ k → k < first_slot → flag_in (v k) ≡ flag_in (w k) → v k ≡ w k
  flag k from to f = flag_word (v k) (w k) (a.flags k from to) (b.flags k from to) f

  -- packed slots of one table are the same
  slot : (i : ℕ) → get_or (slots_in v) i free_slot ≡ get_or (slots_in w) i free_slot
  slot i =
      ap (λ (l : List Slot). get_or l i free_slot) (same-slots (slots_in v) (slots_in w) refl a.packed b.packed (ap (λ (g : Group). g.io) e))

  -- and so are their words, after the places before them
  and-slot : (k : ℕ) → slot_in v k ≡ slot_in w k → Below (λ k. v k ≡ w k) k → Below (λ k. v k ≡ w k) (suc (suc (suc (suc (suc k)))))
  and-slot k f before =
      at (k + 4) (suc (suc (suc (suc k)))) (omega arith) (ap (λ (x : Slot). x.limits.wiops) f)
      ▹ at (k + 3) (suc (suc (suc k))) (omega arith) (ap (λ (x : Slot). x.limits.riops) f)
      ▹ at (k + 2) (suc (suc k)) (omega arith) (ap (λ (x : Slot). x.limits.wbps) f)
      ▹ at (k + 1) (suc k) (omega arith) (ap (λ (x : Slot). x.limits.rbps) f)
      ▹ ap (λ (x : Slot). x.device) f
      ▹ before
    where
      at : (i j : ℕ) → i ≡ j → v i ≡ w i → v j ≡ w j
      at i j d h = subst (λ k. v k ≡ w k) d h

  words-before : Below (λ k. v k ≡ w k) first_slot
  words-before =
      flag (set_field Pids) (omega arith) (omega arith) (ap (λ (g : Group). g.set Pids) e)
      ▹ flag (set_field Memory) (omega arith) (omega arith) (ap (λ (g : Group). g.set Memory) e)
      ▹ flag (set_field Io) (omega arith) (omega arith) (ap (λ (g : Group). g.set Io) e)
      ▹ flag (set_field Cpu) (omega arith) (omega arith) (ap (λ (g : Group). g.set Cpu) e)
      ▹ flag live_field (omega arith) (omega arith) (ap (λ (g : Group). g.core.live) e)
      ▹ ap (λ (g : Group). g.cpu.period) e
      ▹ limit-word-is _ _ (ap (λ (g : Group). g.cpu.quota) e)
      ▹ ap (λ (g : Group). g.cpu.weight) e
      ▹ ap (λ (g : Group). g.owner) e
      ▹ ap (λ (g : Group). g.depth) e
      ▹ ap (λ (g : Group). g.core.own) e
      ▹ limit-word-is _ _ (ap (λ (g : Group). g.core.limit Processes) e)
      ▹ limit-word-is _ _ (ap (λ (g : Group). g.core.limit Pages) e)
      ▹ ap (λ (g : Group). g.core.parent) e
      ▹ sums Zombies
      ▹ sums Members
      ▹ sums (Of Processes)
      ▹ sums (Of Pages)
      ▹ none

  places_same : Below (λ k. v k ≡ w k) used
  places_same =
      sums Children
      ▹ remnant-one _ _ r
      ▹ and-slot (slot_field 3) (slot 3) (and-slot (slot_field 2) (slot 2) (and-slot (slot_field 1) (slot 1) (and-slot (slot_field 0) (slot 0) words-before)))

  row_same : (k : ℕ) → k < row_words → v k ≡ w k
  row_same k l =
      elim (dec_lt k used) [
        | yes h ↦ below (λ k. v k ≡ w k) used places_same k h
        | no h ↦ a.rest k (omega arith) l ∙ sym (b.rest k (omega arith) l)
      ]

module _ (xs ys : List ℕ) (k : Kept xs) (j : Kept ys) (e : view xs ≡ view ys) where
  sums_same : (g : ℕ) (c : Counter) → sum_in xs c g ≡ sum_in ys c g
  sums_same g c = k.sums c g ∙ ap (λ (t : Tree). count_in t c g) e ∙ sym (j.sums c g)

  words_same : (g i : ℕ) → g < groups → i < row_words → word xs g i ≡ word ys g i
  words_same g i low l =
      row_same (word xs g) (word ys g) (k.spare.rows g low) (j.spare.rows g low) (sums_same g) (ap (λ (t : Tree). t.group g) e)
      (ap (λ (t : Tree). remains t g) e) i l

  process-same : (p : ℕ) → p < processes → (get_or xs p 0 ≡ get_or ys p 0) × (get_or xs (processes + p) 0 ≡ get_or ys (processes + p) 0)
  process-same p l =
      let f : process_in xs p ≡ process_in ys p = ap (λ (t : Tree). t.process p) e in
      let g = sym (process-in xs p l) ∙ f ∙ process-in ys p l in
      let h = sym (ended-in xs p l) ∙ ap (λ (t : Tree). zombies t p) e ∙ ended-in ys p l in
      (place-word _ _ (ap (λ (x : Process). x.place) g) h, ap (λ (x : Process). x.user) g)

  ahead-same : (i : ℕ) → i < front → get_or xs i 0 ≡ get_or ys i 0
  ahead-same i l =
      elim (dec_lt i processes) [
        | yes h ↦ (process-same i h).0
        | no h ↦
            elim (dec_lt i machine_at) [
              | yes m ↦ rw (← back i (omega arith)) (process-same (i - processes) (omega arith)).1
              | no m ↦
                  whether i machine_at
                  (λ d. rw d (ap (λ (t : Tree). t.machine) e))
                  (λ ne. k.spare.gap i (omega arith) l ∙ sym (j.spare.gap i (omega arith) l))
            ]
      ]
    where
      back : (i : ℕ) → processes ≤ i → processes + (i - processes) ≡ i
      back i h = omega arith

  rows_same : (i : ℕ) → front ≤ i → i < tree_words → get_or xs i 0 ≡ get_or ys i 0
  rows_same i from to =
      let g : ℕ = (i - front) / row_words in
      let c : ℕ = (i - front) % row_words in
      let at : front + g * row_words + c ≡ i = omega arith in
      rw (← at) (words_same g c (omega arith) (omega arith))

  one : xs ≡ ys
  one =
      ext_get_or 0 xs ys (k.long ∙ sym j.long)
      (λ i l. elim (dec_lt i front) [ yes h ↦ ahead-same i h | no h ↦ rows_same i (omega arith) (omega (arith, k.long)) ])

pub one_form : OneForm
one_form xs ys k j e = one xs ys k j e
