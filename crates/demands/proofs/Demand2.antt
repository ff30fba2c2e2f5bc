-- Demand 2 of the definitions, told by the contracts. Assumes nothing.
use Rattle.std.specs.Prelude.{Option, Some, None}
use Prim.Native.Nat.{ℕ}
use native.Mathlib.Omega.{arith}
use mathlib.Core.Bool.{true}
use mathlib.Core.List.{List, [], ◌∷◌, head-eq_of_cons-eq}
use mathlib.Core.Logic.{◌≢◌}
use mathlib.Core.Path.{◌≡◌, refl, ap, ap₂, sym, ◌∙◌, subst}
use lib.ListN.{length, take, drop}
use lib.Seq.{take-append_seam}
use Rattle.model.specs.Functions.{passes, mapped, or_else}
use Rattle.model.specs.Checks.{errno_number, answer_number, Pass}
use Rattle.model.specs.Tree.{Tree, is_live, lives, parents, places}
use Rattle.model.specs.Hierarchy.{chain, on, inside, facts_of}
use Rattle.model.specs.Text.{lines_of, body}
use Rattle.model.specs.Names.{setting_name, file_named}
use Rattle.model.specs.Control.{first_bad_word}
use Rattle.model.specs.Settings.{setting_controller}
use Rattle.model.specs.Rooms.{shortage}
use Rattle.model.specs.Rules.{may_write, process_group}
use Rattle.model.specs.Files.{is_present, contents, membership_line}
use Rattle.model.specs.Calls.{Call, exit, read, membership, file_text, checks, verdict}
use Rattle.model.specs.Effects.{step, run}
use Rattle.model.specs.Replies.{Asks, reply}
use Rattle.model.specs.Book.{Entry}
use Rattle.model.specs.Lists.{Never, Ever}
use Rattle.model.specs.ZombieRules.{Removes, Collects, LineKept}
use Rattle.model.specs.Containment.{caller, OwnsInside, NoneAcross, GivesOutside}
use Rattle.model.specs.Demands.{StoppedAt, LimitLeft}
use Rattle.model.specs.Demands as D
use Rattle.model.specs.declared.Resource.{Resource}
use Rattle.model.specs.declared.Setting.{Setting}
use Rattle.model.specs.declared.File.TheVariants.{Value}
use Rattle.model.proofs.FunctionLaws.{all_map}
use Rattle.model.proofs.ChainLaws.{inside-live}
use Rattle.model.proofs.NameLaws.{file_named-file_name}
use Rattle.model.proofs.Steps.{passed, group-lives}
use Rattle.model.proofs.OwnsInside.{owns-step}
use Rattle.model.proofs.NameLaws.{of-base}
use Rattle.model.proofs.Demands.{demands}
use Rattle.tree.specs.Layout.{view}
use Rattle.tree.specs.Kept.{Kept}
use Rattle.tree.specs.Calling.{Answered}
use Rattle.tree.proofs.AnsweredLaws.{answered-number, answered-done, answered-effect}
use Rattle.tree.proofs.WalkLaws.{member-at}
use Rattle.shootspiral.specs.Interface.{group_word, room_words, Told}
use Rattle.demands.specs.Runs.{Runs, start, next, Along, calls_of}
use Rattle.demands.specs.Texts.{FindsText}
use Rattle.demands.specs.Demand2.{Exactly, RoomTold, Restores, ShownBack, ZombieFinds, Demand2}
use Rattle.demands.proofs.Runs.{followed}
use Rattle.demands.proofs.Texts.{delivered-file, delivered-line}

exact : {xs ys : List ℕ} {c : Call} {n : ℕ} → Answered xs ys c n → Exactly xs ys c n
exact {xs} {c = c} a =
    record {
      says = (verdict (view xs) c, (demands.second.exactly (view xs) c).says, answered-number a);
      accepted = answered-effect a;
    }

-- What a charge or a fork tells.
module _ {xs ys : List ℕ} {c : Call} {k : ℕ} {told : List ℕ} (r : Resource) (n p : ℕ) (q : Asks r n p c) (kept : Kept xs)
    (a : Answered xs ys c k) (e : told ≡ room_words (reply (view xs) c)) where
  abbrev counts : D.Counted (view xs)
  counts = demands.second.counted (view xs) kept.formed

  words_are : (g : Option ℕ) (m : ℕ) → (reply (view xs) c).group ≡ g → (reply (view xs) c).consulted ≡ m → told ≡ group_word g ∷ m ∷ []
  words_are g m f h = e ∙ ap₂ (λ x y. group_word x ∷ y ∷ []) f h

  -- the group that is told is on the chain of a live group
  stopped-lives : (h k : ℕ) → StoppedAt (view xs) r n (process_group (view xs) p) h k → lives (view xs) h ≡ true
  unfolding inside
  stopped-lives h k s =
      let t : Tree = view xs in
      inside-live kept.formed.sound h (process_group t p) (group-lives t kept.formed p)
      (rw (← s.2.here) (member-at (chain (parents t) (process_group t p)) s.0 s.2.place))

  untold : (g : Option ℕ) → (reply (view xs) c).group ≡ g → k ≢ 0 → k ≢ errno_number (shortage r) → told ≡ group_word None ∷ 0 ∷ []
  untold None f nz ns = words_are None 0 f (counts.other r n p c q (λ z. nz (a.answer ∙ z)) f)
  untold (Some h) f nz ns = absurd (ns (a.answer ∙ (counts.stopped r n p h c q f).0))

  room-told : RoomTold (view xs) r n p k told
  room-told =
      record {
        success = λ z. let s = counts.success r n p c q (sym a.answer ∙ z) in words_are None _ s.1 s.0;
        stopped = λ z.
            let s = counts.named r n p c q (sym a.answer ∙ z) in
            (s.0, (reply (view xs) c).consulted, words_are (Some s.0) _ s.1 refl, s.2, stopped-lives s.0 _ s.2);
        other = untold (reply (view xs) c).group refl;
        apart = λ h l e. omega (arith, kept.formed.sound.range h l);
      }

-- Writing back.
module _ {xs : List ℕ} {n k : ℕ} {buffer bytes : List ℕ} (g : ℕ) (s : Setting) (kept : Kept xs)
    (a : Answered xs xs (read g (setting_name s) buffer) n) (z : n ≡ 0)
    (told : Told (reply (view xs) (read g (setting_name s) buffer)) (k ∷ []) bytes) where
  abbrev t : Tree
  t = view xs

  abbrev text : List ℕ
  text = contents (facts_of t) g (Value s)

  named : file_named (setting_name s) ≡ Some (Value s)
  named = file_named-file_name (Value s)

  read-passed : Pass (checks (facts_of t) (read g (setting_name s) buffer))
  read-passed = passed t (read g (setting_name s) buffer) (answered-done a z)

  read-lives : lives t g ≡ true
  unfolding checks Pass
  read-lives = let p = read-passed in (search)

  read-on : on t (setting_controller s) g ≡ true
  unfolding checks Pass
  read-on =
      let p = read-passed in
      let o : passes (file_named (setting_name s)) (is_present t g) ≡ true = (search) in
      rw named at o

  read-text : file_text (facts_of t) g (setting_name s) ≡ text
  read-text = ap (λ x. or_else [] (mapped (contents (facts_of t) g) x)) named

  delivered-text : take k bytes ≡ text
  delivered-text =
      let d = delivered-file g (setting_name s) a z told in
      let l : k ≡ length text = head-eq_of_cons-eq d.size ∙ ap length read-text in
      rw (l, d.bytes, read-text) (take-append_seam text (drop (length text) buffer))

  -- what answers as a line that is shown, written back
  restores : (user : ℕ) (line : List ℕ) → D.WrittenBack t user g s line → Restores xs user g s line
  restores user line d ys m w = (answered-number w ∙ ap answer_number d.accepted, w.tree ∙ d.same)

  shown-back : (user : ℕ) → may_write t user (parents t g) ≡ true → ShownBack xs user g s (take k bytes)
  shown-back user may =
      let back = demands.second.write_back t kept.formed in
      rw delivered-text
      (record {
        each =
            all_map _ _ (lines_of text) (λ line d. (restores user line d.0, restores user (body line) d.1))
            (back.each user g s read-lives read-on may);
        one = of-base (λ x. lines_of (D.shown_by t g x) ≡ D.shown_by t g x ∷ []) (back.one g) s;
        short = back.short g s read-lives;
      })

-- The line of a zombie: the run after its exit is one of the definitions.
module _ {xs ys zs buffer told bytes : List ℕ} {es : List Entry} {n k : ℕ} (p : ℕ) (kept : Kept xs) (a : Answered xs ys (exit p) n) (z : n ≡ 0)
    (r : Runs ys es zs) (never : Never (Collects p) (view ys) (calls_of es)) (m : Answered zs zs (membership p buffer) k) (y : k ≡ 0)
    (t : Told (reply (view zs) (membership p buffer)) told bytes) where
  abbrev exited : Tree
  exited = step (view xs) (exit p)

  lived : is_live (places (view xs) p) ≡ true
  unfolding checks Pass
  lived = (passed (view xs) (exit p) (answered-done a z)).0

  line : LineKept (view xs) p (process_group (view xs) p) (calls_of es)
  line =
      demands.second.zombie_line (view xs) kept.formed p (calls_of es) lived
      (subst (λ (u : Tree). Never (Collects p) u (calls_of es)) a.tree never)

  come-to : view zs ≡ run exited (calls_of es)
  come-to = (followed r).tree ∙ ap (λ (u : Tree). run u (calls_of es)) a.tree

  found : (text : List ℕ) → membership_line (run exited (calls_of es)) p ≡ text → FindsText text buffer told bytes
  found text e =
      subst (λ (x : List ℕ). FindsText x buffer told bytes) (ap (λ (u : Tree). membership_line u p) come-to ∙ e) (delivered-line p m y t)

  zombie-finds : ZombieFinds (view xs) p (view ys) (calls_of es) buffer told bytes
  zombie-finds =
      record {
        stays = λ h. found _ (line.stays (subst (λ (u : Tree). Never (Removes (process_group (view xs) p)) u (calls_of es)) a.tree h));
        deleted = λ h. found _ (line.deleted (subst (λ (u : Tree). Ever (Removes (process_group (view xs) p)) u (calls_of es)) a.tree h));
      }

-- Containment along a run.
contained-run : {xs ys : List ℕ} {es : List Entry} (user d : ℕ) → user ≢ 0 → (r : Runs xs es ys) → OwnsInside (view xs) user d
    → Along (λ t c u. GivesOutside user d t c → ⊥) r
    → OwnsInside (view ys) user d × Along (λ t c u. caller c ≡ Some user → NoneAcross d t u) r
unfolding Along
contained-run user d nz (start k) own given = (own, tt)
contained-run user d nz (next {ys = ys} {c = c} r a) own given =
    let before = contained-run user d nz r own given.0 in
    let w = (followed r).kept.formed in (
      subst (λ (u : Tree). OwnsInside u user d) (sym a.tree) (owns-step (view ys) w user d nz before.0 c given.1),
      (
        before.1,
        λ by. subst (λ (u : Tree). NoneAcross d (view ys) u) (sym a.tree) ((demands.second.contained (view ys) w).across user d c nz before.0 by),
      ),
    )

pub demand-2-of-the-code : Demand2
demand-2-of-the-code =
    record {
      exactly = exact;
      room = λ r n p q k a e. room-told r n p q k a e;
      fifth = λ {xs} user g file line k a.
          let d = demands.second.device_refusal (view xs) k.formed in
          ((λ e. d.only user g file line (sym a.answer ∙ e)), (λ h. a.answer ∙ d.always user g file line h));
      rounds = λ {xs} r user g l line e a z.
          subst (λ (t : Tree). LimitLeft t r g l) (sym a.tree) (demands.second.rounds (view xs) r user g l line e (sym a.answer ∙ z));
      question = λ {line} e. (first_bad_word line, e, (demands.second.question line).answer);
      part = λ {r} {s} p.
          let f = (demands.second.question s.now).answer in
          (first_bad_word s.now, record { first = f; block = p.block; offset = p.offset; word = p.bytes ∙ f.own });
      shown = delivered-file;
      standing = delivered-line;
      listing_fits = λ {xs} {buffer = buffer} g k a h e. (demands.second.lengths (view xs) k.formed).listing_fits g buffer h (sym a.answer ∙ e);
      line_fits = λ {xs} {buffer = buffer} p k a h e. (demands.second.lengths (view xs) k.formed).line_fits p buffer h (sym a.answer ∙ e);
      zombie_line = zombie-finds;
      taken = λ {xs} user parent new k a b g.
          answered-number a ∙ ap answer_number ((demands.second.taken (view xs) k.formed).refused user parent new b g);
      untaken = λ {xs} user parent new k a g.
          answered-number a ∙ ap answer_number ((demands.second.taken (view xs) k.formed).decided user parent new g);
      back = λ user g s k a z told may. shown-back g s k a z told user may;
      contained = contained-run;
      fresh = λ {m} {xs} z user d nz.
          subst (λ (t : Tree). OwnsInside t user d) (sym z.tree) ((demands.fresh m).owns user d nz);
    }
