-- Demand 3 of the definitions, carried along a run. Assumes nothing.
use Prim.Native.Nat.{ℕ}
use mathlib.Core.List.{List, [], ◌∷◌, ◌++◌, nil≢cons, head-eq_of_cons-eq, tail-eq_of_cons-eq}
use mathlib.Core.Path.{◌≡◌, refl, ap, ap₂, sym, ◌∙◌, subst, subst₂}
use Rattle.model.specs.Functions.{mapped, or_else}
use Rattle.model.specs.Tree.{Tree, group_of}
use Rattle.model.specs.Hierarchy.{facts_of}
use Rattle.model.specs.Text.{ended, decimal}
use Rattle.model.specs.Names.{file_name}
use Rattle.model.specs.Settings.{to_figure}
use Rattle.model.specs.Files.{contents}
use Rattle.model.specs.Calls.{Call, file_text}
use Rattle.model.specs.Effects.{step, run}
use Rattle.model.specs.Effects as F
use Rattle.model.specs.Replies.{reply}
use Rattle.model.specs.Book.{Book, in_book, Entry, fresh_book, book_of, fed}
use Rattle.model.specs.Lists.{log}
use Rattle.model.specs.Marks.{AtLastWrite, MarkIs}
use Rattle.model.specs.Totals.{Balanced, EndedOnce}
use Rattle.model.specs.DeviceBook.{no_account, account_of, account_fed, Accounted}
use Rattle.model.specs.DeviceReplies.{DeviceReading}
use Rattle.model.specs.Demands.{Alike, Bounded, NoneOver}
use Rattle.model.specs.Demands as D
use Rattle.model.specs.declared.Resource.{Resource}
use Rattle.model.specs.declared.Resource.TheVariants.{Pages}
use Rattle.model.specs.declared.Limit.TheVariants.{Figure}
use Rattle.model.specs.declared.File.TheVariants.{Current}
use Rattle.model.proofs.NameLaws.{file_named-file_name}
use Rattle.model.proofs.Demands.{demands}
use Rattle.tree.specs.Layout.{view}
use Rattle.tree.specs.Kept.{Fresh}
use Rattle.demands.specs.Runs.{calls_of, Followed}
use Rattle.demands.specs.Texts.{FindsText}
use Rattle.demands.specs.Demand3.{Kept3, Demand3}
use Rattle.demands.proofs.Runs.{log-more, followed}
use Rattle.demands.proofs.Texts.{delivered-file}

-- An entry of the log is a call of the list.
record Found (t : Tree) (cs : List Call) (c : Call) (n : ℕ) (before : List Entry) : Type 0 where
  earlier : List Call
  later : List Call
  calls : cs ≡ earlier ++ (c ∷ later)
  entries : before ≡ log t earlier
  number : n ≡ (reply (run t earlier) c).number

found : (before after : List Entry) (t : Tree) (cs : List Call) (c : Call) (n : ℕ)
    → log t cs ≡ before ++ (record { call = c; number = n } ∷ after) → Found t cs c n before
unfolding log run
found [] after t [] c n e = absurd (nil≢cons e)
found [] after t (x ∷ xs) c n e =
    let h : ◌≡◌ {A = Entry} (record { call = x; number = (reply t x).number }) (record { call = c; number = n }) = head-eq_of_cons-eq e in
    let d : x ≡ c = ap (λ (y : Entry). y.call) h in
    record {
      earlier = [];
      later = xs;
      calls = ap (λ y. y ∷ xs) d;
      entries = refl;
      number = sym (ap (λ (y : Entry). y.number) h) ∙ ap (λ y. (reply t y).number) d;
    }
found (b ∷ bs) after t [] c n e = absurd (nil≢cons e)
found (b ∷ bs) after t (x ∷ xs) c n e =
    let h : record { call = x; number = (reply t x).number } ≡ b = head-eq_of_cons-eq e in
    let f = found bs after (step t x) xs c n (tail-eq_of_cons-eq e) in
    record {
      earlier = x ∷ f.earlier;
      later = f.later;
      calls = ap (λ ys. x ∷ ys) f.calls;
      entries = ap₂ (λ (y : Entry) (ys : List Entry). y ∷ ys) (sym h) f.entries;
      number = f.number;
    }

-- what the definitions' run from the words' tree keeps, the words keep
module _ {xs ys : List ℕ} {es : List Entry} (b : Book) (f : Followed xs es ys) (d : D.Demand3 (view xs) b (calls_of es)) where
  book : fed b (log (view xs) (calls_of es)) ≡ fed b es
  book = ap (fed b) (sym f.entries)

  alike : Alike (view ys) (fed b es)
  alike = subst₂ (λ (t : Tree) (x : Book). Alike t x) (sym f.tree) book d.alike

  current-text : (r : Resource) (g : ℕ)
      → file_text (facts_of (view ys)) g (file_name (Current r)) ≡ ended (decimal (to_figure r (in_book (fed b es) r g)))
  unfolding contents
  current-text r g =
      ap (λ x. or_else [] (mapped (contents (facts_of (view ys)) g) x)) (file_named-file_name (Current r))
      ∙ ap (λ n. ended (decimal (to_figure r n))) (alike.amount r g)

  carried : Kept3 xs b es ys
  carried =
      record {
        kept = f.kept;
        alike = alike;
        shows = λ {buffer} {told} {bytes} r g a z t.
            subst (λ (x : List ℕ). FindsText x buffer told bytes) (current-text r g) (delivered-file g (file_name (Current r)) a z t);
        bounded = subst Bounded book d.bounded;
        mark =
            subst (λ (x : Book). (g l : ℕ) → (x.group g).limit Pages ≡ Figure l → MarkIs (view xs) (calls_of es) g l (x.mark g)) book d.mark;
        accepted = λ q p c before after k e.
            let g = found before after (view xs) (calls_of es) c 0 (sym f.entries ∙ e) in
            let more : fed b (log (view xs) (g.earlier ++ (c ∷ []))) ≡ fed b (before ++ (record { call = c; number = 0 } ∷ [])) =
            ap (fed b)
            (sym (ap₂ (λ (es : List Entry) (k : ℕ). es ++ (record { call = c; number = k } ∷ [])) g.entries g.number ∙ log-more (view xs) g.earlier c)) in
            subst (λ (x : Book). NoneOver q x (group_of (x.place p))) more (d.accepted q p c g.earlier g.later k g.calls (sym g.number));
        balanced = subst₂ (λ (l : List Entry) (u : Tree). Balanced (view xs) l u) (sym f.entries) (sym f.tree) d.balanced;
        ended = subst₂ (λ (l : List Entry) (u : Tree). EndedOnce (view xs) l u) (sym f.entries) (sym f.tree) d.ended;
        devices =
            subst₂ (λ (l : List Entry) (u : Tree). Accounted u (account_fed b (account_of (view xs)) l)) (sym f.entries) (sym f.tree) d.devices;
        device_reading =
            subst₂ (λ (l : List Entry) (u : Tree). DeviceReading u (account_fed b (account_of (view xs)) l)) (sym f.entries) (sym f.tree) d.device_reading;
      }

-- the definitions' demand, from the tree of fresh words
module _ {m : ℕ} {xs : List ℕ} (z : Fresh m xs) (cs : List Call) where
  third-fresh : D.Demand3 (view xs) (fresh_book m) cs
  third-fresh = subst (λ (t : Tree). D.Demand3 t (fresh_book m) cs) (sym z.tree) ((demands.fresh m).third cs)

  mark-fresh : (g l : ℕ) → ((fed (fresh_book m) (log (view xs) cs)).group g).limit Pages ≡ Figure l
      → AtLastWrite (view xs) cs g l ((fed (fresh_book m) (log (view xs) cs)).mark g)
  mark-fresh =
      subst (λ (t : Tree). (g l : ℕ) → ((fed (fresh_book m) (log t cs)).group g).limit Pages ≡ Figure l → AtLastWrite t cs g l ((fed (fresh_book m) (log t cs)).mark g))
      (sym z.tree) ((demands.fresh m).mark cs)

  devices-fresh : Accounted (run (view xs) cs) (account_fed (fresh_book m) no_account (log (view xs) cs))
  devices-fresh =
      subst (λ (t : Tree). Accounted (run t cs) (account_fed (fresh_book m) no_account (log t cs))) (sym z.tree) ((demands.fresh m).devices cs)

pub demand-3-of-the-code : Demand3
demand-3-of-the-code =
    record {
      follows = followed;
      run = λ {xs} {ys} {es} r.
          let f = followed r in
          carried (book_of (view xs)) f (demands.third (view xs) f.begun.formed (calls_of es));
      fresh = λ {m} {xs} {ys} {es} z r. carried (fresh_book m) (followed r) (third-fresh z (calls_of es));
      mark = λ {m} {xs} {ys} {es} z r.
          subst (λ (l : List Entry). (g k : ℕ) → ((fed (fresh_book m) l).group g).limit Pages ≡ Figure k → AtLastWrite (view xs) (calls_of es) g k ((fed (fresh_book m) l).mark g))
          (sym (followed r).entries) (mark-fresh z (calls_of es));
      devices = λ {m} {xs} {ys} {es} z r.
          let f = followed r in
          subst₂ (λ (l : List Entry) (u : Tree). Accounted u (account_fed (fresh_book m) no_account l)) (sym f.entries) (sym f.tree)
          (devices-fresh z (calls_of es));
    }
