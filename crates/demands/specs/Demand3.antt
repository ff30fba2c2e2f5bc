-- Demand 3 of the code, from the contracts alone: what holds of words and book wherever a run has come to. Assumes nothing.
use Rattle.std.specs.Prelude.{ℕ, List, [], ◌∷◌, ◌++◌, ◌≡◌}
use Rattle.model.specs.Tree.{group_of}
use Rattle.model.specs.Text.{ended, decimal}
use Rattle.model.specs.Names.{file_name}
use Rattle.model.specs.Settings.{to_figure}
use Rattle.model.specs.Calls.{Call, read}
use Rattle.model.specs.Replies.{reply}
use Rattle.model.specs.Book.{Book, in_book, Entry, fresh_book, book_of, fed}
use Rattle.model.specs.Marks.{AtLastWrite, MarkIs}
use Rattle.model.specs.Totals.{Balanced, EndedOnce}
use Rattle.model.specs.DeviceBook.{no_account, account_of, account_fed, Accounted}
use Rattle.model.specs.DeviceReplies.{DeviceReading}
use Rattle.model.specs.Demands.{Alike, Bounded, Adds, NoneOver}
use Rattle.model.specs.declared.Resource.{Resource}
use Rattle.model.specs.declared.Resource.TheVariants.{Pages}
use Rattle.model.specs.declared.Limit.TheVariants.{Figure}
use Rattle.model.specs.declared.File.TheVariants.{Current}
use Rattle.tree.specs.Layout.{view}
use Rattle.tree.specs.Kept.{Kept, Fresh}
use Rattle.tree.specs.Calling.{Answered}
use Rattle.shootspiral.specs.Interface.{Told}
use Rattle.demands.specs.Runs.{Runs, calls_of, Followed}
use Rattle.demands.specs.Texts.{FindsText}

-- The words xs and the book b before the run, its calls with the numbers answered, the words ys after it. They keep the invariant and
-- stand alike with the book, and a read of memory.current or pids.current delivers the book's figure. Every page limit and its mark are of
-- the last write, or of the start. Every accepted charge or birth left no group on its way up over its limit. Nothing is lost, and as
-- many ended as were collected or are zombies. io.max has what accepted writes gave, and shows it.
pub record Kept3 (xs : List ℕ) (b : Book) (es : List Entry) (ys : List ℕ) : Type 0 where
  pub kept : Kept ys
  pub alike : Alike (view ys) (fed b es)
  pub shows : {buffer told bytes : List ℕ} {n : ℕ} (r : Resource) (g : ℕ) → Answered ys ys (read g (file_name (Current r)) buffer) n → n ≡ 0
      → Told (reply (view ys) (read g (file_name (Current r)) buffer)) told bytes
      → FindsText (ended (decimal (to_figure r (in_book (fed b es) r g)))) buffer told bytes
  pub bounded : Bounded (fed b es)
  pub mark : (g l : ℕ) → ((fed b es).group g).limit Pages ≡ Figure l → MarkIs (view xs) (calls_of es) g l ((fed b es).mark g)
  pub accepted : (r : Resource) (p : ℕ) (c : Call) (before after : List Entry) → Adds r p c
      → es ≡ before ++ (record { call = c; number = 0 } ∷ after)
      → NoneOver r (fed b (before ++ (record { call = c; number = 0 } ∷ []))) (group_of ((fed b (before ++ (record { call = c; number = 0 } ∷ []))).place p))
  pub balanced : Balanced (view xs) es (view ys)
  pub ended : EndedOnce (view xs) es (view ys)
  pub devices : Accounted (view ys) (account_fed b (account_of (view xs)) es)
  pub device_reading : DeviceReading (view ys) (account_fed b (account_of (view xs)) es)

-- from any words that keep the invariant, with the book of what they stand for; and from those of a fresh tree
pub record Demand3 : Type 0 where
  pub follows : {xs ys : List ℕ} {es : List Entry} → Runs xs es ys → Followed xs es ys
  pub run : {xs ys : List ℕ} {es : List Entry} → Runs xs es ys → Kept3 xs (book_of (view xs)) es ys
  pub fresh : {m : ℕ} {xs ys : List ℕ} {es : List Entry} → Fresh m xs → Runs xs es ys → Kept3 xs (fresh_book m) es ys
  pub mark : {m : ℕ} {xs ys : List ℕ} {es : List Entry} → Fresh m xs → Runs xs es ys
      → (g l : ℕ) → ((fed (fresh_book m) es).group g).limit Pages ≡ Figure l
      → AtLastWrite (view xs) (calls_of es) g l ((fed (fresh_book m) es).mark g)
  pub devices : {m : ℕ} {xs ys : List ℕ} {es : List Entry} → Fresh m xs → Runs xs es ys → Accounted (view ys) (account_fed (fresh_book m) no_account es)
