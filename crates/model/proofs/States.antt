-- What holds of the tree and the book of demand 3 wherever a list of calls has come to, and that each call keeps it.
-- Assumes nothing.
use Rattle.std.specs.Prelude.{Ok}
use native.Mathlib.Omega.{arith}
use mathlib.Core.List.{List, [], ◌∷◌}
use mathlib.Core.Path.{◌≡◌, refl, subst}
use Rattle.model.specs.Checks.{Pass}
use Rattle.model.specs.Tree.{Tree}
use Rattle.model.specs.Hierarchy.{facts_of}
use Rattle.model.specs.Calls.{Call, checks, verdict}
use Rattle.model.specs.Effects.{effect, step, run}
use Rattle.model.specs.Replies.{reply}
use Rattle.model.specs.Book.{Book, enter, book_step, book_of, fed}
use Rattle.model.specs.WellFormed.{WellFormed}
use Rattle.model.specs.Lists.{log, book_after}
use Rattle.model.proofs.Steps.{step-accepted, step-refused, by-verdict, passed, well-formed-effect}
use Rattle.model.proofs.Books.{Same, book-with-same, same-enter, book-step-accepted, book-step-refused}
use Rattle.model.proofs.Bounds.{Marked, marked-enter}

pub record State (t : Tree) (b : Book) : Type 0 where
  pub formed : WellFormed t
  pub same : Same t b
  pub marked : Marked b.group b.mark

-- a list begins with the book of its tree: every mark is the usage
pub state-begin : (t : Tree) → WellFormed t → State t (book_of t)
state-begin t w = record { formed = w; same = record { machine = refl; groups = refl; places = refl }; marked = λ g l v e. omega arith }

state-enter : (t : Tree) (b : Book) (c : Call) → State t b → verdict t c ≡ Ok tt → State (effect t c) (enter b c)
state-enter t b c s e =
    let k : Pass (checks (facts_of t) c) = passed t c e in
    record {
      formed = well-formed-effect t c s.formed k;
      same = same-enter t b c s.formed s.same;
      marked =
          subst (λ (x : Book). Marked (enter x c).group (enter x c).mark) (book-with-same t b s.same)
          (marked-enter t b.mark s.formed (rw s.same.groups s.marked) c k);
    }

pub state-step : (t : Tree) (b : Book) (c : Call) → State t b → State (step t c) (book_step b c (reply t c).number)
state-step t b c s =
    by-verdict t c
    (λ e. rw (step-accepted t c e, book-step-accepted t b c e) (state-enter t b c s e))
    (λ x e. rw (step-refused t c x e, book-step-refused t b c x e) s)

pub state-run : (cs : List Call) (t : Tree) (b : Book) → State t b → State (run t cs) (book_after t b cs)
unfolding run log fed
state-run [] t b s = s
state-run (c ∷ cs) t b s = state-run cs (step t c) (book_step b c (reply t c).number) (state-step t b c s)
