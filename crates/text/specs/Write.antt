-- What a delivery does to the caller's buffer: document 01, "What a reader sees".
-- Assumes nothing.
use Rattle.model.specs.Checks.{Answer, ReadAnswer}
use Rattle.std.specs.Prelude.{ℕ, List, ◌≡◌, Ok, Err}
use Rattle.model.specs.Functions.{pick}
use Rattle.model.specs.Files.{fits}
use Rattle.model.specs.Replies.{read_answer, buffer_after}
use Rattle.model.specs.declared.Errno.{Errno}

-- 28: "reply buffer shorter than the reply"
abbrev pub delivery : List ℕ → List ℕ → Answer
delivery text buffer = pick (fits text buffer) (Ok tt) (Err Errno.Enospc)

-- the answer and the whole buffer after a delivery
pub record Delivers (text old : List ℕ) (r : ReadAnswer) (new : List ℕ) : Type 0 where
  pub answer : r ≡ read_answer (delivery text old) text
  pub buffer : new ≡ buffer_after (delivery text old) text old
