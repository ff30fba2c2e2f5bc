-- What the readers of control lines answer: the asks of a line, and where its first bad word is. Assumes nothing.
use Rattle.std.specs.Prelude.{ℕ, ◌+◌, ◌≤◌, List, ◌≡◌, length, take, drop}
use Rattle.std.specs.Borrow.{Bor}
use Rattle.text.specs.declared.line.Span.{Span}
use Rattle.model.specs.Text.{leading_word, starts}
use Rattle.model.specs.Control.{Ask, keep, enable, disable, asked, first_bad, Part}
use Rattle.model.specs.declared.Controller.TheVariants.{Cpu, Io, Memory, Pids}
use Rattle.lines.specs.declared.control.Wish.{Wish}
use Rattle.lines.specs.declared.control.Wish.TheVariants.{Keep, Enable, Disable}
use Rattle.model.specs.declared.PerController.{PerController}

abbrev pub ask_of : Wish → Ask
ask_of Keep = keep
ask_of Enable = enable
ask_of Disable = disable

-- r is what the line asks of each controller
pub record AsksOf (line : List ℕ) (r : PerController Wish) : Type 0 where
  pub cpu : ask_of r.cpu ≡ asked line Cpu
  pub io : ask_of r.io ≡ asked line Io
  pub memory : ask_of r.memory ≡ asked line Memory
  pub pids : ask_of r.pids ≡ asked line Pids

-- p is the word that the text from its first bad word on begins with; the empty part at the end where there is none
pub record BadSpan (text : List ℕ) (p : Span) : Type 0 where
  pub order : p.start ≤ p.end
  pub bound : p.end ≤ length text
  pub left : length text ≡ p.start + length (first_bad (starts text))
  pub size : p.end ≡ p.start + length (leading_word (first_bad (starts text)))

-- r is a part of s: the same memory, and so the same bytes
pub record IsPart (r s : Bor (List ℕ)) (p : Part) : Type 0 where
  pub inside : p.start + p.size ≤ length s.now
  pub block : r.ref_ptr.0 ≡ s.ref_ptr.0
  pub offset : r.ref_ptr.1 ≡ s.ref_ptr.1 + p.start
  pub bytes : r.now ≡ take p.size (drop p.start s.now)
