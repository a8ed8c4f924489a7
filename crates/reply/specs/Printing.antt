-- What the writing of the certificate that an input asks for says. Nothing that document 01 states is defined here.
use Rattle.std.specs.Prelude.{ℕ, ◌≤◌, List, length, take, Result, Ok, Err}
use Rattle.format.specs.declared.Refusal.{Refusal}
use Rattle.writer.specs.declared.answer.Written.{Written}
use Rattle.line.specs.Line.{line_of, refusal_line}
use Rattle.reply.specs.Reply.{Answers}

-- The certificate lies in its buffer.
abbrev pub Inside : Result Written Refusal → List ℕ → Type 0
Inside (Ok w) buffer = w.length ≤ length buffer
Inside (Err k) buffer = Unit {0}

-- The line of an answer, with the certificate at its buffer's front.
abbrev pub answer_line : Result Written Refusal → List ℕ → List ℕ
answer_line (Ok w) buffer = line_of w.side (take w.length buffer)
answer_line (Err k) buffer = refusal_line k

-- The line of what was answered is the input's.
pub record Wrote (input before after : List ℕ) (answer : Result Written Refusal) : Type 0 where
  pub inside : Inside answer after
  pub answers : Answers input before after (answer_line answer after)
