-- The program between a reader and a writer, whose bytes are known or not: what it took from the reader is the whole input, or as much of a longer one as shows
-- that it is too long, and it gave the writer the line that answers that input, whatever stood in a certificate buffer of the program's size.
use Rattle.std.specs.Prelude.{ℕ, ◌+◌, ◌≤◌, ◌≡◌, ◌⊎◌, List, length, Option}
use Rattle.std.specs.Io.KnownBytes.{Consumes, Appends, IsAtEnd}
use Rattle.line.specs.Framing.{limit}
use Rattle.line.specs.Line.{certificate_buffer}
use Rattle.reply.specs.Reply.{Answers}

-- So many bytes as there is room for were read, or nothing is left.
abbrev pub ReadWhole : ℕ → Option (List ℕ) → ℕ → Type 0
ReadWhole room left n = (n ≡ room) ⊎ IsAtEnd left

pub record Answered (had left held holds : Option (List ℕ)) : Type 0 where
  pub input : List ℕ
  pub taken : Consumes had left input
  pub most : length input ≤ limit + 1
  pub whole : ReadWhole (limit + 1) left (length input)
  pub before : List ℕ
  pub sized : length before ≡ certificate_buffer
  pub after : List ℕ
  pub line : List ℕ
  pub answers : Answers input before after line
  pub given : Appends held holds line
