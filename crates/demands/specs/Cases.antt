-- Document 01, the marked cases 1 to 13: one table, on the document's example graph and table, and what it is for a row of it to come out. The contracts of
-- the program's line (`Answers`) and of the check (`CheckAnswer`) say what comes out.
use Rattle.std.specs.Prelude.{ℕ, ◌≡◌, List, [], ◌∷◌, ◌++◌, length, Err}
use Prim.Native.String.{String}
use Rattle.format.specs.Example.{example_image, example_table}
use Rattle.format.specs.declared.Refusal.{Refusal}
use Rattle.checker.specs.Check.{CheckAnswer}
use Rattle.checker.specs.Certificate.{Bytes}
use Rattle.line.specs.Framing.{framed}
use Rattle.line.specs.Text.{ascii, hex}
use Rattle.line.specs.Line.{line_feed, refusal_line, certificate_buffer}
use Rattle.reply.specs.Reply.{Answers}

-- What is asked: the program, for a goal and a start, with a certificate buffer of so many bytes; or the check of a certificate, in hex, for a goal and
-- a start.
pub data Question : Type 0 where
  ask : (goal start room : ℕ) → Question
  check : (goal start : ℕ) → String → Question

-- A row: the number of the case, what is asked, and the line without its line feed.
pub record Case : Type 0 where
  pub number : ℕ
  pub question : Question
  pub answer : String

abbrev case : ℕ → Question → String → Case
case n q a = record { number = n; question = q; answer = a }

-- The program prints the line whatever its buffer held; the check of the bytes is refused, and that is the line of the refusal.
abbrev pub ComesOut : Question → List ℕ → Type 0
ComesOut (ask goal start room) line =
    (before : List ℕ) → length before ≡ room → (after : List ℕ) × Answers (framed example_image example_table goal start) before after line
ComesOut (check goal start text) line =
    (certificate : List ℕ) × Bytes certificate × (hex certificate ≡ ascii text) × (k : Refusal) × (refusal_line k ≡ line)
    × CheckAnswer example_image example_table certificate goal start (Err k)

-- Every row of a table comes out so.
abbrev pub All : List Case → Type 0
All [] = Unit {0}
All (c ∷ cs) = ComesOut c.question (ascii c.answer ++ (line_feed ∷ [])) × All cs

-- The table: case, question, answer.
abbrev pub cases : List Case
cases =
    case 1 (ask 2 0 certificate_buffer) "yes 16 5A534300010002001001001002000F01"
    ∷ case 2 (ask 4 0 certificate_buffer) "no 12 5A534300010104000A00020B"
    ∷ case 3 (ask 4 2 certificate_buffer) "yes 10 5A534300010004020801"
    ∷ case 4 (ask 1 1 certificate_buffer) "yes 9 5A5343000100010100"
    ∷ case 5 (ask 0 0 certificate_buffer) "refused 13"
    ∷ case 6 (ask 5 0 certificate_buffer) "refused 11"
    ∷ case 7 (ask 2 3 certificate_buffer) "refused 12"
    -- case 1 into 15 bytes, and into 16
    ∷ case 8 (ask 2 0 15) "refused 14"
    ∷ case 8 (ask 2 0 16) "yes 16 5A534300010002001001001002000F01"
    -- case 1 with the first choice 02; one byte short; one byte more
    ∷ case 9 (check 2 0 "5A534300010002001002001002000F01") "refused 24"
    ∷ case 10 (check 2 0 "5A534300010002001001001002000F") "refused 22"
    ∷ case 10 (check 2 0 "5A534300010002001001001002000F0100") "refused 25"
    -- case 2 with only the step 0B; case 1 with 100000 put before its steps; case 2 with side 0
    ∷ case 11 (check 4 0 "5A534300010104000B") "refused 24"
    ∷ case 12 (check 2 0 "5A534300010002001000001001001002000F01") "refused 24"
    ∷ case 13 (check 4 0 "5A534300010004000A00020B") "refused 23"
    ∷ []
