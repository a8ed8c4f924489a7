-- Document 01, "The example graph" and "Refusal numbers": the one line that the program prints for an input, and what its certificate buffer holds
-- afterwards. 16 comes first; an input that has parts is answered as writing answers them.
use Rattle.std.specs.Prelude.{ℕ, ◌≡◌, List, ◌∷◌, ◌++◌, ◌⊎◌, Option}
use Rattle.format.specs.Refusal.{Condition, Given, Clear}
use Rattle.format.specs.declared.Refusal.{Refusal}
use Rattle.format.specs.declared.Refusal.TheVariants as R
use Rattle.writer.specs.Write.{side_for, certificate, write_conditions}
use Rattle.line.specs.Front.{Front}
use Rattle.line.specs.Framing.{OfShape}
use Rattle.line.specs.Line.{space, line_of, refusal_line, Printed}

-- Of an input that has parts: the refusals of writing into a buffer, the side that holds, and the certificate.
module _ {input : List ℕ} (parts : OfShape input) where
  abbrev pub refusals_of : List ℕ → List Condition
  refusals_of buffer = write_conditions parts.image parts.table parts.goal parts.start buffer

  abbrev pub side_of : ℕ
  side_of = side_for parts.image parts.table parts.goal parts.start

  abbrev pub certificate_of : List ℕ
  certificate_of = certificate parts.image parts.table parts.goal parts.start

-- The input is not of its shape or over its limit: 16, and the buffer as it was.
pub record AnswersSixteen (input before after line : List ℕ) : Type 0 where
  pub shapeless : OfShape input → ⊥
  pub line_is : line ≡ refusal_line R.NotOfShape
  pub kept : after ≡ before

-- It has parts, and writing refuses them: the refusal that is given, and the buffer as it was.
pub record AnswersRefusal (input before after line : List ℕ) : Type 0 where
  pub parts : OfShape input
  pub refusal : Refusal
  pub given : Given (refusals_of parts before) refusal
  pub line_is : line ≡ refusal_line refusal
  pub kept : after ≡ before

-- It has parts that nothing refuses: the side that holds and the certificate, which stands at the buffer's front, the rest kept.
pub record AnswersCertificate (input before after line : List ℕ) : Type 0 where
  pub parts : OfShape input
  pub clear : Clear (refusals_of parts before)
  pub line_is : line ≡ line_of (side_of parts) (certificate_of parts)
  pub front : Front (certificate_of parts) before after

-- The line that answers an input, with a certificate buffer before and after.
abbrev pub Answers : List ℕ → List ℕ → List ℕ → List ℕ → Type 0
Answers input before after line =
    AnswersSixteen input before after line ⊎ (AnswersRefusal input before after line ⊎ AnswersCertificate input before after line)

-- What comes back and what both buffers hold: that line, printed.
pub record Replied (input before after out printed : List ℕ) (r : Option ℕ) : Type 0 where
  pub line : List ℕ
  pub answers : Answers input before after line
  pub prints : Printed line out printed r

-- The word that a line begins with: all before its first space.
pub record Says (word line : List ℕ) : Type 0 where
  pub rest : List ℕ
  pub is : line ≡ word ++ (space ∷ rest)
