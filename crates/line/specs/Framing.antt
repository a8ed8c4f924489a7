-- Document 01, "The example graph": the program's input is a 16-bit length, the image, a 16-bit length, the table, the goal byte, the start
-- byte, nothing more, at most 16,384 bytes in all; and the condition of refusal 16.
use Rattle.std.specs.Prelude.{ℕ, ◌/◌, ◌%◌, ◌≤◌, ◌≡◌, List, [], ◌∷◌, ◌++◌, length, Result, Ok, Err}
use Rattle.format.specs.Refusal.{Condition, Given}
use Rattle.format.specs.declared.Refusal.{Refusal}
use Rattle.format.specs.declared.Refusal.TheVariants as R
use Rattle.line.specs.declared.frame.Parts.{Parts}

-- A 16-bit number, big-endian.
abbrev pub word : ℕ → List ℕ
word n = n / 256 ∷ n % 256 ∷ []

-- A part after its length, and what follows it.
abbrev pub counted : List ℕ → List ℕ → List ℕ
counted part rest = word (length part) ++ (part ++ rest)

-- The parts in their order, each of the two after its length.
abbrev pub framed : List ℕ → List ℕ → ℕ → ℕ → List ℕ
framed image table goal start = counted image (counted table (goal ∷ start ∷ []))

-- How many bytes there may be in all.
abbrev pub limit : ℕ
limit = 16384

-- An input has these parts.
pub record Framed (image table : List ℕ) (goal start : ℕ) (input : List ℕ) : Type 0 where
  pub is : input ≡ framed image table goal start
  pub most : length input ≤ limit

-- An input is of the program's shape and within its limit.
pub record OfShape (input : List ℕ) : Type 0 where
  pub image : List ℕ
  pub table : List ℕ
  pub goal : ℕ
  pub start : ℕ
  pub parts : Framed image table goal start input

-- 16 comes first of all that the program refuses.
abbrev pub frame_conditions : List ℕ → List Condition
frame_conditions input = record { refusal = R.NotOfShape; holds = OfShape input → ⊥ } ∷ []

-- An input was taken apart: these are its parts, and of its limit nothing is said.
abbrev pub PartsOf : List ℕ → Parts → Type 0
PartsOf input p = input ≡ framed p.image.now p.table.now p.goal p.start

-- The answer: the parts of an input of the program's shape, or the refusal that is given.
abbrev pub FrameAnswer : List ℕ → Result Parts Refusal → Type 0
FrameAnswer input (Ok p) = Framed p.image.now p.table.now p.goal p.start input
FrameAnswer input (Err k) = Given (frame_conditions input) k

-- What an answer shows: the parts, as bytes and numbers, or the refusal.
abbrev pub shown : Result Parts Refusal → Result (List ℕ × List ℕ × ℕ × ℕ) Refusal
shown (Ok p) = Ok (p.image.now, p.table.now, p.goal, p.start)
shown (Err k) = Err k

-- What the code finds where it finds nothing: no part after its length at the front; no parts of an input.
abbrev pub NoPart : List ℕ → Type 0
NoPart bytes = (part rest : List ℕ) → bytes ≡ counted part rest → ⊥

abbrev pub NoParts : List ℕ → Type 0
NoParts input = (image table : List ℕ) (goal start : ℕ) → input ≡ framed image table goal start → ⊥
