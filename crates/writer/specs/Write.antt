-- Document 01, writing: the certificate of the side that holds, the refusals 1 to 13 and then 14, and what the buffer holds afterwards.
use Rattle.std.specs.Prelude.{ℕ, ◌<◌, ◌≡◌, Bool, true, false, List, [], ◌∷◌, ◌++◌, length, drop, Result, Ok, Err}
use Rattle.format.specs.Refusal.{Condition, Given, Clear}
use Rattle.format.specs.Coded.{coded_by}
use Rattle.format.specs.Image.{graph_of}
use Rattle.format.specs.Table.{tree_of}
use Rattle.format.specs.Question.{question_conditions}
use Rattle.format.specs.declared.Refusal.{Refusal}
use Rattle.format.specs.declared.Refusal.TheVariants as R
use Rattle.hand.specs.Environment.{started}
use Rattle.hand.specs.Side.{sided}
use Rattle.verdict.specs.Verdict.{goal_test}
use Rattle.written.specs.Written.{written}
use Rattle.checker.specs.Header.{header_of}
use Rattle.writer.specs.declared.answer.Written.{Written}

-- The side that holds: 0, the goal, where its test passes, else 1, its dual. The test decides the meaning over paths: `side-exactly` in `proofs/Promise`
-- shows that of the two sides this is the one that holds.
abbrev pub side_by : Bool → ℕ
side_by true = 0
side_by false = 1

abbrev pub side_for : List ℕ → List ℕ → ℕ → ℕ → ℕ
side_for image table goal start = side_by (goal_test image table goal start)

-- The certificate of a side, and the one that we write: a header, and the steps of the side that holds.
abbrev pub certificate_on : List ℕ → List ℕ → ℕ → ℕ → ℕ → List ℕ
certificate_on image table goal start side = header_of side goal start ++ written (graph_of image) (sided side (tree_of image table goal)) (started start)

unfoldable pub certificate : List ℕ → List ℕ → ℕ → ℕ → List ℕ
certificate image table goal start = certificate_on image table goal start (side_for image table goal start)

-- 14: the certificate is longer than the lent buffer, over all natural lengths.
abbrev pub room_conditions : List ℕ → List ℕ → ℕ → ℕ → List ℕ → List Condition
room_conditions image table goal start buffer =
    record { refusal = R.BufferTooShort; holds = length buffer < length (certificate image table goal start) } ∷ []

-- The refusals of writing, in their order.
abbrev pub write_conditions : List ℕ → List ℕ → ℕ → ℕ → List ℕ → List Condition
write_conditions image table goal start buffer = question_conditions image table goal start ++ room_conditions image table goal start buffer

-- A certificate was written: nothing is refused, its side and its length are those returned, and it stands at the buffer's front, the rest kept.
pub record Certified (image table : List ℕ) (goal start : ℕ) (before after : List ℕ) (side size : ℕ) : Type 0 where
  pub clear : Clear (write_conditions image table goal start before)
  pub side_is : side ≡ side_for image table goal start
  pub size_is : size ≡ length (certificate image table goal start)
  pub bytes : after ≡ certificate image table goal start ++ drop size before

-- A refusal where document 01 gives it, and no byte changed.
pub record Refused (image table : List ℕ) (goal start : ℕ) (before after : List ℕ) (k : Refusal) : Type 0 where
  pub given : Given (write_conditions image table goal start before) k
  pub kept : after ≡ before

abbrev pub WriteAnswer : List ℕ → List ℕ → ℕ → ℕ → List ℕ → List ℕ → Result Written Refusal → Type 0
WriteAnswer image table goal start before after (Ok w) = Certified image table goal start before after w.side w.length
WriteAnswer image table goal start before after (Err k) = Refused image table goal start before after k

-- A certificate of a side and a length.
abbrev pub written_as : ℕ → ℕ → Written
written_as side size = record { side = side; length = size }

-- The coding of an answer for callers in C: a refusal is its number, a certificate 128 more than its side; and what a lent number for the length holds.
abbrev pub coded : Result Written Refusal → ℕ
coded = coded_by (λ w. w.side)

abbrev pub length_after : ℕ → Result Written Refusal → ℕ
length_after lent (Ok w) = w.length
length_after lent (Err k) = lent

pub record CodedAnswer (image table : List ℕ) (goal start : ℕ) (before after : List ℕ) (lent left r : ℕ) : Type 0 where
  pub answer : Result Written Refusal
  pub says : WriteAnswer image table goal start before after answer
  pub code : r ≡ coded answer
  pub length_is : left ≡ length_after lent answer
