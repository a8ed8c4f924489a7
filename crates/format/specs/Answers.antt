-- What the readers answer: the shape of what they read where no condition of document 01 holds, or else the refusal that is given.
use Rattle.std.specs.Prelude.{ℕ, ◌≡◌, List, Result, Ok, Err}
use Rattle.format.specs.Refusal.{Given, Clear}
use Rattle.format.specs.Image.{stages_of, predicates_of, sets_in, image_conditions}
use Rattle.format.specs.Table.{entries_of}
use Rattle.format.specs.Question.{setup_conditions, question_conditions}
use Rattle.format.specs.declared.Refusal.{Refusal}
use Rattle.format.specs.declared.image.Shape.{Shape as ImageShape}
use Rattle.format.specs.declared.table.Shape.{Shape as TableShape}
use Rattle.format.specs.declared.question.Question.{Question}

-- The shape that the bytes give.
abbrev pub image_shape : List ℕ → ImageShape
image_shape image = record { stages = stages_of image; predicates = predicates_of image; sets = sets_in image }

abbrev pub table_shape : List ℕ → List ℕ → TableShape
table_shape image table = record { image = image_shape image; entries = entries_of table }

-- An image was read.
pub record ImageRead (image : List ℕ) (shape : ImageShape) : Type 0 where
  pub clear : Clear (image_conditions image)
  pub is : shape ≡ image_shape image

abbrev pub ImageAnswer : List ℕ → Result ImageShape Refusal → Type 0
ImageAnswer image (Ok shape) = ImageRead image shape
ImageAnswer image (Err k) = Given (image_conditions image) k

-- An image and a table were read.
pub record TableRead (image table : List ℕ) (shape : TableShape) : Type 0 where
  pub clear : Clear (setup_conditions image table)
  pub is : shape ≡ table_shape image table

abbrev pub TableAnswer : List ℕ → List ℕ → Result TableShape Refusal → Type 0
TableAnswer image table (Ok shape) = TableRead image table shape
TableAnswer image table (Err k) = Given (setup_conditions image table) k

abbrev pub question_of : List ℕ → List ℕ → ℕ → ℕ → Question
question_of image table goal start = record { shape = table_shape image table; goal = goal; start = start }

-- A goal and a start were read with an image and a table.
pub record QuestionRead (image table : List ℕ) (goal start : ℕ) (q : Question) : Type 0 where
  pub clear : Clear (question_conditions image table goal start)
  pub is : q ≡ question_of image table goal start

abbrev pub QuestionAnswer : List ℕ → List ℕ → ℕ → ℕ → Result Question Refusal → Type 0
QuestionAnswer image table goal start (Ok q) = QuestionRead image table goal start q
QuestionAnswer image table goal start (Err k) = Given (question_conditions image table goal start) k
