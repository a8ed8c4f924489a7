-- The example of document 01, on the definitions that the readers' contracts cite, as one table: a goal, a start, and the number of the
-- refusal that is given, 0 where nothing is refused. Each row is computed.
use Prim.Native.Nat.{ℕ}
use mathlib.Core.Path.{◌≡◌, refl}
use Rattle.sets.specs.Number.{stored}
use Rattle.format.specs.Refusal.{number, Given, Clear}
use Rattle.format.specs.Image.{first_set}
use Rattle.format.specs.Table.{operands, trees}
use Rattle.format.specs.Question.{question_conditions}
use Rattle.format.specs.Example.{example_image, example_table}
use Rattle.format.specs.declared.Refusal.{Refusal}
use Rattle.format.specs.declared.Refusal.TheVariants as R
use Rattle.format.proofs.Decision.{answer, answer-given, answer-clear, question-decided}

-- The number that a goal and a start get on the example.
abbrev asked : ℕ → ℕ → ℕ
asked goal start = answer (question_conditions example_image example_table goal start) (question-decided example_image example_table goal start)

-- The example is refused with k, or not at all.
abbrev Refused : ℕ → ℕ → Refusal → Type 0
Refused goal start k = Given (question_conditions example_image example_table goal start) k

abbrev Allowed : ℕ → ℕ → Type 0
Allowed goal start = Clear (question_conditions example_image example_table goal start)

refused : (goal start : ℕ) (k : Refusal) → asked goal start ≡ number k → Refused goal start k
refused goal start k e =
    answer-given (question_conditions example_image example_table goal start) (question-decided example_image example_table goal start) k e

allowed : (goal start : ℕ) → asked goal start ≡ 0 → Allowed goal start
allowed goal start e =
    answer-clear (question_conditions example_image example_table goal start) (question-decided example_image example_table goal start) e

-- The table: goal 2 at 0, goal 4 at 0 and 2 and goal 1 at 1 are allowed, so image and table are readable; goal 0 gives 13 (marked case 5),
-- goal 5 gives 11 (6), start 3 gives 12 (7); goal 5 with start 3 gives 11, goal 0 with start 3 gives 12.
pub example :
    Allowed 2 0
    × Allowed 4 0
    × Allowed 4 2
    × Allowed 1 1
    × Refused 0 0 R.FreeVariable
    × Refused 5 0 R.NoSuchGoal
    × Refused 2 3 R.NoSuchStart
    × Refused 5 3 R.NoSuchGoal
    × Refused 0 3 R.NoSuchStart
unfolding stored first_set operands trees
example = (
  allowed 2 0 refl,
  allowed 4 0 refl,
  allowed 4 2 refl,
  allowed 1 1 refl,
  refused 0 0 R.FreeVariable refl,
  refused 5 0 R.NoSuchGoal refl,
  refused 2 3 R.NoSuchStart refl,
  refused 5 3 R.NoSuchGoal refl,
  refused 0 3 R.NoSuchStart refl,
)
