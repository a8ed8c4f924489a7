-- Document 01, "Goal": an entry number, and a start stage that is the value of variable 0; and the conditions of the refusals 11 to 13.
use Rattle.std.specs.Prelude.{ℕ, ◌≤◌, List, [], ◌∷◌, ◌++◌}
use Rattle.model.specs.Formula.{Free}
use Rattle.format.specs.Image.{stages_of, image_conditions}
use Rattle.format.specs.Table.{entries_of, tree_of, table_conditions}
use Rattle.format.specs.Refusal.{Condition}
use Rattle.format.specs.declared.Refusal.TheVariants as R

-- Variable 1, 2 or 3 is free in the goal.
pub record OtherFree (image table : List ℕ) (goal : ℕ) : Type 0 where
  pub variable : ℕ
  pub from : 1 ≤ variable
  pub to : variable ≤ 3
  pub free : Free variable (tree_of image table goal)

-- The refusals of a goal and start, in their order.
abbrev pub goal_conditions : List ℕ → List ℕ → ℕ → ℕ → List Condition
goal_conditions image table goal start =
    record { refusal = R.NoSuchGoal; holds = entries_of table ≤ goal }
    ∷ record { refusal = R.NoSuchStart; holds = stages_of image ≤ start }
    ∷ record { refusal = R.FreeVariable; holds = OtherFree image table goal }
    ∷ []

-- The refusals of an image and a table; and of these with a goal and a start: 1 to 13.
abbrev pub setup_conditions : List ℕ → List ℕ → List Condition
setup_conditions image table = image_conditions image ++ table_conditions image table

abbrev pub question_conditions : List ℕ → List ℕ → ℕ → ℕ → List Condition
question_conditions image table goal start = setup_conditions image table ++ goal_conditions image table goal start
