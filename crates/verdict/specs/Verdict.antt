-- Document 01, the verdict: yes or no, or the first of the refusals 1 to 13.
use Rattle.std.specs.Prelude.{ℕ, ◌≡◌, Bool, List, Result, Ok, Err}
use Rattle.model.specs.Formula.{dual}
use Rattle.logic.specs.Meaning.{Holds}
use Rattle.logic.specs.Test.{test}
use Rattle.format.specs.Refusal.{Given, Clear}
use Rattle.format.specs.Coded.{coded_by}
use Rattle.format.specs.declared.Refusal.{Refusal}
use Rattle.format.specs.Image.{graph_of}
use Rattle.format.specs.Table.{tree_of}
use Rattle.format.specs.Question.{question_conditions}
use Rattle.hand.specs.Environment.{started}
use Rattle.verdict.specs.declared.answer.Verdict.{Verdict}
use Rattle.verdict.specs.declared.answer.Verdict.TheVariants as Ve

-- A question that is not refused, and what is said of its goal.
pub record Answered (image table : List ℕ) (goal start : ℕ) (holds : Type 0) : Type 0 where
  pub clear : Clear (question_conditions image table goal start)
  pub says : holds

-- Yes where the goal holds at the start, no where its dual does; a refusal where document 01 gives it.
abbrev pub VerdictAnswer : List ℕ → List ℕ → ℕ → ℕ → Result Verdict Refusal → Type 0
VerdictAnswer image table goal start (Ok Ve.Yes) = Answered image table goal start (Holds (graph_of image) (tree_of image table goal) (started start))
VerdictAnswer image table goal start (Ok Ve.No) = Answered image table goal start (Holds (graph_of image) (dual (tree_of image table goal)) (started start))
VerdictAnswer image table goal start (Err k) = Given (question_conditions image table goal start) k

-- The coding of an answer for callers in C: a refusal is its number, yes is 128, no is 129.
abbrev pub extra_of : Verdict → ℕ
extra_of Ve.Yes = 0
extra_of Ve.No = 1

abbrev pub coded : Result Verdict Refusal → ℕ
coded = coded_by extra_of

pub record CodedAnswer (image table : List ℕ) (goal start r : ℕ) : Type 0 where
  pub verdict : Result Verdict Refusal
  pub answer : VerdictAnswer image table goal start verdict
  pub code : r ≡ coded verdict

-- The executable test of the goal at the start.
abbrev pub goal_test : List ℕ → List ℕ → ℕ → ℕ → Bool
goal_test image table goal start = test (graph_of image) (tree_of image table goal) (started start)
