-- From the test of a goal to the verdict.
--
--     asked-ruled, question-ready  a question that is not refused has all that an evaluation goes by
--     question-row           the row that is decoded for it holds its graph
--     question-own           a question is read with its own goal and start
--     goal-test              the test of the goal where variable 0 stands at the start
--     yes-answer, no_answer  what the test says of the goal and of its dual
--
-- Assumes nothing.
use Prim.Native.Nat.{ℕ, ◌≤◌, ◌<◌}
use native.Mathlib.Omega.{arith}
use mathlib.Core.Path.{◌≡◌, sym, ap, ◌∙◌, subst, subst₂}
use mathlib.Core.Bool.{Bool, true, false}
use mathlib.Core.List.{List, [], ◌∷◌}
use lib.Dec.{T, eqb}
use lib.ListN.{length}
use Rattle.sets.specs.declared.Set.{Set}
use Rattle.model.specs.Graph.{Readable}
use Rattle.model.specs.Formula.{pick, dual, Below}
use Rattle.logic.specs.Meaning.{Holds}
use Rattle.logic.specs.Test.{test, Stand}
use Rattle.logic.proofs.TestMeaning.{test-holds}
use Rattle.logic.proofs.Duality.{dual-holds}
use Rattle.sets.specs.Number.{width}
use Rattle.modal.specs.Row.{Row}
use Rattle.format.specs.Refusal.{Clear}
use Rattle.format.specs.Image.{stages_of, graph_of}
use Rattle.format.specs.Table.{BadRecord, tree_of}
use Rattle.format.specs.Question.{question_conditions}
use Rattle.format.specs.Answers.{QuestionRead}
use Rattle.format.specs.declared.question.Question.{Question}
use Rattle.format.proofs.ReadableLaws.{of-setup, of_image, of-table, sizes, readable, tree-below, goal-below, start-below}
use Rattle.verdict.specs.Evaluation.{Ready, truth_of}
use Rattle.verdict.specs.Verdict.{Answered, goal_test}
use Rattle.hand.specs.Environment.{started}
use Rattle.hand.specs.Setup.{Decoded}
use Rattle.hand.specs.declared.env.Env.{Env}
use Rattle.hand.proofs.EnvironmentLaws.{start-env}
use Rattle.verdict.proofs.DecodeLaws.{decoded-row}

-- The variables at the start, as the code has them.
abbrev pub start_env : ℕ → Env
start_env start = record { slots = start ∷ 0 ∷ 0 ∷ 0 ∷ [] }

-- Every variable stands at a stage.
pub started-stands : {n start : ℕ} → start < n → Stand n (started start)
started-stands {n} {start} h v = go (eqb v 0)
  where
    go : (b : Bool) → pick b start 0 < n
    go true = h
    go false = omega arith

module _ {image table : List ℕ} {goal start : ℕ} (clear : Clear (question_conditions image table goal start)) where
  -- What a question that is not refused has: a readable graph, and a goal over it.
  pub asked-readable : Readable (graph_of image)
  asked-readable = readable image (of_image image table (of-setup image table goal start clear))

  pub asked-below : Below (stages_of image) (tree_of image table goal)
  asked-below = tree-below image table (of-setup image table goal start clear) goal (goal-below image table goal start clear)

  pub asked-stands : Stand (stages_of image) (started start)
  asked-stands = started-stands (start-below image table goal start clear)

  -- No record breaks its rules.
  pub asked-ruled : BadRecord image table → ⊥
  asked-ruled = (of-table image table (of-setup image table goal start clear)).1.1.0

  -- All that an evaluation asks, with a row that holds the graph.
  pub question-ready : {next : List Set} {n : ℕ} → Row next n (graph_of image) → Ready table n goal (start_env start)
  question-ready {n = n} row = record {
    entry = goal-below image table goal start clear;
    stand = subst (Stand n) (sym (start-env start)) (subst (λ (k : ℕ). Stand k (started start)) row.stages asked-stands);
  }

  -- Where the test passes the goal holds, and where it does not its dual does.
  pub yes-answer : goal_test image table goal start ≡ true
      → Answered image table goal start (Holds (graph_of image) (tree_of image table goal) (started start))
  yes-answer e = record {
    clear = clear;
    says = (test-holds asked-readable (tree_of image table goal) (started start) asked-below asked-stands).0 (subst T (sym e) tt);
  }

  pub no_answer : goal_test image table goal start ≡ false
      → Answered image table goal start (Holds (graph_of image) (dual (tree_of image table goal)) (started start))
  no_answer e = record {
    clear = clear;
    says = (dual-holds asked-readable (tree_of image table goal) (started start) asked-below asked-stands).1
        (λ h. subst T e ((test-holds asked-readable (tree_of image table goal) (started start) asked-below asked-stands).1 h));
  }

-- The test of an entry at the start, as the code has the variables, is that of the goal.
pub goal-test : (image table : List ℕ) (goal start : ℕ) {b : Bool} → b ≡ truth_of image table goal (start_env start) → b ≡ goal_test image table goal start
goal-test image table goal start e = e ∙ ap (test (graph_of image) (tree_of image table goal)) (start-env start)

-- A question is read with its own goal and start.
module _ {image table : List ℕ} {goal start : ℕ} {q : Question} (read : QuestionRead image table goal start q) where
  pub own-goal : q.goal ≡ goal
  own-goal = ap (λ (k : Question). k.goal) read.is

  pub own-start : q.start ≡ start
  own-start = ap (λ (k : Question). k.start) read.is

  -- Its row, decoded with as many stages as it says, holds the graph.
  pub question-row : {before row : List Set} → width ≤ length before → Decoded image q.shape.image.stages before row
      → Row row q.shape.image.stages (graph_of image)
  question-row long d =
      let stages : q.shape.image.stages ≡ stages_of image = ap (λ (k : Question). k.shape.image.stages) read.is in
      let few = (sizes image (of_image image table (of-setup image table goal start read.clear))).stages in
      decoded-row stages (omega arith) long d

  -- And it is read with these.
  pub question-own : QuestionRead image table q.goal q.start q
  question-own = subst₂ (λ (g s : ℕ). QuestionRead image table g s q) (sym own-goal) (sym own-start) read

  pub own-test : {b : Bool} → b ≡ goal_test image table q.goal q.start → {c : Bool} → b ≡ c → goal_test image table goal start ≡ c
  own-test e f = ap (λ (g : ℕ). goal_test image table g start) (sym own-goal) ∙ ap (goal_test image table q.goal) (sym own-start) ∙ sym e ∙ f
