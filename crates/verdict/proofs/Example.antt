-- The example of document 01, and two tables that tell apart what is easily confused, on the definitions that the contract of `verdict`
-- cites. Each answer is computed.
--
--     example      goals 2, 4 and 1 of the example table at the starts of the marked cases 1 to 7
--     terms        P(t, b) of arity 2: t is the first term, b the second
--     bindings     EU binds x in a only: were x carried into b, a goal would hold that does not
--
-- Assumes nothing.
use Prim.Native.Nat.{ℕ}
use mathlib.Core.Path.{◌≡◌, refl}
use mathlib.Core.List.{List, [], ◌∷◌}
use Rattle.logic.specs.Test.{iter, each_next, some_next, all_below, any_below}
use Rattle.sets.specs.Number.{stored}
use Rattle.format.specs.Image.{first_set}
use Rattle.format.specs.Table.{operands, trees}
use Rattle.format.specs.Question.{question_conditions}
use Rattle.format.specs.Example.{example_image, example_table}
use Rattle.format.specs.Refusal.{Clear}
use Rattle.format.specs.declared.Refusal.TheVariants as R
use Rattle.format.proofs.Decision.{answer, answer-clear, question-decided}
use Rattle.format.proofs.Example as marked
use Rattle.std.specs.Prelude.{Result, Ok, Err}
use Rattle.format.specs.declared.Refusal.{Refusal}
use Rattle.verdict.specs.Verdict.{VerdictAnswer}
use Rattle.verdict.specs.declared.answer.Verdict.{Verdict}
use Rattle.verdict.specs.declared.answer.Verdict.TheVariants as Ve
use Rattle.verdict.proofs.AnswerLaws.{yes-answer, no_answer}

-- The verdict of the example's goal at a start.
abbrev Example : ℕ → ℕ → Result Verdict Refusal → Type 0
Example goal start r = VerdictAnswer example_image example_table goal start r

-- EU(true, fired) holds at "armed", AF(fired) does not, and at "fired" it does; "true" holds. Goal 0 has variable 1 free, goal 5 is none, and
-- start 3 is none.
pub example :
    Example 2 0 (Ok Ve.Yes)
    × Example 4 0 (Ok Ve.No)
    × Example 4 2 (Ok Ve.Yes)
    × Example 1 1 (Ok Ve.Yes)
    × Example 0 0 (Err R.FreeVariable)
    × Example 5 0 (Err R.NoSuchGoal)
    × Example 2 3 (Err R.NoSuchStart)
unfolding stored first_set trees iter each_next some_next all_below any_below
example = (
  yes-answer (marked.example).0 refl,
  no_answer (marked.example).1 refl,
  yes-answer (marked.example).2 refl,
  yes-answer (marked.example).3 refl,
  (marked.example).4,
  (marked.example).5,
  (marked.example).6,
)

-- Nothing is refused, as computed.
allowed : (image table : List ℕ) (goal start : ℕ)
    → answer (question_conditions image table goal start) (question-decided image table goal start) ≡ 0 → Clear (question_conditions image table goal start)
allowed image table goal start e = answer-clear (question_conditions image table goal start) (question-decided image table goal start) e

-- Two stages that are their own successors, and one predicate of arity 2, true of 0 and 1.
abbrev pair_image : List ℕ
pair_image =
    0x5A ∷ 0x53 ∷ 0x4D ∷ 0 ∷ 1 ∷ 2 ∷ 1 ∷ 2
    ∷ 0 ∷ 0 ∷ 0 ∷ 0 ∷ 0 ∷ 0 ∷ 0 ∷ 1
    ∷ 0 ∷ 0 ∷ 0 ∷ 0 ∷ 0 ∷ 0 ∷ 0 ∷ 2
    ∷ 0 ∷ 0 ∷ 0 ∷ 0 ∷ 0 ∷ 0 ∷ 0 ∷ 2
    ∷ 0 ∷ 0 ∷ 0 ∷ 0 ∷ 0 ∷ 0 ∷ 0 ∷ 0
    ∷ []

-- P(x0, 1) and P(1, x0).
abbrev pair_table : List ℕ
pair_table = 0x5A ∷ 0x53 ∷ 0x46 ∷ 0 ∷ 1 ∷ 2 ∷ 2 ∷ 0 ∷ 1 ∷ 0 ∷ 0 ∷ 0x40 ∷ 2 ∷ 0 ∷ 0x40 ∷ 0 ∷ 0 ∷ 1 ∷ []

pub terms : VerdictAnswer pair_image pair_table 0 0 (Ok Ve.Yes) × VerdictAnswer pair_image pair_table 1 0 (Ok Ve.No)
unfolding stored first_set operands trees iter each_next some_next all_below any_below
terms = (
  yes-answer (allowed pair_image pair_table 0 0 refl) refl,
  no_answer (allowed pair_image pair_table 1 0 refl) refl,
)

-- AX x1 (EU x1 (true) x2 (fired(x1)) @ x1) @ x0: the x1 of the second operand is the one that AX binds, since EU binds x1 in the first alone.
abbrev binding_table : List ℕ
binding_table =
    0x5A ∷ 0x53 ∷ 0x46 ∷ 0 ∷ 1 ∷ 4
    ∷ 0 ∷ 0 ∷ 0 ∷ 0 ∷ 0 ∷ 0
    ∷ 2 ∷ 0 ∷ 0 ∷ 0 ∷ 0 ∷ 0x41
    ∷ 0x0B ∷ 0 ∷ 1 ∷ 1 ∷ 2 ∷ 0x41
    ∷ 6 ∷ 2 ∷ 0 ∷ 1 ∷ 0 ∷ 0x40
    ∷ []

pub bindings : VerdictAnswer example_image binding_table 3 0 (Ok Ve.No)
unfolding stored first_set operands trees iter each_next some_next all_below any_below
bindings = no_answer (allowed example_image binding_table 3 0 refl) refl
