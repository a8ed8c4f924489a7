-- What it is for a service to answer, with what it leaves in the lent certificate buffer; and when each refusal of checking and of the program is given.
-- The refusals of the others are lists of conditions in their own crates: `question_conditions` (1 to 13), `write_conditions` (then 14), `report_conditions`
-- (1 to 5, then 15).
use Rattle.std.specs.Prelude.{ℕ, ◌≡◌, List, [], ◌∷◌, ◌++◌, ◌↔◌, ◌⊎◌}
use Rattle.format.specs.Refusal.{Condition, Given, Clear}
use Rattle.format.specs.Image.{graph_of}
use Rattle.format.specs.Table.{tree_of}
use Rattle.format.specs.Question.{question_conditions}
use Rattle.format.specs.declared.Refusal.{Refusal}
use Rattle.format.specs.declared.Refusal.TheVariants as R
use Rattle.hand.specs.Environment.{started}
use Rattle.hand.specs.Side.{sided}
use Rattle.rules.specs.Shape.{Entry}
use Rattle.rules.specs.Refusals.{Given22, Given23, Given24, Given25}
use Rattle.checker.specs.Header.{side_of, header_conditions}
use Rattle.line.specs.Framing.{OfShape}
use Rattle.reply.specs.Reply.{refusals_of}

-- A service whose answers are as `Answers` says: there is an answer, there is one only, and it is refusal k exactly when document 01 gives k.
pub record Serves {A : Type 0} (Answers : A → Type 0) (refused : Refusal → A) (Gives : Refusal → Type 0) : Type 0 where
  pub some : (r : A) × Answers r
  pub one : (r s : A) → Answers r → Answers s → r ≡ s
  pub refuses : (r : A) → Answers r → (k : Refusal) → (r ≡ refused k) ↔ Gives k

-- An answer, and what the lent certificate buffer holds afterwards.
pub record Left (A : Type 0) : Type 0 where
  pub answer : A
  pub buffer : List ℕ

-- Where a condition of the row holds no later one does: their order does not matter.
abbrev pub Apart : List Condition → Type 0
Apart [] = Unit {0}
Apart (c ∷ cs) = (c.holds → Clear cs) × Apart cs

module _ (image table certificate : List ℕ) (goal start : ℕ) where
  -- What a certificate is to prove: the goal's formula on the side that it names, where variable 0 stands at the start.
  abbrev pub to_prove : Entry
  to_prove = record { formula = sided (side_of certificate) (tree_of image table goal); env = started start }

  -- 22 to 25, of the steps, which begin after the 8 bytes of the header: in terms of derivations and bytes, each with the place of the fault.
  abbrev pub step_refusals : List Condition
  step_refusals =
      record { refusal = R.ByteMissing; holds = (place : ℕ) × Given22 (graph_of image) certificate to_prove 8 place }
      ∷ record { refusal = R.WrongCode; holds = (place : ℕ) × Given23 (graph_of image) certificate to_prove 8 place }
      ∷ record { refusal = R.ConditionFails; holds = (place : ℕ) × Given24 (graph_of image) certificate to_prove 8 place }
      ∷ record { refusal = R.BytesRemain; holds = (place : ℕ) × Given25 (graph_of image) certificate to_prove 8 place }
      ∷ []

  -- Checking: 1 to 13, 20, 21, then the steps.
  abbrev pub head_refusals : List Condition
  head_refusals = question_conditions image table goal start ++ header_conditions certificate goal start

  abbrev pub check_refusals : List Condition
  check_refusals = head_refusals ++ step_refusals

-- The program: 16 first, where the input is not of its shape or over its limit; then as writing, of the parts that the input has.
abbrev pub ProgramGives : List ℕ → List ℕ → Refusal → Type 0
ProgramGives input buffer k = ((k ≡ R.NotOfShape) × (OfShape input → ⊥)) ⊎ ((parts : OfShape input) × Given (refusals_of parts buffer) k)
