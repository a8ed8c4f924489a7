-- Document 01, "Refusal numbers", checking: 1 to 13, 20, 21, then the steps in order, 25 last; an accepted check returns the side.
use Rattle.std.specs.Prelude.{ℕ, ◌<◌, ◌≡◌, List, [], ◌∷◌, ◌++◌, ltb, length, Result, Ok, Err}
use Rattle.model.specs.Formula.{pick}
use Rattle.sets.specs.Number.{width}
use Rattle.format.specs.Refusal.{number, Condition, Given, Clear}
use Rattle.format.specs.Coded.{coded_by}
use Rattle.format.specs.Image.{graph_of}
use Rattle.format.specs.Table.{tree_of}
use Rattle.format.specs.Question.{question_conditions}
use Rattle.format.specs.declared.Refusal.{Refusal}
use Rattle.format.specs.declared.Refusal.TheVariants as R
use Rattle.rules.specs.Reading.{read_formula, Progress}
use Rattle.rules.specs.declared.Stop.{Stop}
use Rattle.hand.specs.Environment.{started}
use Rattle.hand.specs.Side.{sided}
use Rattle.checker.specs.Header.{side_of, header_conditions}
use Rattle.checker.specs.declared.answer.Fault.{Fault}

-- The reading of a certificate's steps, from the place after its header: what proves the goal's formula on the side that it names.
unfoldable pub reading : List ℕ → List ℕ → List ℕ → ℕ → ℕ → Progress
reading image table certificate goal start =
    read_formula width (graph_of image) certificate (sided (side_of certificate) (tree_of image table goal)) (started start) 8

-- The refusals of the steps, by how far their reading came.
abbrev pub step_conditions : List ℕ → Progress → List Condition
step_conditions certificate p =
    record { refusal = R.ByteMissing; holds = p ≡ Err Stop.Missing }
    ∷ record { refusal = R.WrongCode; holds = (place : ℕ) × (p ≡ Err (Stop.Wrong place)) }
    ∷ record { refusal = R.ConditionFails; holds = (place : ℕ) × (p ≡ Err (Stop.Fails place)) }
    ∷ record { refusal = R.BytesRemain; holds = (end : ℕ) × (p ≡ Ok end) × (end < length certificate) }
    ∷ []

-- The refusals of a check, in their order: those before the steps, and all.
abbrev pub outer_conditions : List ℕ → List ℕ → List ℕ → ℕ → ℕ → List Condition
outer_conditions image table certificate goal start = question_conditions image table goal start ++ header_conditions certificate goal start

abbrev pub check_conditions : List ℕ → List ℕ → List ℕ → ℕ → ℕ → List Condition
check_conditions image table certificate goal start =
    outer_conditions image table certificate goal start ++ step_conditions certificate (reading image table certificate goal start)

-- The place of a fault: in the steps, where their reading broke, which for a missing byte is the certificate's end.
abbrev pub broke : List ℕ → Progress → ℕ
broke certificate (Ok place) = place
broke certificate (Err Stop.Missing) = length certificate
broke certificate (Err (Stop.Wrong place)) = place
broke certificate (Err (Stop.Fails place)) = place

-- A certificate is accepted: nothing is refused, and its steps are read to its end.
pub record Accepted (image table certificate : List ℕ) (goal start side : ℕ) : Type 0 where
  pub clear : Clear (outer_conditions image table certificate goal start)
  pub side_is : side ≡ side_of certificate
  pub steps : reading image table certificate goal start ≡ Ok (length certificate)

-- A refusal with the place of the fault.
abbrev pub fault_at : Refusal → ℕ → Fault
fault_at k place = record { refusal = k; place = place }

-- A refusal where document 01 gives it.
abbrev pub CheckAnswer : List ℕ → List ℕ → List ℕ → ℕ → ℕ → Result ℕ Refusal → Type 0
CheckAnswer image table certificate goal start (Ok side) = Accepted image table certificate goal start side
CheckAnswer image table certificate goal start (Err k) = Given (check_conditions image table certificate goal start) k

-- The same with the place of the fault, which is 0 for the refusals that are given before the steps.
pub record RefusedAt (image table certificate : List ℕ) (goal start : ℕ) (k : Refusal) (place : ℕ) : Type 0 where
  pub given : Given (check_conditions image table certificate goal start) k
  pub place_is : place ≡ pick (ltb (number k) 22) 0 (broke certificate (reading image table certificate goal start))

abbrev pub CheckedAnswer : List ℕ → List ℕ → List ℕ → ℕ → ℕ → Result ℕ Fault → Type 0
CheckedAnswer image table certificate goal start (Ok side) = Accepted image table certificate goal start side
CheckedAnswer image table certificate goal start (Err f) = RefusedAt image table certificate goal start f.refusal f.place

-- What is said of the steps alone.
abbrev pub StepsAnswer : List ℕ → Progress → Result ℕ Fault → Type 0
StepsAnswer certificate p (Ok side) = (side ≡ side_of certificate) × (p ≡ Ok (length certificate))
StepsAnswer certificate p (Err f) = Given (step_conditions certificate p) f.refusal × (f.place ≡ broke certificate p)

-- The coding of an answer for callers in C: a refusal is its number, an accepted side 128 more than the side.
abbrev pub coded : Result ℕ Refusal → ℕ
coded = coded_by (λ side. side)

pub record CodedAnswer (image table certificate : List ℕ) (goal start r : ℕ) : Type 0 where
  pub answer : Result ℕ Refusal
  pub says : CheckAnswer image table certificate goal start answer
  pub code : r ≡ coded answer
