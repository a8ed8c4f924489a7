-- Document 01, "Refusal numbers": the number of each refusal, and which one is given of several whose condition holds.
use Rattle.std.specs.Prelude.{ℕ, ◌≡◌, List, [], ◌∷◌, ◌⊎◌}
use Rattle.format.specs.declared.Refusal.{Refusal}
use Rattle.format.specs.declared.Refusal.TheVariants as R

-- Document 01's number of each.
abbrev pub number : Refusal → ℕ
number R.ImageStart = 1
number R.ImageSizes = 2
number R.ImageLength = 3
number R.BitTooHigh = 4
number R.NoSuccessor = 5
number R.TableStart = 6
number R.TableLength = 7
number R.BadRecord = 8
number R.OperandTwice = 9
number R.NestedTooDeep = 10
number R.NoSuchGoal = 11
number R.NoSuchStart = 12
number R.FreeVariable = 13
number R.BufferTooShort = 14
number R.NothingFires = 15
number R.NotOfShape = 16
number R.CertificateStart = 20
number R.OtherQuestion = 21
number R.ByteMissing = 22
number R.WrongCode = 23
number R.ConditionFails = 24
number R.BytesRemain = 25

-- A refusal and the condition under which document 01 gives it.
pub record Condition : Type 1 where
  pub refusal : Refusal
  pub holds : Type 0

-- Of a service's conditions, in its order: k is given exactly when its condition holds and no earlier one does.
abbrev pub Given : List Condition → Refusal → Type 0
Given [] k = ⊥
Given (c ∷ cs) k = ((k ≡ c.refusal) × c.holds) ⊎ ((c.holds → ⊥) × Given cs k)

-- No condition holds: nothing is refused.
abbrev pub Clear : List Condition → Type 0
Clear [] = Unit {0}
Clear (c ∷ cs) = (c.holds → ⊥) × Clear cs
