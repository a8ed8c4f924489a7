-- What each kind says of its operands, with what its operands say put in.
use Rattle.std.specs.Prelude.{ℕ, ◌<◌, ◌≡◌, Bool, true, false, not, ◌&&◌, ◌||◌}
use Rattle.std.specs.Int.Bits.{bit_and, bit_or}
use Rattle.model.specs.Graph.{Graph}
use Rattle.logic.specs.Test.{Stages, each_next, some_next, af, eg, ar, eu}
use Rattle.modal.specs.Row.{member}
use Rattle.format.specs.declared.record.Kind.{Kind}
use Rattle.format.specs.declared.record.Kind.TheVariants as K

-- The first kind of each pair of duals, as document 01 lists them: true/false, P/not P, and/or, AX/EX, AF/EG and AR/EU.
abbrev pub is_first : Kind → Bool
is_first K.True = true
is_first K.False = false
is_first K.Is = true
is_first K.IsNot = false
is_first K.And = true
is_first K.Or = false
is_first K.AX = true
is_first K.EX = false
is_first K.AF = true
is_first K.EG = false
is_first K.AR = true
is_first K.EU = false

-- P or "not P", where P is as a says.
abbrev pub literal : Bool → Bool → Bool
literal true a = a
literal false a = not a

-- "And" or "or" of two truth values, and of two sets that are numbers.
abbrev pub joined : Bool → Bool → Bool → Bool
joined true a b = a && b
joined false a b = a || b

abbrev pub joined_number : Bool → ℕ → ℕ → ℕ
joined_number true a b = bit_and a b
joined_number false a b = bit_or a b

-- Where it is said of a set a that it settles "and" or "or" below n, the whole is there as a says, whatever the second operand says.
abbrev pub Settled : Bool → ℕ → Bool → ℕ → Type 0
Settled true n first a = (s : ℕ) → s < n → (b : Bool) → joined first (member a s) b ≡ member a s
Settled false n first a = Unit {0}

-- Every stage, or none.
abbrev pub always : Bool → Stages
always all s = all

-- The stages from which a modality holds, where its operands hold at a and at b; of another kind, none.
abbrev pub modal : Kind → Graph → Stages → Stages → Stages
modal K.True G a b = λ s. false
modal K.False G a b = λ s. false
modal K.Is G a b = λ s. false
modal K.IsNot G a b = λ s. false
modal K.And G a b = λ s. false
modal K.Or G a b = λ s. false
modal K.AX G a b = each_next G a
modal K.EX G a b = some_next G a
modal K.AF G a b = af G a
modal K.EG G a b = eg G a
modal K.AR G a b = ar G a b
modal K.EU G a b = eu G a b

-- The same of sets that are numbers.
abbrev pub modal_on : Kind → ℕ → ℕ → Graph → Stages
modal_on kind a b G = modal kind G (member a) (member b)
