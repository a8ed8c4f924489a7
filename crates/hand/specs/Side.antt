-- Document 01, "Certificate": side 0 is the goal, side 1 its dual, which exchanges the kinds pairwise throughout.
use Rattle.std.specs.Prelude.{ℕ, zero, suc}
use Rattle.model.specs.Formula.{Formula, dual}
use Rattle.format.specs.declared.record.Kind.{Kind}
use Rattle.format.specs.declared.record.Kind.TheVariants as K

-- A formula on a side.
abbrev pub sided : ℕ → Formula → Formula
sided zero f = f
sided (suc k) f = dual f

-- The kind of the dual.
abbrev pub dual_kind : Kind → Kind
dual_kind K.True = K.False
dual_kind K.False = K.True
dual_kind K.Is = K.IsNot
dual_kind K.IsNot = K.Is
dual_kind K.And = K.Or
dual_kind K.Or = K.And
dual_kind K.AX = K.EX
dual_kind K.EX = K.AX
dual_kind K.AF = K.EG
dual_kind K.EG = K.AF
dual_kind K.AR = K.EU
dual_kind K.EU = K.AR

-- A kind on a side.
abbrev pub kind_on : ℕ → Kind → Kind
kind_on zero k = k
kind_on (suc n) k = dual_kind k

-- Its number.
abbrev pub number_of : Kind → ℕ
number_of K.True = 0
number_of K.False = 1
number_of K.Is = 2
number_of K.IsNot = 3
number_of K.And = 4
number_of K.Or = 5
number_of K.AX = 6
number_of K.EX = 7
number_of K.AF = 8
number_of K.EG = 9
number_of K.AR = 10
number_of K.EU = 11
