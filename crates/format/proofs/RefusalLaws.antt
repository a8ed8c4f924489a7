-- Which refusal is given: one at most, and none where no condition holds; conditions of one service after those of another; and document
-- 01's numbers tell the refusals apart.
use Prim.Native.Nat.{ℕ, ◌<◌}
use mathlib.Core.Path.{◌≡◌, refl, ap, sym, ◌∙◌}
use mathlib.Core.List.{List, [], ◌∷◌, ◌++◌}
use mathlib.Core.Bool.{Bool, true, false}
use mathlib.Core.Logic.{inl, inr}
use native.Mathlib.Omega.{arith}
use lib.Dec.{ltb, lit<}
use lib.ListN.{get_or}
use Rattle.format.specs.Refusal.{number, Condition, Given, Clear}
use Rattle.format.specs.declared.Refusal.{Refusal}
use Rattle.format.specs.declared.Refusal.TheVariants as R

-- A statement that holds is not refuted: what a condition "it is not so" comes to where it is so.
pub passed : {A : Type 0} → A → (A → ⊥) → ⊥
passed a f = f a

-- The refusals that a service gives are one at most.
pub given-one : (cs : List Condition) (j k : Refusal) → Given cs j → Given cs k → j ≡ k
given-one [] j k p q = absurd p
given-one (c ∷ cs) j k (inl p) (inl q) = p.0 ∙ sym q.0
given-one (c ∷ cs) j k (inl p) (inr q) = absurd (q.0 p.1)
given-one (c ∷ cs) j k (inr p) (inl q) = absurd (p.0 q.1)
given-one (c ∷ cs) j k (inr p) (inr q) = given-one cs j k p.1 q.1

-- Where no condition holds nothing is refused.
pub clear_none : (cs : List Condition) (k : Refusal) → Clear cs → Given cs k → ⊥
clear_none [] k p q = q
clear_none (c ∷ cs) k p (inl q) = p.0 q.1
clear_none (c ∷ cs) k p (inr q) = clear_none cs k p.1 q.1

-- A refusal of the first conditions comes before any of the later ones.
pub given-first : (cs ds : List Condition) (k : Refusal) → Given cs k → Given (cs ++ ds) k
given-first [] ds k p = absurd p
given-first (c ∷ cs) ds k (inl p) = inl p
given-first (c ∷ cs) ds k (inr p) = inr (p.0, given-first cs ds k p.1)

-- A later refusal is given where no first condition holds.
pub given-later : (cs ds : List Condition) (k : Refusal) → Clear cs → Given ds k → Given (cs ++ ds) k
given-later [] ds k p g = g
given-later (c ∷ cs) ds k p g = inr (p.0, given-later cs ds k p.1 g)

-- No condition holds of two rows of them exactly when none does of either.
pub clear_both : (cs ds : List Condition) → Clear cs → Clear ds → Clear (cs ++ ds)
clear_both [] ds p q = q
clear_both (c ∷ cs) ds p q = (p.0, clear_both cs ds p.1 q)

pub clear_first : (cs ds : List Condition) → Clear (cs ++ ds) → Clear cs
clear_first [] ds p = tt
clear_first (c ∷ cs) ds p = (p.0, clear_first cs ds p.1)

pub clear_later : (cs ds : List Condition) → Clear (cs ++ ds) → Clear ds
clear_later [] ds p = p
clear_later (c ∷ cs) ds p = clear_later cs ds p.1

-- The refusal with a number; the numbers 17 to 19 and those above 25 have none, and 0 neither.
abbrev refusals : List Refusal
refusals =
    R.BytesRemain ∷ R.ImageStart ∷ R.ImageSizes ∷ R.ImageLength ∷ R.BitTooHigh ∷ R.NoSuccessor ∷ R.TableStart ∷ R.TableLength ∷ R.BadRecord
    ∷ R.OperandTwice ∷ R.NestedTooDeep ∷ R.NoSuchGoal ∷ R.NoSuchStart ∷ R.FreeVariable ∷ R.BufferTooShort ∷ R.NothingFires ∷ R.NotOfShape
    ∷ R.BytesRemain ∷ R.BytesRemain ∷ R.BytesRemain ∷ R.CertificateStart ∷ R.OtherQuestion ∷ R.ByteMissing ∷ R.WrongCode ∷ R.ConditionFails
    ∷ []

abbrev refusal_of : ℕ → Refusal
refusal_of n = get_or refusals n R.BytesRemain

numbered : (k : Refusal) → refusal_of (number k) ≡ k
numbered R.ImageStart = refl
numbered R.ImageSizes = refl
numbered R.ImageLength = refl
numbered R.BitTooHigh = refl
numbered R.NoSuccessor = refl
numbered R.TableStart = refl
numbered R.TableLength = refl
numbered R.BadRecord = refl
numbered R.OperandTwice = refl
numbered R.NestedTooDeep = refl
numbered R.NoSuchGoal = refl
numbered R.NoSuchStart = refl
numbered R.FreeVariable = refl
numbered R.BufferTooShort = refl
numbered R.NothingFires = refl
numbered R.NotOfShape = refl
numbered R.CertificateStart = refl
numbered R.OtherQuestion = refl
numbered R.ByteMissing = refl
numbered R.WrongCode = refl
numbered R.ConditionFails = refl
numbered R.BytesRemain = refl

-- Two refusals with one number are one.
pub number-injective : (j k : Refusal) → number j ≡ number k → j ≡ k
number-injective j k e = sym (numbered j) ∙ ap refusal_of e ∙ numbered k

-- Every number is below 128, where the codes of answers begin.
pub number_small : (k : Refusal) → number k < 128
number_small R.ImageStart = lit< tt
number_small R.ImageSizes = lit< tt
number_small R.ImageLength = lit< tt
number_small R.BitTooHigh = lit< tt
number_small R.NoSuccessor = lit< tt
number_small R.TableStart = lit< tt
number_small R.TableLength = lit< tt
number_small R.BadRecord = lit< tt
number_small R.OperandTwice = lit< tt
number_small R.NestedTooDeep = lit< tt
number_small R.NoSuchGoal = lit< tt
number_small R.NoSuchStart = lit< tt
number_small R.FreeVariable = lit< tt
number_small R.BufferTooShort = lit< tt
number_small R.NothingFires = lit< tt
number_small R.NotOfShape = lit< tt
number_small R.CertificateStart = lit< tt
number_small R.OtherQuestion = lit< tt
number_small R.ByteMissing = lit< tt
number_small R.WrongCode = lit< tt
number_small R.ConditionFails = lit< tt
number_small R.BytesRemain = lit< tt

-- No refusal has the number 0.
abbrev some-refusal : ℕ → Bool
some-refusal n = ltb 0 n

numbered-some : (k : Refusal) → some-refusal (number k) ≡ true
numbered-some R.ImageStart = refl
numbered-some R.ImageSizes = refl
numbered-some R.ImageLength = refl
numbered-some R.BitTooHigh = refl
numbered-some R.NoSuccessor = refl
numbered-some R.TableStart = refl
numbered-some R.TableLength = refl
numbered-some R.BadRecord = refl
numbered-some R.OperandTwice = refl
numbered-some R.NestedTooDeep = refl
numbered-some R.NoSuchGoal = refl
numbered-some R.NoSuchStart = refl
numbered-some R.FreeVariable = refl
numbered-some R.BufferTooShort = refl
numbered-some R.NothingFires = refl
numbered-some R.NotOfShape = refl
numbered-some R.CertificateStart = refl
numbered-some R.OtherQuestion = refl
numbered-some R.ByteMissing = refl
numbered-some R.WrongCode = refl
numbered-some R.ConditionFails = refl
numbered-some R.BytesRemain = refl

pub number-some : (k : Refusal) → number k ≡ 0 → ⊥
number-some k e = ltb-false' (sym (ap some-refusal e) ∙ numbered-some k)
  where
    ltb-false' : false ≡ true → ⊥
    ltb-false' p = let z : ◌≡◌ {A = ℕ} 0 1 = cc in omega arith
