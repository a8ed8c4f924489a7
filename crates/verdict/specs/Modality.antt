-- A modality apart from its term: what it says of a stage that is put in the term's place, and which variables its operands name.
use Rattle.std.specs.Prelude.{ℕ, ◌⊎◌}
use Rattle.model.specs.Formula.{Formula, truth, falsity, is, is_not, and, or, AX, EX, AF, EG, AR, EU, stage, Under, Free}

-- The modality with stage s for its term; of another formula, falsity.
abbrev pub at_stage : ℕ → Formula → Formula
at_stage s truth = falsity
at_stage s falsity = falsity
at_stage s (is q) = falsity
at_stage s (is_not q) = falsity
at_stage s (and a b) = falsity
at_stage s (or a b) = falsity
at_stage s (AX x a t) = AX x a (stage s)
at_stage s (EX x a t) = EX x a (stage s)
at_stage s (AF x a t) = AF x a (stage s)
at_stage s (EG x a t) = EG x a (stage s)
at_stage s (AR x a y b t) = AR x a y b (stage s)
at_stage s (EU x a y b t) = EU x a y b (stage s)

-- The variable v is free in an operand of a modality, under the operand's own binding; of another formula, none is.
abbrev pub Inner : ℕ → Formula → Type 0
Inner v truth = ⊥
Inner v falsity = ⊥
Inner v (is q) = ⊥
Inner v (is_not q) = ⊥
Inner v (and a b) = ⊥
Inner v (or a b) = ⊥
Inner v (AX x a t) = Under v x (Free v a)
Inner v (EX x a t) = Under v x (Free v a)
Inner v (AF x a t) = Under v x (Free v a)
Inner v (EG x a t) = Under v x (Free v a)
Inner v (AR x a y b t) = Under v x (Free v a) ⊎ Under v y (Free v b)
Inner v (EU x a y b t) = Under v x (Free v a) ⊎ Under v y (Free v b)
