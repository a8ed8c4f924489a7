-- A formula in hand, as its table entry and its variables give it.
use Rattle.std.specs.Prelude.{ℕ, Bool, true}
use Rattle.model.specs.Graph.{Graph}
use Rattle.model.specs.Formula.{Formula, truth, falsity, is, is_not, and, or, AX, EX, AF, EG, AR, EU, Env, bind, value, atom}
use Rattle.rules.specs.Kind.{Kind}

-- A formula with the stages of its variables.
pub record Entry : Type 0 where
  pub formula : Formula
  pub env : Env

-- The kind of a formula, whether its atom is true, the stage at which its walk starts, and its entries a and b at a stage. For what a formula does
-- not have stand an atom that is true, stage 0, and the entry false.
pub record Shape : Type 0 where
  pub kind : Kind
  pub holds : Bool
  pub stage : ℕ
  pub a : ℕ → Entry
  pub b : ℕ → Entry

abbrev no_entry : Env → ℕ → Entry
no_entry e s = record { formula = falsity; env = e }

abbrev leaf : Kind → Bool → Env → Shape
leaf K p e = record { kind = K; holds = p; stage = 0; a = no_entry e; b = no_entry e }

abbrev junction : Kind → Formula → Formula → Env → Shape
junction K f g e =
    record { kind = K; holds = true; stage = 0; a = λ s. record { formula = f; env = e }; b = λ s. record { formula = g; env = e } }

-- The term's stage is read outside the binding; x is bound in a only, y in b only.
abbrev unary : Kind → ℕ → Formula → ℕ → Env → Shape
unary K x f t e = record { kind = K; holds = true; stage = t; a = λ s. record { formula = f; env = bind e x s }; b = no_entry e }

abbrev binary : Kind → ℕ → Formula → ℕ → Formula → ℕ → Env → Shape
binary K x f y g t e = record {
  kind = K;
  holds = true;
  stage = t;
  a = λ s. record { formula = f; env = bind e x s };
  b = λ s. record { formula = g; env = bind e y s };
}

abbrev pub shape : Graph → Formula → Env → Shape
shape G truth e = leaf Kind.True true e
shape G falsity e = leaf Kind.False true e
shape G (is q) e = leaf Kind.Is (atom G e q) e
shape G (is_not q) e = leaf Kind.IsNot (atom G e q) e
shape G (and f g) e = junction Kind.And f g e
shape G (or f g) e = junction Kind.Or f g e
shape G (AX x f t) e = unary Kind.AX x f (value e t) e
shape G (EX x f t) e = unary Kind.EX x f (value e t) e
shape G (AF x f t) e = unary Kind.AF x f (value e t) e
shape G (EG x f t) e = unary Kind.EG x f (value e t) e
shape G (AR x f y g t) e = binary Kind.AR x f y g (value e t) e
shape G (EU x f y g t) e = binary Kind.EU x f y g (value e t) e
