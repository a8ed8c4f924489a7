-- The steps for a formula in hand, read from its shape: its kind, and its entries a and b at a stage. So what is shown kind by kind serves every
-- formula.
--
--     entry_of, a-of, b-of       an entry of a shape: where it holds, and its steps
--     written-shape             the steps on a walk are those of the kind, over the entries
--     written_start             from the start of the walk
--     taken, written_step       the rule that is taken at a stage of the walk, and the step by it
use Prim.Native.Nat.{ℕ, zero, suc}
use mathlib.Core.Path.{◌≡◌, refl, ap, fun_ext}
use mathlib.Core.List.{List, ◌++◌}
use Rattle.model.specs.Graph.{Graph}
use Rattle.model.specs.Formula.{Formula, truth, falsity, is, is_not, and, or, AX, EX, AF, EG, AR, EU, Env}
use Rattle.logic.specs.Rules.{Walk, empty, also}
use Rattle.logic.specs.Test.{test}
use Rattle.rules.specs.Kind.{Kind}
use Rattle.rules.specs.Table.{begin, body}
use Rattle.rules.specs.Shape
use Rattle.rules.specs.Shape.{shape}
use Rattle.rules.specs.declared.Rule.{Rule}
use Rattle.written.specs.Choice.{choice}
use Rattle.written.specs.Written.{Entry, no_entry, parts, premises, along, written_on, written}

-- Where a formula with the stages of its variables holds, and its steps, as both go with a stage.
abbrev pub entry_of : Graph → (ℕ → Shape.Entry) → Entry
entry_of G at = record { holds = λ s. test G (at s).formula (at s).env; steps = λ s. written G (at s).formula (at s).env }

abbrev pub a-of : Graph → Formula → Env → Entry
a-of G f e = entry_of G (shape G f e).a

abbrev pub b-of : Graph → Formula → Env → Entry
b-of G f e = entry_of G (shape G f e).b

-- False has one rule that is never taken and asks for no premises, so that its steps do not look at its entries.
false-alone : (G : Graph) (A B C D : Entry) (fuel : ℕ) (w : Walk) (s : ℕ) → along G Kind.False A B fuel w s ≡ along G Kind.False C D fuel w s
false-alone G A B C D zero w s = refl
false-alone G A B C D (suc fuel) w s = refl

-- The steps for a formula on its walk are those of its kind, over the entries of its shape.
pub written-shape : (G : Graph) (f : Formula) (e : Env) → written_on G f e ≡ along G (shape G f e).kind (a-of G f e) (b-of G f e)
written-shape G truth e = refl
written-shape G falsity e = fun_ext
    (λ fuel. fun_ext (λ w. fun_ext (λ s. false-alone G (no_entry G) (no_entry G) (a-of G falsity e) (b-of G falsity e) fuel w s)))
written-shape G (is q) e = refl
written-shape G (is_not q) e = refl
written-shape G (and f g) e = refl
written-shape G (or f g) e = refl
written-shape G (AX x f t) e = refl
written-shape G (EX x f t) e = refl
written-shape G (AF x f t) e = refl
written-shape G (EG x f t) e = refl
written-shape G (AR x f y g t) e = refl
written-shape G (EU x f y g t) e = refl

-- So are the steps of the certificate, from the start of the walk.
pub written_start : (G : Graph) (f : Formula) (e : Env)
    → written G f e ≡ along G (shape G f e).kind (a-of G f e) (b-of G f e) (suc G.stages) empty (shape G f e).stage
written_start G f e = ap (λ (walk : ℕ → Walk → ℕ → List ℕ). walk (suc G.stages) empty (shape G f e).stage) (written-shape G f e)

-- The rule that is taken for a formula at the stage s of its walk w.
abbrev pub taken : Graph → Formula → Env → Walk → ℕ → Rule
taken G f e w s = choice G (shape G f e).kind (a-of G f e).holds (b-of G f e).holds w s

-- While there is fuel, a step begins with that rule; the steps of its premises follow, those of the formula again with s added to the walk.
pub written_step : (G : Graph) (f : Formula) (e : Env) (fuel : ℕ) (w : Walk) (s : ℕ)
    → written_on G f e (suc fuel) w s
    ≡ begin (taken G f e w s)
    ++ premises G (parts (a-of G f e).steps (b-of G f e).steps (λ t. written_on G f e fuel (also w s) t)) s (body (taken G f e w s)).premises
written_step G f e fuel w s = rw (written-shape G f e) refl
