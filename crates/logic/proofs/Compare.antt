-- How a reading of formulas, such as `Holds`, is compared with the test: a law for the kinds that join two formulas, one for the modalities over
-- one operand and one for those over two. Each takes what is known of the operands wherever their variables stand.
--
--     Says                   below n a test of stages says A
--     Tells                  the test of a formula says what P says of it
--     and-tells, or-tells, modal-tells, modal₂-tells
use Prim.Native.Nat.{ℕ, ◌<◌}
use mathlib.Core.Bool.{Bool, true, false, ◌&&◌, ◌||◌}
use mathlib.Core.Logic.{◌↔◌, ◌⊎◌}
use lib.Dec.{T, eqb}
use Rattle.model.specs.Graph.{Graph}
use Rattle.model.specs.Formula.{Formula, Env, pick, bind, value, Term, stage, variable, TermBelow, Below}
use Rattle.logic.proofs.Booleans.{and-says, or-says}
use Rattle.logic.specs.Test.{Stages, test, Stand}

-- Below n the test a says A.
pub record Says (n : ℕ) (a : Stages) (A : ℕ → Type 0) : Type 0 where
  pub at : (s : ℕ) → s < n → T (a s) ↔ A s

-- They do so still, where one is bound to a stage.
pub bind-stands : {n : ℕ} {e : Env} → Stand n e → (x : ℕ) {s : ℕ} → s < n → Stand n (bind e x s)
bind-stands {n} {e} d x {s} h v = go (eqb v x)
  where
    go : (r : Bool) → pick r s (e v) < n
    go true = h
    go false = d v

-- A term stands at a stage below n.
pub term-stands : {n : ℕ} {e : Env} → Stand n e → (t : Term) → TermBelow n t → value e t < n
term-stands d (stage s) h = h
term-stands d (variable v) h = d v

module _ (G : Graph) (P : Formula → Env → Type 0) where
  -- The test of f says what P says of f, wherever the variables stand.
  abbrev pub Tells : Formula → Type 0
  Tells f = (e : Env) → Below G.stages f → Stand G.stages e → T (test G f e) ↔ P f e

  -- So it does of each stage that x is bound to.
  under : {f : Formula} → Tells f → Below G.stages f → (e : Env) → Stand G.stages e → (x : ℕ)
      → Says G.stages (λ s. test G f (bind e x s)) (λ s. P f (bind e x s))
  under tells b e d x = record { at = λ s h. tells (bind e x s) b (bind-stands d x h) }

  -- Two formulas joined.
  pub and-tells : (f g : Formula) → Tells f → Tells g → (e : Env) → Below G.stages f × Below G.stages g → Stand G.stages e
      → T (test G f e && test G g e) ↔ (P f e × P g e)
  and-tells f g tf tg e b d = and-says (test G f e) (test G g e) (tf e b.0 d) (tg e b.1 d)

  pub or-tells : (f g : Formula) → Tells f → Tells g → (e : Env) → Below G.stages f × Below G.stages g → Stand G.stages e
      → T (test G f e || test G g e) ↔ (P f e ⊎ P g e)
  or-tells f g tf tg e b d = or-says (test G f e) (test G g e) (tf e b.0 d) (tg e b.1 d)

  -- A modality M whose sets of stages say N of what the operand's set says.
  pub modal-tells : (M : Stages → Stages) (N : (ℕ → Type 0) → ℕ → Type 0)
      → ((a : Stages) (A : ℕ → Type 0) → Says G.stages a A → (s : ℕ) → s < G.stages → T (M a s) ↔ N A s)
      → (x : ℕ) (f : Formula) (t : Term) → Tells f → (e : Env) → TermBelow G.stages t × Below G.stages f → Stand G.stages e
      → T (M (λ s. test G f (bind e x s)) (value e t)) ↔ N (λ s. P f (bind e x s)) (value e t)
  modal-tells M N means x f t tells e b d = means _ _ (under tells b.1 e d x) (value e t) (term-stands d t b.0)

  -- A modality over two operands.
  pub modal₂-tells : (M : Stages → Stages → Stages) (N : (ℕ → Type 0) → (ℕ → Type 0) → ℕ → Type 0)
      → ((a b : Stages) (A B : ℕ → Type 0) → Says G.stages a A → Says G.stages b B → (s : ℕ) → s < G.stages → T (M a b s) ↔ N A B s)
      → (x : ℕ) (f : Formula) (y : ℕ) (g : Formula) (t : Term) → Tells f → Tells g
      → (e : Env) → TermBelow G.stages t × Below G.stages f × Below G.stages g → Stand G.stages e
      → T (M (λ s. test G f (bind e x s)) (λ s. test G g (bind e y s)) (value e t)) ↔ N (λ s. P f (bind e x s)) (λ s. P g (bind e y s)) (value e t)
  modal₂-tells M N means x f y g t tf tg e b d = means _ _ _ _ (under tf b.1 e d x) (under tg b.2 e d y) (value e t) (term-stands d t b.0)
