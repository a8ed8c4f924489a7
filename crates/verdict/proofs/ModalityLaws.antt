-- Modalities apart from their terms.
--
--     inner-free, inner-same     where the operands do not name x, a binding of x changes nothing
--     modal-agrees               operands that agree on the stages give modalities that agree there
--     free-under                 the test for a variable that is free under a binding
--
-- Assumes nothing.
use Prim.Native.Nat.{ℕ, ◌<◌}
use native.Mathlib.Omega.{arith}
use mathlib.Core.Path.{◌≡◌, refl, sym, ap}
use mathlib.Core.Bool.{Bool, true, false}
use mathlib.Core.Logic.{⊎_elim}
use borrow.Author.Tests.{ne_eqb}
use Rattle.model.specs.Decides.{Decides}
use Rattle.model.specs.Graph.{Graph}
use Rattle.model.specs.Formula.{Formula, truth, falsity, is, is_not, and, or, AX, EX, AF, EG, AR, EU, Env, pick, bind, Under, Free}
use Rattle.logic.specs.Test.{Stages, test}
use Rattle.logic.proofs.Variables.{test-same}
use Rattle.sets.specs.Member.{Has}
use Rattle.modal.proofs.LawsMember.{Agree}
use Rattle.modal.proofs.LawsOnce.{ax-agrees, ex-agrees, af-agrees, eg-agrees, ar-agrees, eu-agrees}
use Rattle.format.specs.Reading.{Variables}
use Rattle.format.specs.declared.record.Kind.{Kind}
use Rattle.format.specs.declared.record.Kind.TheVariants as K
use Rattle.verdict.specs.Kinds.{modal}
use Rattle.verdict.specs.Modality.{at_stage, Inner}

-- Of a modality with a stage for its term, only variables of its operands are free.
inner-free : (v s : ℕ) (f : Formula) → Free v (at_stage s f) → Inner v f
inner-free v s truth h = h
inner-free v s falsity h = h
inner-free v s (is q) h = h
inner-free v s (is_not q) h = h
inner-free v s (and a b) h = h
inner-free v s (or a b) h = h
inner-free v s (AX x a t) h = ⊎_elim (λ n. absurd n) (λ u. u) h
inner-free v s (EX x a t) h = ⊎_elim (λ n. absurd n) (λ u. u) h
inner-free v s (AF x a t) h = ⊎_elim (λ n. absurd n) (λ u. u) h
inner-free v s (EG x a t) h = ⊎_elim (λ n. absurd n) (λ u. u) h
inner-free v s (AR x a y b t) h = ⊎_elim (λ n. absurd n) (λ u. u) h
inner-free v s (EU x a y b t) h = ⊎_elim (λ n. absurd n) (λ u. u) h

-- So where they do not name x, where x stands does not matter.
pub inner-same : (G : Graph) (f : Formula) (c : Env) (x k : ℕ) → (Inner x f → ⊥) → (s : ℕ) → test G (at_stage s f) c ≡ test G (at_stage s f) (bind c x k)
inner-same G f c x k n s =
    test-same G (at_stage s f) c (bind c x k)
    (λ v h. ap (λ (b : Bool). pick b k (c v)) (sym (ne_eqb v x (other v (inner-free v s f h)))))
  where
    other : (v : ℕ) → Inner v f → v ≡ x → ⊥
    other v i e = n (rw (← e) i)

-- Operands that agree on the stages give modalities that agree there.
pub modal-agrees : (G : Graph) (k : Kind) {a a' b b' : Stages} → Agree G.stages a a' → Agree G.stages b b'
    → Agree G.stages (modal k G a b) (modal k G a' b')
modal-agrees G K.True p q = λ s h. refl
modal-agrees G K.False p q = λ s h. refl
modal-agrees G K.Is p q = λ s h. refl
modal-agrees G K.IsNot p q = λ s h. refl
modal-agrees G K.And p q = λ s h. refl
modal-agrees G K.Or p q = λ s h. refl
modal-agrees G K.AX p q = ax-agrees G p
modal-agrees G K.EX p q = ex-agrees G p
modal-agrees G K.AF p q = af-agrees G p
modal-agrees G K.EG p q = eg-agrees G p
modal-agrees G K.AR p q = ar-agrees G q p
modal-agrees G K.EU p q = eu-agrees G q p

-- A test of the set of a formula's free variables says whether one is free under a binding of another.
pub free-under : (x y s : ℕ) (f : Formula) (b : Bool) → x < 4 → (x ≡ y → ⊥) → Variables f s → Decides b (Has s x) → Decides b (Under x y (Free x f))
free-under x y s f true h n v d = (n, (v x (omega arith)).0 d)
free-under x y s f false h n v d = λ u. d ((v x (omega arith)).1 u.1)
