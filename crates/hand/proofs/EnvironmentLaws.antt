-- The four variables as one value: a binding, the environment of a start, and terms read in an environment.
--
--     bound-in, bound-out                              a binding of one of the four variables, and of another
--     no-variable                                      what is none of the four stands at 0
--     start-env                                        variable 0 at the start and the others at 0
--     stage-names, names-variable, variable-names      which variable a term names
--     stage-value, variable-value                      the stage of a term
--
-- Assumes nothing.
use Prim.Native.Nat.{ℕ, zero, suc, ◌-◌, ◌≤◌, ◌<◌}
use native.Mathlib.Omega.{arith}
use mathlib.Core.Path.{◌≡◌, refl, sym, ap, ◌∙◌, subst, fun_ext}
use mathlib.Core.Bool.{Bool}
use mathlib.Core.List.{List, [], ◌∷◌}
use mathlib.Core.Logic.{⊎_elim, ◌≢◌}
use lib.ListN.{length, get_or, set, get_or-eq_default}
use lib.Seq.{get_or-set_same, get_or-set_other}
use lib.Dec.{eqb}
use borrow.Author.Tests.{eq-eqb, ne_eqb}
use Rattle.model.specs.Formula.{pick, value, Names}
use Rattle.model.specs.Formula.{Env as Environment}
use Rattle.sets.proofs.LawsMember.{same?}
use Rattle.format.specs.Table.{term_of}
use Rattle.format.proofs.TreeLaws.{term-stage, term-variable}
use Rattle.hand.specs.Environment.{env_of, Bound, started}
use Rattle.hand.specs.declared.env.Env.{Env}

-- ---- bindings

-- One of the four variables is bound.
pub bound-in : (env : Env) (x s : ℕ) → length env.slots ≡ 4 → x < 4 → Bound env x s (record { slots = set env.slots x s })
unfolding env_of
bound-in env x s long h = record { here = λ g. fun_ext (λ v. ⊎_elim (same v) (other v) (same? v x)); none = λ g. absurd (omega arith) }
  where
    slots : List ℕ
    slots = env.slots

    same : (v : ℕ) → v ≡ x → get_or (set slots x s) v 0 ≡ pick (eqb v x) s (get_or slots v 0)
    same v e = ap (λ (u : ℕ). get_or (set slots x s) u 0) e ∙ get_or-set_same slots x s 0 (omega arith)
        ∙ ap (λ (b : Bool). pick b s (get_or slots v 0)) (sym (eq-eqb v x e))

    other : (v : ℕ) → v ≢ x → get_or (set slots x s) v 0 ≡ pick (eqb v x) s (get_or slots v 0)
    other v f = get_or-set_other slots x v s 0 f ∙ ap (λ (b : Bool). pick b s (get_or slots v 0)) (sym (ne_eqb v x f))

-- Another is, and nothing changes.
pub bound-out : (env : Env) (x s : ℕ) → 4 ≤ x → Bound env x s env
bound-out env x s h = record { here = λ g. absurd (omega arith); none = λ g. refl }

-- What is none of the four variables stands at 0.
pub no-variable : (env : Env) (v : ℕ) → length env.slots ≡ 4 → 4 ≤ v → 0 ≡ env_of env v
unfolding env_of
no-variable env v long h = sym (get_or-eq_default env.slots 0 (omega arith))

-- Variable 0 at the start, and the others at 0.
pub start-env : (start : ℕ) → env_of (record { slots = start ∷ 0 ∷ 0 ∷ 0 ∷ [] }) ≡ started start
unfolding env_of
start-env start = fun_ext at
  where
    zeros : (v : ℕ) → ◌≡◌ {A = ℕ} (get_or (0 ∷ 0 ∷ 0 ∷ []) v 0) 0
    zeros zero = refl
    zeros (suc zero) = refl
    zeros (suc (suc zero)) = refl
    zeros (suc (suc (suc v))) = refl

    at : (v : ℕ) → get_or (start ∷ 0 ∷ 0 ∷ 0 ∷ []) v 0 ≡ pick (eqb v 0) start 0
    at zero = refl
    at (suc v) = zeros v ∙ ap (λ (b : Bool). pick b start 0) (sym (ne_eqb (suc v) 0 (λ e. omega arith)))

-- ---- terms

-- A stage names no variable, and is its own value.
pub stage-names : (t x : ℕ) → t < 64 → Names x (term_of t) → ⊥
stage-names t x h n = subst (Names x) (term-stage t h) n

pub stage-value : (c : Environment) (t : ℕ) → t < 64 → t ≡ value c (term_of t)
stage-value c t h = ap (value c) (sym (term-stage t h))

-- A variable names itself.
pub names-variable : (t x : ℕ) → 64 ≤ t → t - 64 ≡ x → Names x (term_of t)
names-variable t x h e = subst (Names x) (sym (term-variable t h)) (sym e)

pub variable-names : (t x : ℕ) → 64 ≤ t → Names x (term_of t) → t - 64 ≡ x
variable-names t x h n = sym (subst (Names x) (term-variable t h) n)

-- The value of a variable is where it stands.
pub variable-value : (c : Environment) (t : ℕ) → 64 ≤ t → c (t - 64) ≡ value c (term_of t)
variable-value c t h = ap (value c) (sym (term-variable t h))
