-- A formula asks only where its free variables stand: two standings of the variables that agree on those give the same test and the same
-- meaning. No condition on the graph is needed.
--
--     Agree, Respects                       agreement on some variables; what gives the same where there is agreement
--     atom-same, joined, modal, modal₂      how what is made of respectful parts respects its own variables
--     test-same, holds_same, holds_agree    the theorem
--     test-start, holds-start               where variable 0 alone is free, its stage decides
use Prim.Native.Nat.{ℕ}
use mathlib.Core.Path.{◌≡◌, refl, ap, ap₂, fun_ext}
use mathlib.Core.Bool.{Bool, true, false, not, ◌&&◌, ◌||◌}
use mathlib.Core.Logic.Iff
use mathlib.Core.Logic.{◌↔◌, ◌⊎◌, inl, inr}
use lib.Dec.{T, eqb}
use Rattle.model.specs.Graph.{Graph}
use Rattle.model.specs.Formula.{Formula, truth, falsity, is, is_not, and, or, AX, EX, AF, EG, AR, EU, Term, stage, variable, Atom, one, two, Env, pick}
use Rattle.model.specs.Formula.{bind, value, atom, Names, FreeInAtom, Under, Free}
use Rattle.logic.specs.Meaning.{AtEachNext, AtSomeNext, OnEachOnce, OnSomeAlways, OnEachReleased, OnSomeUntil, Holds}
use Rattle.logic.proofs.Booleans.{differ}
use Rattle.logic.specs.Test.{each_next, some_next, eg, af, ar, eu, test}

-- e and c agree on the variables in F.
abbrev pub Agree : (ℕ → Type 0) → Env → Env → Type 0
Agree F e c = (v : ℕ) → F v → e v ≡ c v

-- P is the same where the variables in F stand the same.
abbrev pub Respects {ℓ} : {X : Type ℓ} → (ℕ → Type 0) → (Env → X) → Type ℓ
Respects F P = (e c : Env) → Agree F e c → P e ≡ P c

-- Under a binding of x to the same stage, agreement on the variables that are free under it is agreement on all.
bound : (F : ℕ → Type 0) (x s : ℕ) (e c : Env) → Agree (λ v. Under v x (F v)) e c → Agree F (bind e x s) (bind c x s)
bound F x s e c h v f = go (eqb v x) (λ g. h v (g, f)) (differ v x)
  where
    go : (r : Bool) → ((v ≡ x → ⊥) → e v ≡ c v) → (T (not r) → v ≡ x → ⊥) → pick r s (e v) ≡ pick r s (c v)
    go true k d = refl
    go false k d = k (d tt)

-- A term asks for the variable that it names, an atom for those of its terms.
term-same : (t : Term) → Respects (λ v. Names v t) (λ e. value e t)
term-same (stage s) e c h = refl
term-same (variable v) e c h = h v refl

atom-same : (G : Graph) (q : Atom) → Respects (λ v. FreeInAtom v q) (λ e. atom G e q)
atom-same G (one q t) e c h = ap (G.one q) (term-same t e c h)
atom-same G (two q t u) e c h = ap₂ (G.two q) (term-same t e c (λ v n. h v (inl n))) (term-same u e c (λ v n. h v (inr n)))

-- What is joined of two parts, by `and` or `or`, asks for the variables of both; a modality for those of its term, and for those of each
-- operand that are free under the binding.
module _ {ℓ κ} {X : Type ℓ} {Y : Type κ} where
  joined : {F H : ℕ → Type 0} {P Q : Env → X} (op : X → X → Y) → Respects F P → Respects H Q → Respects (λ v. F v ⊎ H v) (λ e. op (P e) (Q e))
  joined op p q e c h = ap₂ op (p e c (λ v f. h v (inl f))) (q e c (λ v f. h v (inr f)))

  modal : {F : ℕ → Type 0} {P : Env → X} (M : (ℕ → X) → ℕ → Y) (x : ℕ) (t : Term) → Respects F P
      → Respects (λ v. Names v t ⊎ Under v x (F v)) (λ e. M (λ s. P (bind e x s)) (value e t))
  modal {F} M x t p e c h =
      ap₂ M (fun_ext (λ s. p (bind e x s) (bind c x s) (bound F x s e c (λ v u. h v (inr u))))) (term-same t e c (λ v n. h v (inl n)))

  modal₂ : {F H : ℕ → Type 0} {P Q : Env → X} (M : (ℕ → X) → (ℕ → X) → ℕ → Y) (x y : ℕ) (t : Term) → Respects F P → Respects H Q
      → Respects (λ v. Names v t ⊎ (Under v x (F v) ⊎ Under v y (H v))) (λ e. M (λ s. P (bind e x s)) (λ s. Q (bind e y s)) (value e t))
  modal₂ {F} {H} M x y t p q e c h =
      ap₂ (λ f g. f g) (ap₂ M (fun_ext (λ s. p (bind e x s) (bind c x s) (bound F x s e c (λ v u. h v (inr (inl u))))))
      (fun_ext (λ s. q (bind e y s) (bind c y s) (bound H y s e c (λ v u. h v (inr (inr u)))))))
      (term-same t e c (λ v n. h v (inl n)))

-- The test of a formula is the same where its free variables stand the same.
pub test-same : (G : Graph) (f : Formula) → Respects (λ v. Free v f) (test G f)
test-same G truth = λ e c h. refl
test-same G falsity = λ e c h. refl
test-same G (is q) = atom-same G q
test-same G (is_not q) = λ e c h. ap not (atom-same G q e c h)
test-same G (and a b) = joined (λ u v. u && v) (test-same G a) (test-same G b)
test-same G (or a b) = joined (λ u v. u || v) (test-same G a) (test-same G b)
test-same G (AX x a t) = modal (each_next G) x t (test-same G a)
test-same G (EX x a t) = modal (some_next G) x t (test-same G a)
test-same G (AF x a t) = modal (af G) x t (test-same G a)
test-same G (EG x a t) = modal (eg G) x t (test-same G a)
test-same G (AR x a y b t) = modal₂ (ar G) x y t (test-same G a) (test-same G b)
test-same G (EU x a y b t) = modal₂ (eu G) x y t (test-same G a) (test-same G b)

-- So is what it says.
pub holds_same : (G : Graph) (f : Formula) → Respects (λ v. Free v f) (Holds G f)
holds_same G truth = λ e c h. refl
holds_same G falsity = λ e c h. refl
holds_same G (is q) = λ e c h. ap T (atom-same G q e c h)
holds_same G (is_not q) = λ e c h. ap (λ u. T (not u)) (atom-same G q e c h)
holds_same G (and a b) = joined (λ A B. A × B) (holds_same G a) (holds_same G b)
holds_same G (or a b) = joined (λ A B. A ⊎ B) (holds_same G a) (holds_same G b)
holds_same G (AX x a t) = modal (AtEachNext G) x t (holds_same G a)
holds_same G (EX x a t) = modal (AtSomeNext G) x t (holds_same G a)
holds_same G (AF x a t) = modal (OnEachOnce G) x t (holds_same G a)
holds_same G (EG x a t) = modal (OnSomeAlways G) x t (holds_same G a)
holds_same G (AR x a y b t) = modal₂ (OnEachReleased G) x y t (holds_same G a) (holds_same G b)
holds_same G (EU x a y b t) = modal₂ (OnSomeUntil G) x y t (holds_same G a) (holds_same G b)

pub holds_agree : (G : Graph) (f : Formula) (e c : Env) → Agree (λ v. Free v f) e c → Holds G f e ↔ Holds G f c
holds_agree G f e c h = rw (holds_same G f e c h) Iff.rfl

-- Where variable 0 alone is free, its stage decides.
only-start : (f : Formula) → ((v : ℕ) → Free v f → v ≡ 0) → (e c : Env) → e 0 ≡ c 0 → Agree (λ v. Free v f) e c
only-start f only e c h v u = rw (only v u) h

pub test-start : (G : Graph) (f : Formula) → ((v : ℕ) → Free v f → v ≡ 0) → (e c : Env) → e 0 ≡ c 0 → test G f e ≡ test G f c
test-start G f only e c h = test-same G f e c (only-start f only e c h)

pub holds-start : (G : Graph) (f : Formula) → ((v : ℕ) → Free v f → v ≡ 0) → (e c : Env) → e 0 ≡ c 0 → Holds G f e ↔ Holds G f c
holds-start G f only e c h = holds_agree G f e c (only-start f only e c h)
