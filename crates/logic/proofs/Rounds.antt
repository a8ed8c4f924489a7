-- Rounds over sets of stages: n rounds of a monotone step on n stages come to rest. The step `op` is any, so that each law serves two
-- modalities: those whose rounds shrink (EG, AR) or those whose rounds grow (AF, EU).
--
--     Within, Monotone           sets and steps, where only what is below n counts
--     shrink-start, grow-start   the set from which rounds start
--     flip                       rounds that grow are rounds that shrink, seen from outside
--     shrunk, grown              after n rounds another one changes nothing below n
use Prim.Native.Nat.{ℕ, zero, suc, ◌+◌, ◌≤◌, ◌<◌}
use native.Mathlib.Omega.{arith}
use mathlib.Core.Path.{◌≡◌, sym, ap, ◌∙◌, subst, fun_ext}
use mathlib.Core.Bool.{false, not, ◌&&◌, ◌||◌}
use mathlib.Core.Logic.{◌↔◌, ◌⊎◌, inl, inr, ⊎_elim}
use lib.Dec.{T}
use Rattle.logic.proofs.Booleans.{T_and, T-or, T_not, decide, any_below_lem, not-and, not-not, count, count-max, count-lt}
use Rattle.logic.specs.Test.{Stages, outside, shrink, grow, iter, any_below}

-- Below n, every stage of x is in y.
abbrev pub Within : ℕ → Stages → Stages → Type 0
Within n x y = (s : ℕ) → s < n → T (x s) → T (y s)

-- A larger set gives a larger result, where only what is below n counts.
abbrev pub Monotone : ℕ → (Stages → Stages) → Type 0
Monotone n op = (x y : Stages) → Within n x y → Within n (op x) (op y)

-- A round that shrinks keeps only stages of x, and those that pass the step.
pub shrink-is : (op : Stages → Stages) (x : Stages) (s : ℕ) → T (shrink op x s) ↔ (T (x s) × T (op x s))
shrink-is op x s = T_and (x s) (op x s)

-- A round that grows adds to the stages of x those that pass the step.
pub grow-is : (op : Stages → Stages) (x : Stages) (s : ℕ) → T (grow op x s) ↔ (T (x s) ⊎ T (op x s))
grow-is op x s = T-or (x s) (op x s)

-- Rounds that shrink stay inside the set from which they start.
pub shrink-start : (op : Stages → Stages) (x : Stages) (k : ℕ) (s : ℕ) → T (iter (shrink op) k x s) → T (x s)
unfolding iter
shrink-start op x zero s t = t
shrink-start op x (suc k) s t = shrink-start op x k s ((shrink-is op (iter (shrink op) k x) s).0 t).0

-- Rounds that grow keep the set from which they start.
pub grow-start : (op : Stages → Stages) (x : Stages) (k : ℕ) (s : ℕ) → T (x s) → T (iter (grow op) k x s)
unfolding iter
grow-start op x zero s t = t
grow-start op x (suc k) s t = (grow-is op (iter (grow op) k x) s).1 (inl (grow-start op x k s t))

-- ---- rest

-- A round of shrinking changes nothing of y below n.
abbrev pub AtRest : ℕ → (Stages → Stages) → Stages → Type 0
AtRest n op y = Within n y (op y)

module _ (n : ℕ) (op : Stages → Stages) where
  -- What is at rest stays so.
  still : Monotone n op → (y : Stages) → AtRest n op y → AtRest n op (shrink op y)
  still mono y r s h t = mono y (shrink op y) (λ u i v. (shrink-is op y u).1 (v, r u i v)) s h ((shrink-is op y s).0 t).1

  -- A set is at rest, or a round takes a stage away.
  rest-or-fewer : (y : Stages) → AtRest n op y ⊎ (count n (shrink op y) < count n y)
  rest-or-fewer y =
      ⊎_elim (λ l. inr (fewer ((any_below_lem n leaves).0 l))) (λ l. inl (rest ((T_not (any_below n leaves)).0 l))) (decide (any_below n leaves))
    where
      leaves : Stages
      leaves s = y s && not (op y s)

      fewer : (s : ℕ) × (s < n) × T (leaves s) → count n (shrink op y) < count n y
      fewer f =
          let l = (T_and (y f.0) (not (op y f.0))).0 f.2 in
          count-lt n (shrink op y) y (λ s h t. ((shrink-is op y s).0 t).0) f.0 f.1
          ((T_not (shrink op y f.0)).1 (λ t. (T_not (op y f.0)).0 l.1 ((shrink-is op y f.0).0 t).1)) l.0

      rest : (T (any_below n leaves) → ⊥) → AtRest n op y
      rest l s h t = ⊎_elim (λ o. o) (λ o. absurd (l ((any_below_lem n leaves).1 (s, h, (T_and (y s) (not (op y s))).1 (t, o))))) (decide (op y s))

  -- After k rounds it is at rest, or each round has taken a stage away.
  rest-or-few : Monotone n op → (x : Stages) (k : ℕ) → AtRest n op (iter (shrink op) k x) ⊎ (count n (iter (shrink op) k x) + k ≤ n)
  unfolding iter
  rest-or-few mono x zero = inr (omega (arith, count-max n x))
  rest-or-few mono x (suc k) =
      ⊎_elim (λ r. inl (still mono (iter (shrink op) k x) r))
      (λ c. ⊎_elim (λ r. inl (still mono (iter (shrink op) k x) r)) (λ f. inr (omega arith)) (rest-or-fewer (iter (shrink op) k x)))
      (rest-or-few mono x k)

  -- n rounds of shrinking come to rest on n stages.
  pub shrunk : Monotone n op → (x : Stages) → AtRest n op (iter (shrink op) n x)
  shrunk mono x = ⊎_elim (λ r. r) (λ c s h t. absurd (none c s h t)) (rest-or-few mono x n)
    where
      none : count n (iter (shrink op) n x) + n ≤ n → Within n (iter (shrink op) n x) (λ s. false)
      none c s h t = let f = count-lt n (λ u. false) (iter (shrink op) n x) (λ u i b. absurd b) s h tt t in omega arith

-- ---- from outside

-- Where one step passes outside a set exactly when the other does not pass the set, growing by the one is shrinking by the other, seen from
-- outside.
pub flip : (op op' : Stages → Stages) → ((y : Stages) → op' (outside y) ≡ outside (op y)) → (x z : Stages) → x ≡ outside z → (k : ℕ)
    → iter (grow op') k x ≡ outside (iter (shrink op) k z)
unfolding iter
flip op op' across x z e zero = e
flip op op' across x z e (suc k) =
    let y = iter (shrink op) k z in
    ap (grow op') (flip op op' across x z e k) ∙ fun_ext (λ s. ap (λ (v : Stages). not (y s) || v s) (across y) ∙ sym (not-and (y s) (op y s)))

-- the step that passes a set where `op` does not pass its outside
across : (Stages → Stages) → Stages → Stages
across op y = outside (op (outside y))

-- It is monotone where `op` is.
across-monotone : (n : ℕ) (op : Stages → Stages) → Monotone n op → Monotone n (across op)
unfolding across
across-monotone n op mono x y f s h t =
    (T_not (op (outside y) s)).1
    (λ u. (T_not (op (outside x) s)).0 t (mono (outside y) (outside x) (λ v i w. (T_not (x v)).1 (λ q. (T_not (y v)).0 w (f v i q))) s h u))

-- n rounds of growing come to rest on n stages: what passes the step is in the set already.
pub grown : (n : ℕ) (op : Stages → Stages) → Monotone n op → (x : Stages) → Within n (op (iter (grow op) n x)) (iter (grow op) n x)
unfolding across
grown n op mono x = subst (λ (y : Stages). Within n (op y) y) (sym same) rest
  where
    z : Stages
    z = iter (shrink (across op)) n (outside x)

    same : iter (grow op) n x ≡ outside z
    same = flip (across op) op (λ y. fun_ext (λ s. sym (not-not (op (outside y) s)))) x (outside x) (fun_ext (λ s. sym (not-not (x s)))) n

    rest : Within n (op (outside z)) (outside z)
    rest s h t = (T_not (z s)).1 (λ u. (T_not (op (outside z) s)).0 (shrunk n (across op) (across-monotone n op mono) (outside x) s h u) t)
