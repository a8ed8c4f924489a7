-- The steps of AF: where it holds they depend neither on the walk nor on the fuel, as long as the fuel lasts.
--
--     first_round             what rounds of AF reach has a, or every successor is reached in fewer rounds
--     af-same                 the steps on any walk, with any fuel that lasts
--     af-now, af-later        one step, with the fuel of a walk's start
--     lasts-start, lasts_on   the fuel lasts at the start, and at each successor
use Prim.Native.Nat.{ℕ, zero, suc, ◌-◌, ◌≤◌, ◌<◌}
use native.Mathlib.Nat.{not-suc-le-zero}
use native.Mathlib.Omega.{arith}
use mathlib.Core.Path.{◌≡◌, refl, ap, ap₂}
use mathlib.Core.Bool.{Bool, true, false}
use mathlib.Core.List.{List, [], ◌∷◌, ◌++◌}
use mathlib.Core.Logic.{◌⊎◌, inl, inr, ⊎_elim}
use lib.Dec.{T}
use Rattle.model.specs.Graph.{Graph, Next, Readable}
use Rattle.logic.specs.Rules.{Walk, empty, also}
use Rattle.logic.specs.Test.{Stages, iter, each_next, af, af_round}
use Rattle.logic.proofs.Booleans.{T-or, T_not}
use Rattle.logic.proofs.Successors.{each_next_lem}
use Rattle.rules.specs.Kind.{Kind}
use Rattle.rules.specs.Table.{row, begin, body}
use Rattle.rules.specs.declared.Rule.{Rule}
use Rattle.written.specs.Written.{Entry, visit, through, parts, premises, along}
use Rattle.written.proofs.WalkLaws.{taken-by}
use Rattle.pen.specs.Steps.{Lasts}

-- Writers that agree at each successor write alike.
pub through-agree : (n : ℕ) (next : ℕ → Bool) (f g : ℕ → List ℕ) → ((t : ℕ) → T (next t) → f t ≡ g t) → through n next f ≡ through n next g
through-agree zero next f g same = refl
through-agree (suc n) next f g same = ap₂ ◌++◌ (through-agree n next f g same) (go (next n) (same n))
  where
    go : (b : Bool) → (T b → f n ≡ g n) → visit b (f n) ≡ visit b (g n)
    go true h = h tt
    go false h = refl

module _ {G : Graph} (R : Readable G) where
  -- What rounds reach has a, or every successor is reached in fewer rounds.
  first_round : (a : Stages) (k s : ℕ) → T (iter (af_round G) k a s)
      → T (a s) ⊎ ((j : ℕ) × (j < k) × ((t : ℕ) → Next G s t → T (iter (af_round G) j a t)))
  unfolding iter
  first_round a zero s t = inl t
  first_round a (suc k) s t =
      ⊎_elim
      (λ u. ⊎_elim (λ v. inl v) (λ r. inr (r.0, omega (arith, r.1), r.2)) (first_round a k s u))
      (λ v. inr (k, omega arith, (each_next_lem R (iter (af_round G) k a) s).0 v))
      ((T-or (iter (af_round G) k a s) (each_next G (iter (af_round G) k a) s)).0 t)

  -- The fuel lasts at the start of a walk of AF that holds,
  pub lasts-start : {a : Stages} {left s : ℕ} → G.stages < left → T (af G a s) → Lasts G a left s
  lasts-start h t = record { round = G.stages; before = h; reached = t }

  -- and at each successor, where a does not hold.
  pub lasts_on : {a : Stages} {left s t : ℕ} → Lasts G a left s → (T (a s) → ⊥) → Next G s t → Lasts G a (left - 1) t
  lasts_on {a} {left} {s} {t} l f e =
      ⊎_elim (λ u. absurd (f u)) (λ r. record { round = r.0; before = omega (arith, r.1, l.before); reached = r.2 t e })
      (first_round a l.round s l.reached)

  module _ (A B : Entry) where
    -- A step by a rule, with the fuel that is left.
    abbrev By : ℕ → Walk → ℕ → Rule → List ℕ
    By fuel w s q =
        begin q ++ premises G (parts A.steps B.steps (λ t. along G Kind.AF A B fuel (also w s) t)) s (body q).premises

    -- By induction on a bound of the rounds.
    same-below : (m k s : ℕ) → k < m → T (iter (af_round G) k A.holds s) → (p q : ℕ) → k < p → k < q → (w v : Walk)
        → along G Kind.AF A B p w s ≡ along G Kind.AF A B q v s
    same-below zero k s h t p q i j w v = absurd (not-suc-le-zero h)
    same-below (suc m) k s h t zero q i j w v = absurd (not-suc-le-zero i)
    same-below (suc m) k s h t (suc p) zero i j w v = absurd (not-suc-le-zero j)
    same-below (suc m) k s h t (suc p) (suc q) i j w v =
        taken-by (λ r. By p w s r ≡ By q v s r) (A.holds s) Rule.AfNow Rule.AfLater (λ u. refl)
        (λ f. ⊎_elim (λ u. absurd ((T_not (A.holds s)).0 f u))
        (λ r. ap (λ (l : List ℕ). begin Rule.AfLater ++ l) (through-agree G.stages (G.next s) _ _
        (λ u e. same-below m r.0 u (omega (arith, r.1)) (r.2 u e) p q (omega (arith, r.1)) (omega (arith, r.1)) (also w s) (also v s))))
        (first_round A.holds k s t))

    -- The steps of AF at a stage that is reached in k rounds are the same on every walk, with all fuel above k.
    pub af-same : (k s : ℕ) → T (iter (af_round G) k A.holds s) → (p q : ℕ) → k < p → k < q → (w v : Walk)
        → along G Kind.AF A B p w s ≡ along G Kind.AF A B q v s
    af-same k s = same-below (suc k) k s (omega arith)

    -- Now where a holds.
    pub af-now : (fuel : ℕ) (w : Walk) (s : ℕ) → T (A.holds s) → ((row Rule.AfNow).code ∷ []) ++ A.steps s ≡ along G Kind.AF A B (suc fuel) w s
    af-now fuel w s t =
        taken-by (λ r. ((row Rule.AfNow).code ∷ []) ++ A.steps s ≡ By fuel w s r) (A.holds s) Rule.AfNow Rule.AfLater (λ u. refl)
        (λ f. absurd ((T_not (A.holds s)).0 f t))

    -- Else AF at each successor, each as from the start of a walk there.
    pub af-later : (left s : ℕ) → left ≤ suc G.stages → Lasts G A.holds left s → (T (A.holds s) → ⊥)
        → ((row Rule.AfLater).code ∷ []) ++ through G.stages (G.next s) (λ t. along G Kind.AF A B (suc G.stages) empty t)
        ≡ along G Kind.AF A B (suc G.stages) empty s
    af-later left s h l f =
        taken-by (λ r. ((row Rule.AfLater).code ∷ []) ++ through G.stages (G.next s) (λ t. along G Kind.AF A B (suc G.stages) empty t)
        ≡ By G.stages empty s r) (A.holds s) Rule.AfNow Rule.AfLater (λ u. absurd (f u))
        (λ u. ⊎_elim (λ v. absurd (f v))
        (λ r. ap (λ (m : List ℕ). begin Rule.AfLater ++ m) (through-agree G.stages (G.next s) _ _
        (λ t e. af-same r.0 t (r.2 t e) (suc G.stages) G.stages (omega (arith, r.1, l.before)) (omega (arith, r.1, l.before))
        empty (also empty s))))
        (first_round A.holds l.round s l.reached))
