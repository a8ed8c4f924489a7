-- One step of a walk of EG, AR and EU, by the rule that is chosen.
--
--     no_fuel                            without fuel nothing is written
--     eg-merge, eg-on-at                 EG: merge on the walk, else a here and EG at the lowest successor at which it holds
--     ar-merge, ar-release, ar-on-at     AR: merge on the walk, release where a holds, else b here and AR at each successor
--     eu-now, eu-later                   EU: now where b holds, else a here and EU at the nearest successor
--     ex-holds, eg-holds, ar-here, ar-there, eu-holds
--                                        and where each holds, so does what follows
use Prim.Native.Nat.{ℕ, suc, ◌<◌}
use native.Mathlib.Omega.{arith}
use mathlib.Core.Path.{◌≡◌, refl, ap}
use mathlib.Core.List.{List, [], ◌∷◌, ◌++◌}
use mathlib.Core.Logic.{⊎_elim}
use lib.Dec.{T}
use Rattle.model.specs.Graph.{Graph, Next, Readable}
use Rattle.logic.specs.Rules.{Walk, also, On}
use Rattle.logic.specs.Test.{Stages, some_next, eg, ar, eu}
use Rattle.logic.proofs.Booleans.{T_not}
use Rattle.logic.proofs.Successors.{some_next_lem, eg-on, ar-on}
use Rattle.rules.specs.Kind.{Kind}
use Rattle.rules.specs.Table.{row, begin, body}
use Rattle.rules.specs.declared.Rule.{Rule}
use Rattle.written.specs.Choice.{if_so, lowest_next, nearest}
use Rattle.written.specs.Written.{Entry, through, parts, premises, along}
use Rattle.written.proofs.LowestLaws.{lowest-next, within_more, Near, nearest-near}
use Rattle.written.proofs.WalkLaws.{taken-by}
use Rattle.written.proofs.WayLaws.{first-steps}

module _ (G : Graph) (A B : Entry) where
  pub no_fuel : (k : Kind) (w : Walk) (s : ℕ) → along G k A B 0 w s ≡ []
  no_fuel k w s = refl

  module _ (fuel : ℕ) (w : Walk) (s : ℕ) where
    -- A step of a kind by a rule, with the fuel that is left.
    abbrev By : Kind → Rule → List ℕ
    By k q = begin q ++ premises G (parts A.steps B.steps (λ t. along G k A B fuel (also w s) t)) s (body q).premises

    pub eg-merge : On w s → (row Rule.EgMerge).code ∷ [] ≡ along G Kind.EG A B (suc fuel) w s
    eg-merge o =
        taken-by (λ q. (row Rule.EgMerge).code ∷ [] ≡ By Kind.EG q) (w s) Rule.EgMerge (Rule.EgOn (lowest_next G (eg G A.holds) s)) (λ u. refl)
        (λ f. absurd ((T_not (w s)).0 f o))

    pub eg-on-at : (c : ℕ) → (On w s → ⊥) → c ≡ lowest_next G (eg G A.holds) s
        → ((row (Rule.EgOn c)).code ∷ []) ++ ((c ∷ []) ++ (A.steps s ++ along G Kind.EG A B fuel (also w s) c)) ≡ along G Kind.EG A B (suc fuel) w s
    eg-on-at c f e =
        taken-by
        (λ q. ((row (Rule.EgOn c)).code ∷ []) ++ ((c ∷ []) ++ (A.steps s ++ along G Kind.EG A B fuel (also w s) c)) ≡ By Kind.EG q) (w s)
        Rule.EgMerge (Rule.EgOn (lowest_next G (eg G A.holds) s)) (λ u. absurd (f u)) (λ u. ap (λ (d : ℕ). By Kind.EG (Rule.EgOn d)) e)

    pub ar-merge : On w s → (row Rule.ArMerge).code ∷ [] ≡ along G Kind.AR A B (suc fuel) w s
    ar-merge o =
        taken-by (λ q. (row Rule.ArMerge).code ∷ [] ≡ By Kind.AR q) (w s) Rule.ArMerge (if_so (A.holds s) Rule.ArRelease Rule.ArOn) (λ u. refl)
        (λ f. absurd ((T_not (w s)).0 f o))

    -- Off the walk.
    off-walk : (l : List ℕ) → (On w s → ⊥) → l ≡ By Kind.AR (if_so (A.holds s) Rule.ArRelease Rule.ArOn) → l ≡ along G Kind.AR A B (suc fuel) w s
    off-walk l f e =
        taken-by (λ q. l ≡ By Kind.AR q) (w s) Rule.ArMerge (if_so (A.holds s) Rule.ArRelease Rule.ArOn) (λ u. absurd (f u)) (λ u. e)

    pub ar-release : (On w s → ⊥) → T (A.holds s)
        → ((row Rule.ArRelease).code ∷ []) ++ (A.steps s ++ B.steps s) ≡ along G Kind.AR A B (suc fuel) w s
    ar-release f t =
        off-walk _ f (taken-by (λ q. ((row Rule.ArRelease).code ∷ []) ++ (A.steps s ++ B.steps s) ≡ By Kind.AR q) (A.holds s) Rule.ArRelease Rule.ArOn
        (λ u. refl) (λ g. absurd ((T_not (A.holds s)).0 g t)))

    pub ar-on-at : (On w s → ⊥) → (T (A.holds s) → ⊥)
        → ((row Rule.ArOn).code ∷ []) ++ (B.steps s ++ through G.stages (G.next s) (λ t. along G Kind.AR A B fuel (also w s) t))
        ≡ along G Kind.AR A B (suc fuel) w s
    ar-on-at f g =
        off-walk _ f (taken-by
        (λ q. ((row Rule.ArOn).code ∷ []) ++ (B.steps s ++ through G.stages (G.next s) (λ t. along G Kind.AR A B fuel (also w s) t)) ≡ By Kind.AR q)
        (A.holds s) Rule.ArRelease Rule.ArOn (λ u. absurd (g u)) (λ u. refl))

    pub eu-now : T (B.holds s) → ((row Rule.EuNow).code ∷ []) ++ B.steps s ≡ along G Kind.EU A B (suc fuel) w s
    eu-now t =
        taken-by (λ q. ((row Rule.EuNow).code ∷ []) ++ B.steps s ≡ By Kind.EU q) (B.holds s) Rule.EuNow
        (Rule.EuLater (nearest G A.holds B.holds s)) (λ u. refl) (λ f. absurd ((T_not (B.holds s)).0 f t))

    pub eu-later : (c : ℕ) → (T (B.holds s) → ⊥) → c ≡ nearest G A.holds B.holds s
        → ((row (Rule.EuLater c)).code ∷ []) ++ ((c ∷ []) ++ (A.steps s ++ along G Kind.EU A B fuel (also w s) c)) ≡ along G Kind.EU A B (suc fuel) w s
    eu-later c f e =
        taken-by
        (λ q. ((row (Rule.EuLater c)).code ∷ []) ++ ((c ∷ []) ++ (A.steps s ++ along G Kind.EU A B fuel (also w s) c)) ≡ By Kind.EU q) (B.holds s)
        Rule.EuNow (Rule.EuLater (nearest G A.holds B.holds s)) (λ u. absurd (f u)) (λ u. ap (λ (d : ℕ). By Kind.EU (Rule.EuLater d)) e)

-- Where a modality holds, what its step goes on with holds.
module _ {G : Graph} (R : Readable G) (a : Stages) (s : ℕ) (h : s < G.stages) where
  -- EX: a at the lowest successor at which it holds.
  pub ex-holds : {c : ℕ} → c ≡ lowest_next G a s → T (some_next G a s) → (c < G.stages) × T (a c)
  ex-holds e t =
      let n = lowest-next R a s ((some_next_lem R a s).0 t) in
      rw e ((R.inside s (lowest_next G a s) n.0).1, n.1)

  -- EG: a here, and EG at the lowest successor at which it holds.
  pub eg-holds : {c : ℕ} → c ≡ lowest_next G (eg G a) s → T (eg G a s) → T (a s) × ((c < G.stages) × T (eg G a c))
  eg-holds e t =
      let k = eg-on R a s h t in
      let n = lowest-next R (eg G a) s k.1 in
      (k.0, rw e ((R.inside s (lowest_next G (eg G a) s) n.0).1, n.1))

module _ {G : Graph} (R : Readable G) (a b : Stages) (s : ℕ) (h : s < G.stages) where
  -- AR: b here; and where it is not released AR at each successor.
  pub ar-here : T (ar G a b s) → T (b s)
  ar-here t = (ar-on R a b s h t).0

  pub ar-there : T (ar G a b s) → (T (a s) → ⊥) → (t : ℕ) → Next G s t → T (ar G a b t)
  ar-there t f = ⊎_elim (λ u. absurd (f u)) (λ g. g) (ar-on R a b s h t).1

  -- EU: where it is not now, a here, and EU at the nearest successor.
  pub eu-holds : {c : ℕ} → c ≡ nearest G a b s → T (eu G a b s) → (T (b s) → ⊥) → T (a s) × ((c < G.stages) × T (eu G a b c))
  eu-holds e t f =
      ⊎_elim (λ u. absurd (f u))
      (λ (r : (j : ℕ) × (j < G.stages) × T (a s) × Near G a b s j). let n = nearest-near R a b s r.0 r.1 r.3 in
      (r.2, rw e ((R.inside s (nearest G a b s) n.0).1, within_more G a b r.0 G.stages (omega (arith, r.1)) (nearest G a b s) n.1)))
      (first-steps G a b G.stages s t)
