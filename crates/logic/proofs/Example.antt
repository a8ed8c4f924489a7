-- Document 01, "The example graph", as a graph and formulas: the theorems' conditions can be met, and the test computes what they speak of.
--
--     sequence, sequence-readable     0 armed, 1 in zone, 2 fired
--     can-fire, can-fire-derived      entry 2, EU(true, fired), at stage 0: it holds, and has the derivation of marked case 1
--     may-not-fire, ..                entry 4, AF(fired), at stage 0: its dual holds, and has the derivation of marked case 2
--     not-must-fire                   so it does not hold
use Prim.Native.Nat.{ℕ, zero, suc, ◌<◌}
use native.Mathlib.Omega.{arith}
use mathlib.Core.Bool.{Bool, true, false, ◌&&◌, ◌||◌}
use mathlib.Core.Logic.{⊎_elim}
use mathlib.Core.List.{List, [], ◌∷◌}
use lib.Dec.{T, eqb, ltb, eqb→eq, ltb→lt}
use Rattle.model.specs.Graph.{Graph, Next, Readable}
use Rattle.model.specs.Formula.{Formula, truth, is, AF, EU, variable, one, Env, dual}
use Rattle.logic.specs.Meaning.{Holds}
use Rattle.logic.specs.Rules.{stop_one, go_one, Derived}
use Rattle.logic.proofs.Booleans.{T_and, T-or}
use Rattle.logic.specs.Test.{iter, each_next, some_next, Stand, all_below, any_below}
use Rattle.logic.proofs.TestMeaning.{test-holds}
use Rattle.logic.proofs.Duality.{dual-holds}

-- A list of edges, each a stage and a successor of it.
abbrev Edges : Type 0
Edges = List (ℕ × ℕ)

-- whether t follows s by one of the edges
abbrev joins : Edges → ℕ → ℕ → Bool
joins [] s t = false
joins (k ∷ ks) s t = (eqb s k.0 && eqb t k.1) || joins ks s t

-- whether every edge is between stages below n
abbrev fits : ℕ → Edges → Bool
fits n [] = true
fits n (k ∷ ks) = (ltb k.0 n && ltb k.1 n) && fits n ks

-- Then t follows s only where both are below n.
joins-inside : (n : ℕ) (ks : Edges) → T (fits n ks) → (s t : ℕ) → T (joins ks s t) → (s < n) × (t < n)
joins-inside n [] f s t j = absurd j
joins-inside n (k ∷ ks) f s t j = ⊎_elim here (joins-inside n ks r.1 s t) ((T-or (eqb s k.0 && eqb t k.1) (joins ks s t)).0 j)
  where
    r : T (ltb k.0 n && ltb k.1 n) × T (fits n ks)
    r = (T_and (ltb k.0 n && ltb k.1 n) (fits n ks)).0 f

    here : T (eqb s k.0 && eqb t k.1) → (s < n) × (t < n)
    here u =
        let e = (T_and (eqb s k.0) (eqb t k.1)).0 u in
        let l = (T_and (ltb k.0 n) (ltb k.1 n)).0 r.0 in
        (rw (eqb→eq s k.0 e.0) (ltb→lt k.0 n l.0), rw (eqb→eq t k.1 e.1) (ltb→lt k.1 n l.1))

-- 0 to 0 and 1; 1 to 0 and 2; 2 to 2. Predicate 0 is {2}.
abbrev edges : Edges
edges = (0, 0) ∷ (0, 1) ∷ (1, 0) ∷ (1, 2) ∷ (2, 2) ∷ []

abbrev pub sequence : Graph
sequence = record { stages = 3; next = joins edges; one = λ q s. eqb q 0 && eqb s 2; two = λ q s t. false }

-- Every stage has a successor.
goes_on : (s : ℕ) → s < 3 → (t : ℕ) × Next sequence s t
goes_on zero h = (0, tt)
goes_on (suc zero) h = (2, tt)
goes_on (suc (suc zero)) h = (2, tt)
goes_on (suc (suc (suc s))) h = absurd (omega arith)

pub sequence-readable : Readable sequence
sequence-readable = record { inside = joins-inside 3 edges tt; total = goes_on }

-- Entry 2 is EU(true, fired), entry 4 is AF(fired), each from the stage of variable 0.
abbrev pub can_fire : Formula
can_fire = EU 2 truth 1 (is (one 0 (variable 1))) (variable 0)

abbrev pub must_fire : Formula
must_fire = AF 1 (is (one 0 (variable 1))) (variable 0)

-- The start is stage 0.
abbrev pub armed : Env
armed v = 0

armed-stands : Stand 3 armed
armed-stands v = omega arith

-- Some path reaches "fired", by the test and by a derivation: go on at 1, go on at 2, now.
pub can-fire : Holds sequence can_fire armed
unfolding iter each_next some_next all_below any_below
can-fire = (test-holds sequence-readable can_fire armed (tt, tt, tt) armed-stands).0 tt

pub can-fire-derived : Derived sequence can_fire armed
can-fire-derived = go_one tt 1 tt tt (go_one tt 2 tt tt (stop_one (tt, tt)))

-- Not every path does: go on at 0, merge.
pub may-not-fire : Holds sequence (dual must_fire) armed
unfolding iter each_next some_next all_below any_below
may-not-fire = (test-holds sequence-readable (dual must_fire) armed (tt, tt) armed-stands).0 tt

pub may-not-fire-derived : Derived sequence (dual must_fire) armed
may-not-fire-derived = go_one tt 0 tt tt (stop_one tt)

pub not-must-fire : Holds sequence must_fire armed → ⊥
not-must-fire = (dual-holds sequence-readable must_fire armed (tt, tt) armed-stands).0 may-not-fire
