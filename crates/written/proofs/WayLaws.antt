-- The words of `specs/Ways` and what is computed: k rounds of EU reach exactly what has a way of at most k steps to a now, and the nearest successor is
-- the one that `Nearest` speaks of.
--
--     way-within, within-way     what k rounds reach
--     first-steps                what rounds reach is a now, or has a and a successor that fewer rounds reach
--     nearest-is-nearest         the nearest successor
--     lowest-in                  the lowest successor
--     one-lowest, one-nearest    there is one lowest number with a property, and one nearest successor
use Prim.Native.Nat.{ℕ, zero, suc, ◌≤◌, ◌<◌}
use native.Mathlib.Omega.{arith}
use mathlib.Core.Path.{◌≡◌, subst}
use mathlib.Core.Logic.{◌↔◌, ◌⊎◌, inl, inr, ⊎_elim}
use lib.Dec.{T}
use Rattle.model.specs.Graph.{Graph, Next, Readable}
use Rattle.logic.specs.Meaning.{AtSomeNext}
use Rattle.logic.specs.Test.{Stages, iter, eu}
use Rattle.logic.proofs.Successors.{some_next_lem}
use Rattle.logic.proofs.Compare.{Says}
use Rattle.written.specs.Choice.{lowest_next, within, fewest, nearest}
use Rattle.written.specs.Ways.{Lowest, Way, Nearest}
use Rattle.written.proofs.LowestLaws.{below?, lowest-one, lowest-next, lowest-next-first, within-suc, within_more, Near, fewest-near, fewest-least}

-- What rounds reach is a now, or has a and a successor that fewer rounds reach.
pub first-steps : (G : Graph) (a b : Stages) (k s : ℕ) → T (within G a b k s) → T (b s) ⊎ ((j : ℕ) × (j < k) × T (a s) × Near G a b s j)
unfolding iter
first-steps G a b zero s t = inl t
first-steps G a b (suc k) s t =
    ⊎_elim
    (λ u. ⊎_elim (λ v. inl v) (λ r. inr (r.0, omega (arith, r.1), r.2, r.3)) (first-steps G a b k s u)) (λ r. inr (k, omega arith, r.0, r.1))
    ((within-suc G a b k s).0 t)

module _ {G : Graph} (R : Readable G) (a b : Stages) (A B : ℕ → Type 0) (says-a : Says G.stages a A) (says-b : Says G.stages b B) where
  -- A way of k steps is in what k rounds reach.
  pub way-within : (k s : ℕ) → s < G.stages → Way G A B k s → T (within G a b k s)
  unfolding iter
  way-within zero s h v = (says-b.at s h).1 v
  way-within (suc k) s h v =
      (within-suc G a b k s).1
      (inr ((says-a.at s h).1 v.0, (some_next_lem R (within G a b k) s).1 (v.1, v.2, way-within k v.1 (R.inside s v.1 v.2).1 v.3)))

  -- What k rounds reach has a way of at most k steps.
  within-some : (k s : ℕ) → s < G.stages → T (within G a b k s) → (j : ℕ) × (j ≤ k) × Way G A B j s
  unfolding iter
  within-some zero s h t = (0, omega arith, (says-b.at s h).0 t)
  within-some (suc k) s h t =
      ⊎_elim (λ u. let r = within-some k s h u in (r.0, omega (arith, r.1), r.2))
      (λ u. let c = (some_next_lem R (within G a b k) s).0 u.1 in
      let r = within-some k c.0 (R.inside s c.0 c.1).1 c.2 in
      (suc r.0, omega (arith, r.1), ((says-a.at s h).0 u.0, c.0, c.1, r.2)))
      ((within-suc G a b k s).0 t)

  -- So k rounds reach exactly what has a way of at most k steps.
  pub within-way : (k s : ℕ) → s < G.stages → T (within G a b k s) ↔ ((j : ℕ) × (j ≤ k) × Way G A B j s)
  within-way k s h = (within-some k s h, λ r. within_more G a b r.0 k r.1 s (way-within r.0 s h r.2))

  -- A successor with a way of j steps: the nearest is at most as many steps from a now.
  at_most : (s t j : ℕ) → Next G s t → Way G A B j t → fewest G a b s ≤ j
  at_most s t j e v = fewest-least G a b s j ((some_next_lem R (within G a b j) s).1 (t, e, way-within j t (R.inside s t e).1 v))

  -- The nearest successor of a stage with EU that is no now.
  pub nearest-is-nearest : (s : ℕ) → (T (b s) → ⊥) → T (eu G a b s) → Nearest G A B s (fewest G a b s) (nearest G a b s)
  nearest-is-nearest s f t = record {
    next = n.0;
    way = subst (λ (j : ℕ). Way G A B j (nearest G a b s)) exact r.2;
    fewest = at_most s;
    lowest = λ u j l e v.
        ⊎_elim (λ m. m)
        (λ m. absurd (lowest-next-first R (within G a b k) s u l e (within_more G a b j k m u (way-within j u (R.inside s u e).1 v)))) (below? k j);
  }
    where
      k : ℕ
      k = fewest G a b s

      near : Near G a b s k
      near = ⊎_elim (λ v. absurd (f v)) (λ p. fewest-near G a b s p.0 p.1 p.3) (first-steps G a b G.stages s t)

      n : Next G s (nearest G a b s) × T (within G a b k (nearest G a b s))
      n = lowest-next R (within G a b k) s ((some_next_lem R (within G a b k) s).0 near)

      r : (j : ℕ) × (j ≤ k) × Way G A B j (nearest G a b s)
      r = within-some k (nearest G a b s) (R.inside s (nearest G a b s) n.0).1 n.1

      exact : r.0 ≡ k
      exact = omega (arith, r.1, at_most s (nearest G a b s) r.0 n.0 r.2)

-- The lowest successor in a set that says P, where some successor is in it, is the lowest successor with P.
pub lowest-in : {G : Graph} → Readable G → {p : Stages} {P : ℕ → Type 0} → Says G.stages p P → (s : ℕ) → AtSomeNext G (λ u. T (p u)) s
    → Lowest (λ u. Next G s u × P u) (lowest_next G p s)
lowest-in {G} R {p} says s h =
    let c = lowest-next R p s h in
    record {
      has = (c.0, (says.at (lowest_next G p s) (R.inside s (lowest_next G p s) c.0).1).0 c.1);
      none = λ u l v. lowest-next-first R p s u l v.0 ((says.at u (R.inside s u v.0).1).1 v.1);
    }

-- There is one lowest number with a property,
pub one-lowest : {P : ℕ → Type 0} {c d : ℕ} → Lowest P c → Lowest P d → c ≡ d
one-lowest {P} {c} {d} l m = lowest-one P c d l.has l.none m.has m.none

-- and one nearest successor, at one number of steps.
pub one-nearest : {G : Graph} {A B : ℕ → Type 0} {s k c k' c' : ℕ} → Nearest G A B s k c → Nearest G A B s k' c' → (k ≡ k') × (c ≡ c')
one-nearest {G} {A} {B} {s} {k} {c} {k'} {c'} m n =
    let l : k ≤ k' = m.fewest c' k' n.next n.way in
    let l' : k' ≤ k = n.fewest c k m.next m.way in (
      omega arith,
      ⊎_elim (λ i. absurd (omega (arith, n.lowest c k i m.next m.way)))
          (λ i. ⊎_elim (λ j. absurd (omega (arith, m.lowest c' k' j n.next n.way))) (λ j. omega arith) (below? c' c)) (below? c c'),
    )
