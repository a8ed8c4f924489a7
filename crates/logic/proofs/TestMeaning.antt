-- The test says what a formula means: `test-holds`. First each modality, where the tests of its operands say what the operands mean; the
-- theorem over whole formulas is then a line for each kind.
--
--     ax-means, ex-means, af-means, eg-means, ar-means, eu-means
--     test-holds      the test passes exactly when the formula holds
--     test-decides    the same, as `Decides`
use Prim.Native.Nat.{ℕ, zero, suc, ◌<◌}
use native.Mathlib.Nat.{not-suc-le-zero}
use native.Mathlib.Omega.{arith}
use mathlib.Core.Bool.{Bool, true, false, not}
use mathlib.Core.Logic.Iff
use mathlib.Core.Logic.{◌↔◌, ◌⊎◌, inl, inr, ⊎_elim}
use lib.Dec.{T}
use Rattle.model.specs.Graph.{Graph, Next, Readable}
use Rattle.model.specs.Decides.{Decides}
use Rattle.model.specs.Formula.{Formula, truth, falsity, is, is_not, and, or, AX, EX, AF, EG, AR, EU, Env}
use Rattle.model.specs.Formula.{Below}
use Rattle.logic.specs.Meaning.{Path, AtEachNext, AtSomeNext, OnEachOnce, OnSomeAlways, OnEachReleased, OnSomeUntil, Holds}
use Rattle.logic.proofs.Booleans.{T_and, T-or, T_not, decide}
use Rattle.logic.specs.Test.{Stages, each_next, some_next, release_or_each, here_and_some, eg, af, ar, eu, test, Stand}
use Rattle.logic.proofs.Walks.{MergesOrStays, Stops, GoesOn, kept, reached}
use Rattle.logic.proofs.Successors.{each_next_lem, some_next_lem, missing, eg-on, ar-on, af-now, af-later, eu-now, eu-later}
use Rattle.logic.proofs.Compare.{Says, and-tells, or-tells, modal-tells, modal₂-tells}
use Rattle.logic.proofs.Paths.{rest, second, before, endless, stands, starts, some-path}

module _ {G : Graph} (R : Readable G) (a : Stages) (A : ℕ → Type 0) (says : Says G.stages a A) where
  -- AX and EX: the operand is asked of successors, and those are stages.
  pub ax-means : (s : ℕ) → s < G.stages → T (each_next G a s) ↔ AtEachNext G A s
  ax-means s h = (
    λ u t e. (says.at t (R.inside s t e).1).0 ((each_next_lem R a s).0 u t e),
    λ f. (each_next_lem R a s).1 (λ t e. (says.at t (R.inside s t e).1).1 (f t e)),
  )

  pub ex-means : (s : ℕ) → s < G.stages → T (some_next G a s) ↔ AtSomeNext G A s
  ex-means s h = (
    λ u. let p = (some_next_lem R a s).0 u in (p.0, p.1, (says.at p.0 (R.inside s p.0 p.1).1).0 p.2),
    λ p. (some_next_lem R a s).1 (p.0, p.1, (says.at p.0 (R.inside s p.0 p.1).1).1 p.2),
  )

  -- EG: out of the set goes an endless path inside it; and a path with a at every stage is kept by every round.
  pub eg-means : (s : ℕ) → s < G.stages → T (eg G a s) ↔ OnSomeAlways G A s
  eg-means s h = (λ u. to (endless G In choose s (h, u)), kept G.stages (some_next G) a (λ w t. OnSomeAlways G A t) stays s h)
    where
      In : ℕ → Type 0
      In t = (t < G.stages) × T (eg G a t)

      choose : (t : ℕ) → In t → AtSomeNext G In t
      choose t i = let c = (eg-on R a t i.0 i.1).1 in (c.0, c.1, ((R.inside t c.0 c.1).1, c.2))

      to : (p : Path G s) × ((i : ℕ) → In (p.at i)) → OnSomeAlways G A s
      to f = (f.0, λ i. let k = f.1 i in (says.at (f.0.at i) k.0).0 (eg-on R a (f.0.at i) k.0 k.1).0)

      stays : MergesOrStays G.stages (some_next G) a (λ w t. OnSomeAlways G A t)
      stays w t h f =
          inr (
            (says.at t h).1 (rw f.0.first at (f.1 0)),
            λ y k. (some_next_lem R y t).1 (f.0.at 1, second f.0, k (f.0.at 1) (stands R f.0 1) (rest f.0, λ i. f.1 (suc i))),
          )

  -- AF: what k rounds reach, each path reaches; and outside the set goes an endless path without a.
  pub af-means : (s : ℕ) → s < G.stages → T (af G a s) ↔ OnEachOnce G A s
  af-means s h = (reached G.stages (each_next G) a (λ w t. OnEachOnce G A t) stops goes s h, λ f. from f (decide (af G a s)))
    where
      stops : Stops G.stages a (λ w t. OnEachOnce G A t)
      stops w t i o u p = (0, rw p.first ((says.at t i).0 u))

      goes : GoesOn G.stages (each_next G) (λ w t. OnEachOnce G A t)
      goes w t i o y u f p = let r = f (p.at 1) (stands R p 1) ((each_next_lem R y t).0 u (p.at 1) (second p)) (rest p) in (suc r.0, r.1)

      Out : ℕ → Type 0
      Out t = (t < G.stages) × T (not (af G a t))

      choose : (t : ℕ) → Out t → AtSomeNext G Out t
      choose t o =
          let c = missing R (af G a) t (λ f. (T_not (af G a t)).0 o.1 (af-later R a t o.0 f)) in
          (c.0, c.1, ((R.inside t c.0 c.1).1, c.2))

      from : OnEachOnce G A s → T (af G a s) ⊎ T (not (af G a s)) → T (af G a s)
      from f (inl u) = u
      from f (inr o) =
          let p = endless G Out choose s (h, o) in
          let i = (f p.0).0 in
          let u : ℕ = p.0.at i in
          absurd ((T_not (af G a u)).0 (p.1 i).1 (af-now R a u ((says.at u (p.1 i).0).1 (f p.0).1)))

module _ {G : Graph} (R : Readable G) (a b : Stages) (A B : ℕ → Type 0) (says-a : Says G.stages a A) (says-b : Says G.stages b B) where
  -- AR: at each place of a path from the set the path is still in the set, or a held before; and where AR holds, every round keeps the stage.
  pub ar-means : (s : ℕ) → s < G.stages → T (ar G a b s) ↔ OnEachReleased G A B s
  ar-means s h = (to s, kept G.stages (release_or_each G a) b (λ w t. OnEachReleased G A B t) stays s h)
    where
      to : (t : ℕ) → T (ar G a b t) → (p : Path G t) (i : ℕ) → B (p.at i) ⊎ ((j : ℕ) × (j < i) × A (p.at j))
      to t u p zero = inl (rw p.first ((says-b.at t (starts R p)).0 (ar-on R a b t (starts R p) u).0))
      to t u p (suc i) =
          ⊎_elim (λ v. inr (0, omega arith, rw p.first ((says-a.at t (starts R p)).0 v)))
          (λ f. ⊎_elim (λ v. inl v) (λ r. inr (suc r.0, omega arith, r.2)) (to (p.at 1) (f (p.at 1) (second p)) (rest p) i))
          (ar-on R a b t (starts R p) u).1

      now : (t : ℕ) → t < G.stages → OnEachReleased G A B t → B t
      now t i f = let p = some-path R t i in ⊎_elim (λ v. rw p.first at v) (λ r. absurd (not-suc-le-zero r.1)) (f p 0)

      on : (t : ℕ) → (A t → ⊥) → OnEachReleased G A B t → (u : ℕ) → Next G t u → OnEachReleased G A B u
      on t o f u e q i = ⊎_elim (λ v. inl v) (λ r. inr (earlier r.0 r.1 r.2)) (f (before e q) (suc i))
        where
          earlier : (j : ℕ) → j < suc i → A ((before e q).at j) → (k : ℕ) × (k < i) × A (q.at k)
          earlier zero k v = absurd (o v)
          earlier (suc j) k v = (j, omega arith, v)

      stays : MergesOrStays G.stages (release_or_each G a) b (λ w t. OnEachReleased G A B t)
      stays w t i f =
          let unreleased : T (not (a t)) → A t → ⊥ = λ o v. (T_not (a t)).0 o ((says-a.at t i).1 v) in
          inr (
            (says-b.at t i).1 (now t i f),
            λ y k. (T-or (a t) (each_next G y t)).1
                (⊎_elim (λ v. inl v) (λ o. inr ((each_next_lem R y t).1 (λ u e. k u (R.inside t u e).1 (on t (unreleased o) f u e)))) (decide (a t))),
          )

  -- EU: what k rounds reach, some path reaches; and each stage of a path up to its stage with b is in the set.
  pub eu-means : (s : ℕ) → s < G.stages → T (eu G a b s) ↔ OnSomeUntil G A B s
  eu-means s h = (reached G.stages (here_and_some G a) b (λ w t. OnSomeUntil G A B t) stops goes s h, λ f. from s f.0 f.1 f.2 f.3)
    where
      longer : (t u : ℕ) → Next G t u → A t → OnSomeUntil G A B u → OnSomeUntil G A B t
      longer t u e v r = (before e r.0, suc r.1, r.2, earlier)
        where
          earlier : (j : ℕ) → j < suc r.1 → A ((before e r.0).at j)
          earlier zero k = v
          earlier (suc j) k = r.3 j (omega arith)

      stops : Stops G.stages b (λ w t. OnSomeUntil G A B t)
      stops w t i o u = let p = some-path R t i in (p, 0, rw p.first ((says-b.at t i).0 u), λ j k. absurd (not-suc-le-zero k))

      goes : GoesOn G.stages (here_and_some G a) (λ w t. OnSomeUntil G A B t)
      goes w t i o y u f =
          let p = (T_and (a t) (some_next G y t)).0 u in
          let c = (some_next_lem R y t).0 p.1 in
          longer t c.0 c.1 ((says-a.at t i).0 p.0) (f c.0 (R.inside t c.0 c.1).1 c.2)

      from : (t : ℕ) (p : Path G t) (i : ℕ) → B (p.at i) → ((j : ℕ) → j < i → A (p.at j)) → T (eu G a b t)
      from t p zero v f = eu-now R a b t ((says-b.at t (starts R p)).1 (rw p.first at v))
      from t p (suc i) v f =
          eu-later R a b t (starts R p) ((says-a.at t (starts R p)).1 (rw p.first at (f 0 (omega arith))))
          (p.at 1, second p, from (p.at 1) (rest p) i v (λ j k. f (suc j) (omega arith)))

-- A formula's test passes exactly when the formula holds.
pub test-holds : {G : Graph} → Readable G → (f : Formula) (e : Env) → Below G.stages f → Stand G.stages e → T (test G f e) ↔ Holds G f e
test-holds R truth = λ e b d. Iff.rfl
test-holds R falsity = λ e b d. Iff.rfl
test-holds R (is q) = λ e b d. Iff.rfl
test-holds R (is_not q) = λ e b d. Iff.rfl
test-holds {G} R (and f g) = and-tells G (Holds G) f g (test-holds R f) (test-holds R g)
test-holds {G} R (or f g) = or-tells G (Holds G) f g (test-holds R f) (test-holds R g)
test-holds {G} R (AX x f t) = modal-tells G (Holds G) (each_next G) (AtEachNext G) (ax-means R) x f t (test-holds R f)
test-holds {G} R (EX x f t) = modal-tells G (Holds G) (some_next G) (AtSomeNext G) (ex-means R) x f t (test-holds R f)
test-holds {G} R (AF x f t) = modal-tells G (Holds G) (af G) (OnEachOnce G) (af-means R) x f t (test-holds R f)
test-holds {G} R (EG x f t) = modal-tells G (Holds G) (eg G) (OnSomeAlways G) (eg-means R) x f t (test-holds R f)
test-holds {G} R (AR x f y g t) = modal₂-tells G (Holds G) (ar G) (OnEachReleased G) (ar-means R) x f y g t (test-holds R f) (test-holds R g)
test-holds {G} R (EU x f y g t) = modal₂-tells G (Holds G) (eu G) (OnSomeUntil G) (eu-means R) x f y g t (test-holds R f) (test-holds R g)

-- So the test decides whether the formula holds.
pub test-decides : {G : Graph} → Readable G → (f : Formula) (e : Env) → Below G.stages f → Stand G.stages e → Decides (test G f e) (Holds G f e)
test-decides {G} R f e b d = go (test G f e) (test-holds R f e b d)
  where
    go : (r : Bool) → T r ↔ Holds G f e → Decides r (Holds G f e)
    go true h = h.0 tt
    go false h = h.1
