-- What the rules derive is what the test passes: `test-derived`. First the four walks, where the tests of the operands say what is derived of
-- them; the theorem over whole formulas is then a line for each kind.
--
--     af-walks, eu-walks   these never come back to the walk
--     eg-walks, ar-walks   these merge
--     test-derived
use Prim.Native.Nat.{ℕ, ◌<◌}
use mathlib.Core.Logic.Iff
use mathlib.Core.Logic.{◌↔◌, inl, inr, ⊎_elim}
use lib.Dec.{T}
use Rattle.model.specs.Graph.{Graph, Readable}
use Rattle.model.specs.Formula.{Formula, truth, falsity, is, is_not, and, or, AX, EX, AF, EG, AR, EU, Env, Below}
use Rattle.logic.specs.Meaning.{AtEachNext, AtSomeNext}
use Rattle.logic.specs.Rules.{Walk, empty, also, stop_one, go_one, stop_each, go_each, AFwalk, EGwalk, ARwalk, EUwalk, Derived}
use Rattle.logic.proofs.Booleans.{T_and, T-or}
use Rattle.logic.specs.Test.{Stages, each_next, some_next, release_or_each, here_and_some, eg, af, ar, eu, test, Stand}
use Rattle.logic.proofs.Walks.{MergesOrStays, GoesInside, Stops, GoesOn, kept, merged, reached}
use Rattle.logic.proofs.Successors.{each_next_lem, some_next_lem, eg-on, ar-on, af-now, af-later, eu-now, eu-later}
use Rattle.logic.proofs.Compare.{Says, and-tells, or-tells, modal-tells, modal₂-tells}
use Rattle.logic.proofs.TestMeaning.{ax-means, ex-means}

module _ {G : Graph} (R : Readable G) (a : Stages) (A : ℕ → Type 0) (says : Says G.stages a A) where
  -- AF: a walk ends with a at every end, so each of its stages is in the set; and what k rounds reach, a walk reaches.
  pub af-walks : (s : ℕ) → s < G.stages → T (af G a s) ↔ AFwalk G A empty s
  af-walks s h = (reached G.stages (each_next G) a (AFwalk G A) stops goes s h, ends empty s h)
    where
      stops : Stops G.stages a (AFwalk G A)
      stops w t i o u = stop_each (o, (says.at t i).0 u)

      goes : GoesOn G.stages (each_next G) (AFwalk G A)
      goes w t i o y u f = go_each o tt (λ v e. f v (R.inside t v e).1 ((each_next_lem R y t).0 u v e))

      ends : (w : Walk) (t : ℕ) → t < G.stages → AFwalk G A w t → T (af G a t)
      ends w t i (stop_each k) = af-now R a t ((says.at t i).1 k.1)
      ends w t i (go_each o u k) = af-later R a t i (λ v e. ends (also w t) v (R.inside t v e).1 (k v e))

  -- EG: a walk that merges is kept by every round; and inside the set a walk goes on until it merges.
  pub eg-walks : (s : ℕ) → s < G.stages → T (eg G a s) ↔ EGwalk G A empty s
  eg-walks s h = (merged G.stages (eg G a) (EGwalk G A) (λ w t o. stop_one o) goes s h, kept G.stages (some_next G) a (EGwalk G A) stays s h)
    where
      goes : GoesInside G.stages (eg G a) (EGwalk G A)
      goes w t i o u f =
          let k = eg-on R a t i u in
          let c = k.1 in
          go_one o c.0 c.1 ((says.at t i).0 k.0) (f c.0 (R.inside t c.0 c.1).1 c.2)

      stays : MergesOrStays G.stages (some_next G) a (EGwalk G A)
      stays w t i (stop_one o) = inl o
      stays w t i (go_one o c e v d) = inr ((says.at t i).1 v, λ y k. (some_next_lem R y t).1 (c, e, k c (R.inside t c e).1 d))

module _ {G : Graph} (R : Readable G) (a b : Stages) (A B : ℕ → Type 0) (says-a : Says G.stages a A) (says-b : Says G.stages b B) where
  -- AR: as EG, over every successor, and with the release.
  pub ar-walks : (s : ℕ) → s < G.stages → T (ar G a b s) ↔ ARwalk G A B empty s
  ar-walks s h =
      (merged G.stages (ar G a b) (ARwalk G A B) (λ w t o. stop_each (inr o)) goes s h, kept G.stages (release_or_each G a) b (ARwalk G A B) stays s h)
    where
      goes : GoesInside G.stages (ar G a b) (ARwalk G A B)
      goes w t i o u f =
          let k = ar-on R a b t i u in
          let here : B t = (says-b.at t i).0 k.0 in
          ⊎_elim (λ v. stop_each (inl (o, (says-a.at t i).0 v, here))) (λ g. go_each o here (λ v e. f v (R.inside t v e).1 (g v e))) k.1

      stays : MergesOrStays G.stages (release_or_each G a) b (ARwalk G A B)
      stays w t i (stop_each (inl r)) = inr ((says-b.at t i).1 r.2, λ y k. (T-or (a t) (each_next G y t)).1 (inl ((says-a.at t i).1 r.1)))
      stays w t i (stop_each (inr o)) = inl o
      stays w t i (go_each o v k) =
          inr ((says-b.at t i).1 v, λ y g. (T-or (a t) (each_next G y t)).1 (inr ((each_next_lem R y t).1 (λ u e. g u (R.inside t u e).1 (k u e)))))

  -- EU: as AF, over one successor.
  pub eu-walks : (s : ℕ) → s < G.stages → T (eu G a b s) ↔ EUwalk G A B empty s
  eu-walks s h = (reached G.stages (here_and_some G a) b (EUwalk G A B) stops goes s h, ends empty s h)
    where
      stops : Stops G.stages b (EUwalk G A B)
      stops w t i o u = stop_one (o, (says-b.at t i).0 u)

      goes : GoesOn G.stages (here_and_some G a) (EUwalk G A B)
      goes w t i o y u f =
          let p = (T_and (a t) (some_next G y t)).0 u in
          let c = (some_next_lem R y t).0 p.1 in
          go_one o c.0 c.1 ((says-a.at t i).0 p.0) (f c.0 (R.inside t c.0 c.1).1 c.2)

      ends : (w : Walk) (t : ℕ) → t < G.stages → EUwalk G A B w t → T (eu G a b t)
      ends w t i (stop_one k) = eu-now R a b t ((says-b.at t i).1 k.1)
      ends w t i (go_one o c e v d) = eu-later R a b t i ((says-a.at t i).1 v) (c, e, ends (also w t) c (R.inside t c e).1 d)

-- A formula's test passes exactly when the formula is derived.
pub test-derived : {G : Graph} → Readable G → (f : Formula) (e : Env) → Below G.stages f → Stand G.stages e → T (test G f e) ↔ Derived G f e
test-derived R truth = λ e b d. Iff.rfl
test-derived R falsity = λ e b d. Iff.rfl
test-derived R (is q) = λ e b d. Iff.rfl
test-derived R (is_not q) = λ e b d. Iff.rfl
test-derived {G} R (and f g) = and-tells G (Derived G) f g (test-derived R f) (test-derived R g)
test-derived {G} R (or f g) = or-tells G (Derived G) f g (test-derived R f) (test-derived R g)
test-derived {G} R (AX x f t) = modal-tells G (Derived G) (each_next G) (AtEachNext G) (ax-means R) x f t (test-derived R f)
test-derived {G} R (EX x f t) = modal-tells G (Derived G) (some_next G) (AtSomeNext G) (ex-means R) x f t (test-derived R f)
test-derived {G} R (AF x f t) = modal-tells G (Derived G) (af G) (λ A. AFwalk G A empty) (af-walks R) x f t (test-derived R f)
test-derived {G} R (EG x f t) = modal-tells G (Derived G) (eg G) (λ A. EGwalk G A empty) (eg-walks R) x f t (test-derived R f)
test-derived {G} R (AR x f y g t) = modal₂-tells G (Derived G) (ar G) (λ A B. ARwalk G A B empty) (ar-walks R) x f y g t (test-derived R f) (test-derived R g)
test-derived {G} R (EU x f y g t) = modal₂-tells G (Derived G) (eu G) (λ A B. EUwalk G A B empty) (eu-walks R) x f y g t (test-derived R f) (test-derived R g)
