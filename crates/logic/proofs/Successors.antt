-- What `each_next` and `some_next` say, and the four modalities' sets of stages as solutions of their own equations.
--
--     each-next-same, some-next-same       only what is below n counts
--     not-some-next, not-each-next         one is the other, seen from outside
--     each_next_lem, some_next_lem                 as statements about successors
--     missing                              not every successor in a set: some successor outside it
--     each-monotone, ..                    the four steps are monotone
--     eg-on, ar-on                         a stage of EG's or AR's set: what it asks here, and a successor, or all of them, in the set again
--     af-now, af-later, eu-now, eu-later   what is in AF's and EU's sets
use Prim.Native.Nat.{ℕ, ◌<◌}
use mathlib.Core.Path.{◌≡◌, sym, ap, ◌∙◌, fun_ext}
use mathlib.Core.Bool.{Bool, not, ◌&&◌, ◌||◌}
use mathlib.Core.Logic.{◌↔◌, ◌⊎◌, inl, inr, ⊎_elim}
use lib.Dec.{T}
use Rattle.model.specs.Graph.{Graph, Readable}
use Rattle.logic.specs.Meaning.{AtEachNext, AtSomeNext}
use Rattle.logic.proofs.Booleans.{T_and, T-or, T_not, decide, all-below, any_below_lem, not-and, not-or, not-not, none_below}
use Rattle.logic.proofs.Booleans.{not_all_below, all-below-same, any-below-same}
use Rattle.logic.specs.Test.{Stages, outside, each_next, some_next, release_or_each, here_and_some, eg, af, ar, eu, all_below, any_below}
use Rattle.logic.proofs.Rounds.{Monotone, shrunk, grown, shrink-start, grow-start}

-- Sets that are the same below n have the same stages with every successor, and with some successor, in them.
pub each-next-same : (G : Graph) (x y : Stages) → ((t : ℕ) → t < G.stages → x t ≡ y t) → (s : ℕ) → each_next G x s ≡ each_next G y s
unfolding each_next
each-next-same G x y h s = all-below-same G.stages _ _ (λ t i. ap (λ (b : Bool). not (G.next s t) || b) (h t i))

pub some-next-same : (G : Graph) (x y : Stages) → ((t : ℕ) → t < G.stages → x t ≡ y t) → (s : ℕ) → some_next G x s ≡ some_next G y s
unfolding some_next
some-next-same G x y h s = any-below-same G.stages _ _ (λ t i. ap (λ (b : Bool). G.next s t && b) (h t i))

-- No successor in x is every successor outside x.
pub not-some-next : (G : Graph) (x : Stages) → each_next G (outside x) ≡ outside (some_next G x)
unfolding each_next some_next
not-some-next G x = fun_ext (λ s.
    ap (all_below G.stages) (fun_ext (λ t. sym (not-and (G.next s t) (x t)))) ∙ none_below G.stages (λ t. G.next s t && x t))

-- Not every successor in x is some successor outside x.
pub not-each-next : (G : Graph) (x : Stages) → some_next G (outside x) ≡ outside (each_next G x)
unfolding each_next some_next
not-each-next G x = fun_ext (λ s.
    ap (any_below G.stages) (fun_ext (λ t. same (G.next s t) (x t))) ∙ not_all_below G.stages (λ t. not (G.next s t) || x t))
  where
    same : (a b : Bool) → (a && not b) ≡ not (not a || b)
    same a b = sym (not-or (not a) b ∙ ap (λ (c : Bool). c && not b) (not-not a))

module _ {G : Graph} (R : Readable G) where
  -- A stage passes `each_next` when every successor is in the set.
  pub each_next_lem : (x : Stages) (s : ℕ) → T (each_next G x s) ↔ AtEachNext G (λ t. T (x t)) s
  unfolding each_next
  each_next_lem x s = (to, λ f. (all-below G.stages passes).1 (λ t h. (T-or (not (G.next s t)) (x t)).1 (from f t (decide (G.next s t)))))
    where
      passes : Stages
      passes t = not (G.next s t) || x t

      to : T (all_below G.stages passes) → AtEachNext G (λ t. T (x t)) s
      to u t e =
          ⊎_elim (λ f. absurd ((T_not (G.next s t)).0 f e)) (λ v. v)
          ((T-or (not (G.next s t)) (x t)).0 ((all-below G.stages passes).0 u t (R.inside s t e).1))

      from : AtEachNext G (λ t. T (x t)) s → (t : ℕ) → T (G.next s t) ⊎ T (not (G.next s t)) → T (not (G.next s t)) ⊎ T (x t)
      from f t (inl e) = inr (f t e)
      from f t (inr n) = inl n

  -- A stage passes `some_next` when some successor is in the set.
  pub some_next_lem : (x : Stages) (s : ℕ) → T (some_next G x s) ↔ AtSomeNext G (λ t. T (x t)) s
  unfolding some_next
  some_next_lem x s = (to, λ f. (any_below_lem G.stages passes).1 (f.0, (R.inside s f.0 f.1).1, (T_and (G.next s f.0) (x f.0)).1 (f.1, f.2)))
    where
      passes : Stages
      passes t = G.next s t && x t

      to : T (any_below G.stages passes) → AtSomeNext G (λ t. T (x t)) s
      to u = let f = (any_below_lem G.stages passes).0 u in let p = (T_and (G.next s f.0) (x f.0)).0 f.2 in (f.0, p.0, p.1)

  -- Where not every successor is in the set, some successor is outside it.
  pub missing : (x : Stages) (s : ℕ) → (AtEachNext G (λ t. T (x t)) s → ⊥) → AtSomeNext G (λ t. T (not (x t))) s
  missing x s f = (some_next_lem (outside x) s).0 (rw (not-each-next G x) ((T_not (each_next G x s)).1 (λ u. f ((each_next_lem x s).0 u))))

  -- The four steps are monotone.
  pub each-monotone : Monotone G.stages (each_next G)
  each-monotone x y f s h u = (each_next_lem y s).1 (λ t e. f t (R.inside s t e).1 ((each_next_lem x s).0 u t e))

  pub some-monotone : Monotone G.stages (some_next G)
  some-monotone x y f s h u = let p = (some_next_lem x s).0 u in (some_next_lem y s).1 (p.0, p.1, f p.0 (R.inside s p.0 p.1).1 p.2)

  pub release-monotone : (a : Stages) → Monotone G.stages (release_or_each G a)
  release-monotone a x y f s h u =
      (T-or (a s) (each_next G y s)).1 (⊎_elim (λ v. inl v) (λ v. inr (each-monotone x y f s h v)) ((T-or (a s) (each_next G x s)).0 u))

  pub here-monotone : (a : Stages) → Monotone G.stages (here_and_some G a)
  here-monotone a x y f s h u = let p = (T_and (a s) (some_next G x s)).0 u in (T_and (a s) (some_next G y s)).1 (p.0, some-monotone x y f s h p.1)

  -- A stage of EG's set has a, and a successor in the set.
  pub eg-on : (a : Stages) (s : ℕ) → s < G.stages → T (eg G a s) → T (a s) × AtSomeNext G (λ t. T (eg G a t)) s
  eg-on a s h u = (shrink-start (some_next G) a G.stages s u, (some_next_lem (eg G a) s).0 (shrunk G.stages (some_next G) some-monotone a s h u))

  -- A stage of AR's set has b, and it has a or each successor is in the set.
  pub ar-on : (a b : Stages) (s : ℕ) → s < G.stages → T (ar G a b s) → T (b s) × (T (a s) ⊎ AtEachNext G (λ t. T (ar G a b t)) s)
  ar-on a b s h u = (
    shrink-start (release_or_each G a) b G.stages s u,
    ⊎_elim (λ v. inl v) (λ v. inr ((each_next_lem (ar G a b) s).0 v))
        ((T-or (a s) (each_next G (ar G a b) s)).0 (shrunk G.stages (release_or_each G a) (release-monotone a) b s h u)),
  )

  -- A stage with a is in AF's set, and so is one with every successor in it.
  pub af-now : (a : Stages) (s : ℕ) → T (a s) → T (af G a s)
  af-now a s u = grow-start (each_next G) a G.stages s u

  pub af-later : (a : Stages) (s : ℕ) → s < G.stages → AtEachNext G (λ t. T (af G a t)) s → T (af G a s)
  af-later a s h f = grown G.stages (each_next G) each-monotone a s h ((each_next_lem (af G a) s).1 f)

  -- A stage with b is in EU's set, and so is one with a and some successor in it.
  pub eu-now : (a b : Stages) (s : ℕ) → T (b s) → T (eu G a b s)
  eu-now a b s u = grow-start (here_and_some G a) b G.stages s u

  pub eu-later : (a b : Stages) (s : ℕ) → s < G.stages → T (a s) → AtSomeNext G (λ t. T (eu G a b t)) s → T (eu G a b s)
  eu-later a b s h u f =
      grown G.stages (here_and_some G a) (here-monotone a) b s h ((T_and (a s) (some_next G (eu G a b) s)).1 (u, (some_next_lem (eu G a b) s).1 f))
