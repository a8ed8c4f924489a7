-- Validity by path-trees, as Figure 1 of source document 000 has it, is the meaning over endless paths: `valid-holds`. Both are compared with
-- the test: first the three modalities that the figure words otherwise, then whole formulas.
--
--     af-trees, eu-trees, ar-trees
--     test-valid, valid-holds
use Prim.Native.Nat.{ℕ, ◌<◌}
use mathlib.Core.Bool.{Bool, true, not, ◌&&◌}
use mathlib.Core.Logic.Iff
use mathlib.Core.Logic.{◌↔◌, inl, inr, ⊎_elim}
use lib.Dec.{T}
use Rattle.model.specs.Graph.{Graph, Next, Readable}
use Rattle.model.specs.Formula.{Formula, truth, falsity, is, is_not, and, or, AX, EX, AF, EG, AR, EU, Env, Below}
use Rattle.logic.specs.Meaning.{AtEachNext, AtSomeNext, OnSomeAlways, Holds}
use Rattle.logic.specs.Trees.{FinitePath, start, then, FiniteTree, leaf, node, PathTree, Before, AtLeaves, Leaf, SomeFiniteTree, SomeTree}
use Rattle.logic.specs.Trees.{SomeFinitePath, Valid}
use Rattle.logic.specs.Rules.{Walk}
use Rattle.logic.proofs.Booleans.{T_and, T-or, T_not, decide}
use Rattle.logic.specs.Test.{Stages, each_next, some_next, release_or_each, here_and_some, eg, af, ar, eu, test, Stand}
use Rattle.logic.proofs.Walks.{MergesOrStays, Stops, GoesOn, kept, reached}
use Rattle.logic.proofs.Successors.{each_next_lem, some_next_lem, ar-on, af-now, af-later, eu-now, eu-later}
use Rattle.logic.proofs.Compare.{Says, and-tells, or-tells, modal-tells, modal₂-tells}
use Rattle.logic.proofs.TestMeaning.{ax-means, ex-means, eg-means, test-holds}

module _ {G : Graph} (R : Readable G) (a : Stages) (A : ℕ → Type 0) (says : Says G.stages a A) where
  -- AF: what k rounds reach has a tree as deep; and each node of a tree is in the set, from the leaves up.
  pub af-trees : (s : ℕ) → s < G.stages → T (af G a s) ↔ SomeFiniteTree G A s
  af-trees s h = (reached G.stages (each_next G) a (λ w t. SomeFiniteTree G A t) stops goes s h, λ f. from s h f.0 f.1)
    where
      stops : Stops G.stages a (λ w t. SomeFiniteTree G A t)
      stops w t i o u = (leaf, (says.at t i).0 u)

      goes : GoesOn G.stages (each_next G) (λ w t. SomeFiniteTree G A t)
      goes w t i o y u f =
          let child : (v : ℕ) → Next G t v → SomeFiniteTree G A v = λ v e. f v (R.inside t v e).1 ((each_next_lem R y t).0 u v e) in
          (node (λ v e. (child v e).0), λ v e. (child v e).1)

      from : (t : ℕ) → t < G.stages → (r : FiniteTree G t) → AtLeaves A r → T (af G a t)
      from t i leaf l = af-now R a t ((says.at t i).1 l)
      from t i (node k) l = af-later R a t i (λ v e. from v (R.inside t v e).1 (k v e) (l v e))

-- A finite path from a successor of s, with s put before; if a is at s and at every stage of the path but the last, then of the longer one too.
longer : {G : Graph} {s t u : ℕ} → Next G s t → FinitePath G t u → FinitePath G s u
longer {t = t} e start = then start t e
longer e (then p u d) = then (longer e p) u d

longer-before : {G : Graph} (A : ℕ → Type 0) (s : ℕ) {t u : ℕ} (e : Next G s t) (p : FinitePath G t u) → A s → Before A p → Before A (longer e p)
unfolding longer
longer-before A s e start v l = (tt, v)
longer-before A s e (then p u d) v l = (longer-before A s e p v l.0, l.1)

-- A finite path from a stage ends at a stage.
ends : {G : Graph} → Readable G → {s t : ℕ} → s < G.stages → FinitePath G s t → t < G.stages
ends R h start = h
ends R h (then {t} p u e) = (R.inside t u e).1

-- The finite paths from s on which a is at no stage but perhaps the last.
unreleased : {G : Graph} (a : Stages) {s t : ℕ} → FinitePath G s t → Bool
unreleased a start = true
unreleased a (then {t} p u e) = unreleased a p && not (a t)

-- They are a path-tree.
tree : (G : Graph) (a : Stages) (s : ℕ) → PathTree G s
unfolding unreleased
tree G a s = record {
  has = unreleased a;
  root = tt;
  parent = λ {t} p u e c. ((T_and (unreleased a p) (not (a t))).0 c).0;
  children = λ p u e v d c. c;
}

module _ {G : Graph} (R : Readable G) (a b : Stages) (A B : ℕ → Type 0) (says-a : Says G.stages a A) (says-b : Says G.stages b B) where
  -- EU: what k rounds reach has a path as long; and each stage of a finite path is in the set, from the last one back.
  pub eu-trees : (s : ℕ) → s < G.stages → T (eu G a b s) ↔ SomeFinitePath G A B s
  eu-trees s h = (
    reached G.stages (here_and_some G a) b (λ w t. SomeFinitePath G A B t) stops goes s h,
    λ f. back f.0 f.1 (eu-now R a b f.0 ((says-b.at f.0 (ends R h f.1)).1 f.2)) f.3,
  )
    where
      stops : Stops G.stages b (λ w t. SomeFinitePath G A B t)
      stops w t i o u = (t, start, (says-b.at t i).0 u, tt)

      goes : GoesOn G.stages (here_and_some G a) (λ w t. SomeFinitePath G A B t)
      goes w t i o y u f =
          let p = (T_and (a t) (some_next G y t)).0 u in
          let c = (some_next_lem R y t).0 p.1 in
          let r = f c.0 (R.inside t c.0 c.1).1 c.2 in
          (r.0, longer c.1 r.1, r.2, longer-before A t c.1 r.1 ((says-a.at t i).0 p.0) r.3)

      back : (t : ℕ) (p : FinitePath G s t) → T (eu G a b t) → Before A p → T (eu G a b s)
      back t start v l = v
      back t (then {t = r} p u e) v l = back r p (eu-later R a b r (ends R h p) ((says-a.at r (ends R h p)).1 l.1) (u, e, v)) l.0

  -- AR: the finite paths on which a is at no stage but perhaps the last are a tree inside the set; and a tree stays in every round.
  pub ar-trees : (s : ℕ) → s < G.stages → T (ar G a b s) ↔ SomeTree G A B s
  unfolding unreleased tree
  ar-trees s h = (λ u. (tree G a s, to u, leaves), λ f. kept G.stages (release_or_each G a) b (Node f) (stays f) s h (start, f.0.root))
    where
      within : T (ar G a b s) → (t : ℕ) (p : FinitePath G s t) → T (unreleased a p) → T (ar G a b t)
      within u t start c = u
      within u t (then {t = r} p v e) c =
          let k = (T_and (unreleased a p) (not (a r))).0 c in
          ⊎_elim (λ w. absurd ((T_not (a r)).0 k.1 w)) (λ f. f v e) (ar-on R a b r (ends R h p) (within u r p k.0)).1

      to : T (ar G a b s) → (t : ℕ) (p : FinitePath G s t) → T (unreleased a p) → B t
      to u t p c = (says-b.at t (ends R h p)).0 (ar-on R a b t (ends R h p) (within u t p c)).0

      leaves : (t : ℕ) (p : FinitePath G s t) → Leaf (tree G a s) p → A t
      leaves t p l =
          let e = R.total t (ends R h p) in
          ⊎_elim (says-a.at t (ends R h p)).0 (λ o. absurd (l.1 e.0 e.1 ((T_and (unreleased a p) (not (a t))).1 (l.0, o)))) (decide (a t))

      Node : SomeTree G A B s → Walk → ℕ → Type 0
      Node f w t = (p : FinitePath G s t) × T (f.0.has p)

      stays : (f : SomeTree G A B s) → MergesOrStays G.stages (release_or_each G a) b (Node f)
      stays f w t i k =
          let p : FinitePath G s t = k.0 in
          let e = R.total t i in
          let some : Bool = f.0.has (then p e.0 e.1) in
          let alone : T (not some) → Leaf f.0 p = λ o. (k.1, λ v d c. (T_not some).0 o (f.0.children p v d e.0 e.1 c)) in
          inr (
            (says-b.at t i).1 (f.1 t p k.1),
            λ y g. (T-or (a t) (each_next G y t)).1
                (⊎_elim (λ c. inr ((each_next_lem R y t).1 (λ v d. g v (R.inside t v d).1 (then p v d, f.0.children p e.0 e.1 v d c))))
                (λ o. inl ((says-a.at t i).1 (f.2 t p (alone o))))
                (decide some)),
          )

-- A formula's test passes exactly when the formula is valid.
pub test-valid : {G : Graph} → Readable G → (f : Formula) (e : Env) → Below G.stages f → Stand G.stages e → T (test G f e) ↔ Valid G f e
test-valid R truth = λ e b d. Iff.rfl
test-valid R falsity = λ e b d. Iff.rfl
test-valid R (is q) = λ e b d. Iff.rfl
test-valid R (is_not q) = λ e b d. Iff.rfl
test-valid {G} R (and f g) = and-tells G (Valid G) f g (test-valid R f) (test-valid R g)
test-valid {G} R (or f g) = or-tells G (Valid G) f g (test-valid R f) (test-valid R g)
test-valid {G} R (AX x f t) = modal-tells G (Valid G) (each_next G) (AtEachNext G) (ax-means R) x f t (test-valid R f)
test-valid {G} R (EX x f t) = modal-tells G (Valid G) (some_next G) (AtSomeNext G) (ex-means R) x f t (test-valid R f)
test-valid {G} R (AF x f t) = modal-tells G (Valid G) (af G) (SomeFiniteTree G) (af-trees R) x f t (test-valid R f)
test-valid {G} R (EG x f t) = modal-tells G (Valid G) (eg G) (OnSomeAlways G) (eg-means R) x f t (test-valid R f)
test-valid {G} R (AR x f y g t) = modal₂-tells G (Valid G) (ar G) (SomeTree G) (ar-trees R) x f y g t (test-valid R f) (test-valid R g)
test-valid {G} R (EU x f y g t) = modal₂-tells G (Valid G) (eu G) (SomeFinitePath G) (eu-trees R) x f y g t (test-valid R f) (test-valid R g)

-- A formula is valid exactly when it holds.
pub valid-holds : {G : Graph} → Readable G → (f : Formula) (e : Env) → Below G.stages f → Stand G.stages e → Valid G f e ↔ Holds G f e
valid-holds R f e b d = Iff.trans (Iff.symm (test-valid R f e b d)) (test-holds R f e b d)
