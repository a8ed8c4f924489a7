-- Source document 000, Definition 2.2 and Figure 1: the validity of a formula, by finite paths, finite path-trees and path-trees. It is another
-- wording of the meaning, and is shown to say the same. AX, EX and EG read in the figure as in `Meaning`.
use Rattle.std.specs.Prelude.{ℕ, Bool, not, ◌⊎◌, T}
use Rattle.model.specs.Graph.{Graph, Next}
use Rattle.model.specs.Formula.{Formula, truth, falsity, is, is_not, and, or, AX, EX, AF, EG, AR, EU, Env, bind, value, atom}
use Rattle.logic.specs.Meaning.{AtEachNext, AtSomeNext, OnSomeAlways}

-- A finite path from s to t: s alone, or a finite path and a successor of its last stage.
pub data FinitePath (G : Graph) (s : ℕ) : ℕ → Type 0 where
  start : FinitePath G s s
  then : {t : ℕ} → FinitePath G s t → (u : ℕ) → Next G t u → FinitePath G s u

-- A finite path-tree with root s: a leaf, or an internal node with a child for each successor of s.
pub data FiniteTree (G : Graph) : ℕ → Type 0 where
  leaf : {s : ℕ} → FiniteTree G s
  node : {s : ℕ} → ((t : ℕ) → Next G s t → FiniteTree G t) → FiniteTree G s

-- A path-tree with root s, finite or infinite. A node of a tree is known by the row of labels that leads to it from the root, and in a path-tree
-- such a row is a finite path. So a path-tree is a set of finite paths from s, here as a test: it has the root; it has the parent of each of its
-- nodes; and if it has one child of a node, it has each child, one for every successor of the node's label.
pub record PathTree (G : Graph) (s : ℕ) : Type 0 where
  pub has : {t : ℕ} → FinitePath G s t → Bool
  pub root : T (has start)
  pub parent : {t : ℕ} (p : FinitePath G s t) (u : ℕ) (e : Next G t u) → T (has (then p u e)) → T (has p)
  pub children : {t : ℕ} (p : FinitePath G s t) (u : ℕ) (e : Next G t u) (v : ℕ) (d : Next G t v) → T (has (then p u e)) → T (has (then p v d))

module _ {G : Graph} where
  -- a at every stage of a finite path but the last
  abbrev pub Before : (ℕ → Type 0) → {s t : ℕ} → FinitePath G s t → Type 0
  Before A start = Unit {0}
  Before A (then {t} p u e) = Before A p × A t

  -- a at each leaf of a finite path-tree
  abbrev pub AtLeaves : (ℕ → Type 0) → {s : ℕ} → FiniteTree G s → Type 0
  AtLeaves A (leaf {s}) = A s
  AtLeaves A (node {s} k) = (t : ℕ) (e : Next G s t) → AtLeaves A (k t e)

  -- a node of a path-tree that has no child in it
  abbrev pub Leaf : {s : ℕ} (r : PathTree G s) {t : ℕ} → FinitePath G s t → Type 0
  Leaf r {t} p = T (r.has p) × ((u : ℕ) (e : Next G t u) → T (r.has (then p u e)) → ⊥)

module _ (G : Graph) where
  -- AF: a finite path-tree with a at each leaf
  abbrev pub SomeFiniteTree : (ℕ → Type 0) → ℕ → Type 0
  SomeFiniteTree A s = (r : FiniteTree G s) × AtLeaves A r

  -- AR: a path-tree with b at each node and a at each leaf
  abbrev pub SomeTree : (ℕ → Type 0) → (ℕ → Type 0) → ℕ → Type 0
  SomeTree A B s = (r : PathTree G s) × ((t : ℕ) (p : FinitePath G s t) → T (r.has p) → B t) × ((t : ℕ) (p : FinitePath G s t) → Leaf r p → A t)

  -- EU: a finite path with b at its last stage and a at all earlier ones
  abbrev pub SomeFinitePath : (ℕ → Type 0) → (ℕ → Type 0) → ℕ → Type 0
  SomeFinitePath A B s = (t : ℕ) × (p : FinitePath G s t) × B t × Before A p

  -- Figure 1. To put a stage for a variable is to bind the variable to it.
  abbrev pub Valid : Formula → Env → Type 0
  Valid truth e = Unit {0}
  Valid falsity e = ⊥
  Valid (is q) e = T (atom G e q)
  Valid (is_not q) e = T (not (atom G e q))
  Valid (and a b) e = Valid a e × Valid b e
  Valid (or a b) e = Valid a e ⊎ Valid b e
  Valid (AX x a t) e = AtEachNext G (λ s. Valid a (bind e x s)) (value e t)
  Valid (EX x a t) e = AtSomeNext G (λ s. Valid a (bind e x s)) (value e t)
  Valid (AF x a t) e = SomeFiniteTree (λ s. Valid a (bind e x s)) (value e t)
  Valid (EG x a t) e = OnSomeAlways G (λ s. Valid a (bind e x s)) (value e t)
  Valid (AR x a y b t) e = SomeTree (λ s. Valid a (bind e x s)) (λ s. Valid b (bind e y s)) (value e t)
  Valid (EU x a y b t) e = SomeFinitePath (λ s. Valid a (bind e x s)) (λ s. Valid b (bind e y s)) (value e t)
