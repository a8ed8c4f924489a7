-- Document 01, "Meaning": what a formula says of a graph, over endless paths and nothing else.
use Rattle.std.specs.Prelude.{ℕ, suc, ◌<◌, ◌≡◌, not, ◌⊎◌, T}
use Rattle.model.specs.Graph.{Graph, Next}
use Rattle.model.specs.Formula.{Formula, truth, falsity, is, is_not, and, or, AX, EX, AF, EG, AR, EU, Env, bind, value, atom}

-- A path from s: an endless row of stages, each a successor of the one before. The first stage of a path counts.
pub record Path (G : Graph) (s : ℕ) : Type 0 where
  pub at : ℕ → ℕ
  pub first : at 0 ≡ s
  pub step : (i : ℕ) → Next G (at i) (at (suc i))

-- The six modalities at a stage s, over what is asked of a stage.
module _ (G : Graph) where
  -- a at every successor
  abbrev pub AtEachNext : (ℕ → Type 0) → ℕ → Type 0
  AtEachNext A s = (t : ℕ) → Next G s t → A t

  -- a at some successor
  abbrev pub AtSomeNext : (ℕ → Type 0) → ℕ → Type 0
  AtSomeNext A s = (t : ℕ) × Next G s t × A t

  -- every path has a stage with a
  abbrev pub OnEachOnce : (ℕ → Type 0) → ℕ → Type 0
  OnEachOnce A s = (p : Path G s) → (i : ℕ) × A (p.at i)

  -- some path has a at every stage
  abbrev pub OnSomeAlways : (ℕ → Type 0) → ℕ → Type 0
  OnSomeAlways A s = (p : Path G s) × ((i : ℕ) → A (p.at i))

  -- on every path, at each place b holds or a held at an earlier place
  abbrev pub OnEachReleased : (ℕ → Type 0) → (ℕ → Type 0) → ℕ → Type 0
  OnEachReleased A B s = (p : Path G s) (i : ℕ) → B (p.at i) ⊎ ((j : ℕ) × (j < i) × A (p.at j))

  -- some path has b at a stage and a at all earlier ones
  abbrev pub OnSomeUntil : (ℕ → Type 0) → (ℕ → Type 0) → ℕ → Type 0
  OnSomeUntil A B s = (p : Path G s) × (i : ℕ) × B (p.at i) × ((j : ℕ) → j < i → A (p.at j))

  -- A formula holds where the variables stand as e has them. The term is read outside the binding.
  abbrev pub Holds : Formula → Env → Type 0
  Holds truth e = Unit {0}
  Holds falsity e = ⊥
  Holds (is q) e = T (atom G e q)
  Holds (is_not q) e = T (not (atom G e q))
  Holds (and a b) e = Holds a e × Holds b e
  Holds (or a b) e = Holds a e ⊎ Holds b e
  Holds (AX x a t) e = AtEachNext (λ s. Holds a (bind e x s)) (value e t)
  Holds (EX x a t) e = AtSomeNext (λ s. Holds a (bind e x s)) (value e t)
  Holds (AF x a t) e = OnEachOnce (λ s. Holds a (bind e x s)) (value e t)
  Holds (EG x a t) e = OnSomeAlways (λ s. Holds a (bind e x s)) (value e t)
  Holds (AR x a y b t) e = OnEachReleased (λ s. Holds a (bind e x s)) (λ s. Holds b (bind e y s)) (value e t)
  Holds (EU x a y b t) e = OnSomeUntil (λ s. Holds a (bind e x s)) (λ s. Holds b (bind e y s)) (value e t)
