-- Paths: the rest of one, one with a stage put before, and an endless one out of a choice of a successor at each stage.
use Prim.Native.Nat.{ℕ, zero, suc, ◌<◌}
use mathlib.Core.Path.{refl}
use Rattle.model.specs.Graph.{Graph, Next, Readable}
use Rattle.logic.specs.Meaning.{Path, AtSomeNext}

-- the row f, with s put before
abbrev pub ahead : ℕ → (ℕ → ℕ) → ℕ → ℕ
ahead s f zero = s
ahead s f (suc i) = f i

module _ {G : Graph} where
  -- The rest of a path after its first stage.
  abbrev pub rest : {s : ℕ} (p : Path G s) → Path G (p.at 1)
  rest p = record { at = λ i. p.at (suc i); first = refl; step = λ i. p.step (suc i) }

  -- The second stage of a path from s is a successor of s.
  pub second : {s : ℕ} (p : Path G s) → Next G s (p.at 1)
  second p = rw p.first at (p.step 0)

  -- A path from a successor of s, with s put before.
  abbrev pub before : {s t : ℕ} → Next G s t → Path G t → Path G s
  before {s} e p = record { at = ahead s p.at; first = refl; step = joins }
    where
      joins : (i : ℕ) → Next G (ahead s p.at i) (ahead s p.at (suc i))
      joins zero = rw p.first e
      joins (suc i) = p.step i

-- Where each stage with P has a successor with P, an endless path with P goes out from each.
module _ (G : Graph) (P : ℕ → Type 0) (choose : (s : ℕ) → P s → AtSomeNext G P s) where
  -- the i-th stage of that path, with P
  along : (s : ℕ) → P s → ℕ → (t : ℕ) × P t
  along s h zero = (s, h)
  along s h (suc i) = let p = along s h i in let c = choose p.0 p.1 in (c.0, c.2)

  pub endless : (s : ℕ) → P s → (p : Path G s) × ((i : ℕ) → P (p.at i))
  unfolding along
  endless s h =
      (record { at = λ i. (along s h i).0; first = refl; step = λ i. let p = along s h i in (choose p.0 p.1).1 }, λ i. (along s h i).1)

module _ {G : Graph} (R : Readable G) where
  -- A path stands on stages only, its first one included.
  pub stands : {s : ℕ} (p : Path G s) (i : ℕ) → p.at i < G.stages
  stands p i = (R.inside (p.at i) (p.at (suc i)) (p.step i)).0

  pub starts : {s : ℕ} → Path G s → s < G.stages
  starts p = rw p.first at (stands p 0)

  -- From every stage a path goes out.
  pub some-path : (s : ℕ) → s < G.stages → Path G s
  some-path s h = (endless G (λ t. t < G.stages) (λ t i. let e = R.total t i in (e.0, e.1, (R.inside t e.0 e.1).1)) s h).0
