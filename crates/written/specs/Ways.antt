-- Document 01, "The certificate we write", its words as statements: the lowest number with a property, a way to a "now", and the successor fewest
-- steps from one. Nothing here computes: `proofs/Clauses` shows that the rule of `choice` is the one that these words ask for.
use Rattle.std.specs.Prelude.{ℕ, zero, suc, ◌≤◌, ◌<◌}
use Rattle.model.specs.Graph.{Graph, Next}

-- c is the lowest number with P.
pub record Lowest (P : ℕ → Type 0) (c : ℕ) : Type 0 where
  pub has : P c
  pub none : (u : ℕ) → u < c → P u → ⊥

-- A way of exactly k steps from s to a now, along stages with A: a now is where B holds.
abbrev pub Way : Graph → (ℕ → Type 0) → (ℕ → Type 0) → ℕ → ℕ → Type 0
Way G A B zero s = B s
Way G A B (suc k) s = A s × (t : ℕ) × Next G s t × Way G A B k t

-- c is the successor of s fewest steps from a now along stages with A, the lowest of equals: it is k steps from one, no successor is fewer, and every
-- lower successor is more.
pub record Nearest (G : Graph) (A B : ℕ → Type 0) (s k c : ℕ) : Type 0 where
  pub next : Next G s c
  pub way : Way G A B k c
  pub fewest : (t j : ℕ) → Next G s t → Way G A B j t → k ≤ j
  pub lowest : (t j : ℕ) → t < c → Next G s t → Way G A B j t → k < j
