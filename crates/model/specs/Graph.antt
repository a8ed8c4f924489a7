-- Document 01, "What it covers" and "Stored forms", with the bytes taken away: a graph of stages.
-- What is asked of a readable one (`Readable`) stands apart from what a graph is. Nothing here is about bytes, formulas or paths.
use Rattle.std.specs.Prelude.{ℕ, ◌<◌, Bool, T}

-- A graph. A stage is a number below `stages`. `next s t` says whether t is a successor of s. `one q a` says whether predicate q, of arity 1,
-- is true of a, and `two q a b` whether predicate q, of arity 2, is true of a and b.
pub record Graph : Type 0 where
  pub stages : ℕ
  pub next : ℕ → ℕ → Bool
  pub one : ℕ → ℕ → Bool
  pub two : ℕ → ℕ → ℕ → Bool

-- t is a successor of s
abbrev pub Next : Graph → ℕ → ℕ → Type 0
Next G s t = T (G.next s t)

-- What the graph of a readable image has besides: an edge joins two stages, and every stage has a successor.
pub record Readable (G : Graph) : Type 0 where
  pub inside : (s t : ℕ) → Next G s t → (s < G.stages) × (t < G.stages)
  pub total : (s : ℕ) → s < G.stages → (t : ℕ) × Next G s t
