-- A row of successor sets, read as a graph, and what it is to work out a set of stages from the row.
use Rattle.sets.specs.declared.Set.{Set}
use Rattle.std.specs.Prelude.{ℕ, ◌≤◌, ◌<◌, ◌≡◌, List, ◌↔◌, eqb}
use Rattle.std.specs.Int.Bits.{bit_and}
use Rattle.model.specs.Graph.{Graph}
use Rattle.logic.specs.Test.{Stages}
use Rattle.sets.specs.Member.{bit, Has, Empty}
use Rattle.sets.specs.Number.{width}
use Rattle.sets.specs.Row.{held}

-- The set that a number is, as a test of stages.
abbrev pub member : ℕ → Stages
member s k = eqb (bit s k) 1

-- The row holds the successors of the n stages of a graph, and there is room for n stages in a set. Only what is below n counts.
pub record Row (next : List Set) (n : ℕ) (G : Graph) : Type 0 where
  pub room : n ≤ width
  pub stages : G.stages ≡ n
  pub edges : (s t : ℕ) → s < n → t < n → G.next s t ≡ member (held next s) t

-- Every stage of the set is below n.
abbrev pub Inside : ℕ → ℕ → Type 0
Inside n r = (k : ℕ) → Has r k → k < n

-- r is the set of the stages below n that pass `op G`, whatever graph G the row holds.
pub record Computes (next : List Set) (n : ℕ) (op : Graph → Stages) (r : ℕ) : Type 0 where
  pub inside : Inside n r
  pub right : (G : Graph) → Row next n G → (s : ℕ) → s < n → member r s ≡ op G s

-- The sets a and b have a stage in common.
abbrev pub Meets : ℕ → ℕ → Type 0
Meets a b = Empty (bit_and a b) → ⊥

-- r is the set of those stages of `among` whose sets in the row meet what is wanted.
pub record Meeting (next : List Set) (among wanted r : ℕ) : Type 0 where
  pub each : (k : ℕ) → Has r k ↔ (Has among k × Meets (held next k) wanted)
