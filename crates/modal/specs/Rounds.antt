-- Rounds of the modalities that are fixpoints: what it is for a set that the code makes of another to be a round of it.
use Rattle.std.specs.Prelude.{ℕ, List}
use Rattle.model.specs.Graph.{Graph}
use Rattle.logic.specs.Test.{Stages, iter}
use Rattle.sets.specs.declared.Set.{Set}
use Rattle.sets.specs.Number.{number}
use Rattle.modal.specs.Row.{member, Computes}

-- A round, over any graph.
abbrev pub Round : Type 0
Round = Graph → Stages → Stages

-- Whatever the set x is worked out for, y is worked out for the round of that.
abbrev pub Turned : List Set → ℕ → Round → ℕ → ℕ → Type 0
Turned next n round x y = (op : Graph → Stages) → Computes next n op x → Computes next n (λ G. round G (op G)) y

-- A closure makes the round of each set. `post` is what the closure promises.
abbrev pub Makes : List Set → ℕ → Round → (Set → Set → Type 0) → Type 0
Makes next n round post = (x y : Set) → post x y → Turned next n round (number x) (number y)

-- x is what k rounds from the set b give, whatever round it is that the closure makes.
abbrev pub Rounded : (Set → Set → Type 0) → ℕ → ℕ → ℕ → ℕ → Type 0
Rounded post n k b x = (next : List Set) (step : Round) → Makes next n step post → Computes next n (λ G. iter (step G) k (member b)) x
