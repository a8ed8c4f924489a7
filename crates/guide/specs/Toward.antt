-- A row with a stage for each stage: the successor to which a writer goes on. What the functions that fill such a row leave in it.
use Rattle.std.specs.Prelude.{ℕ, ◌≤◌, ◌<◌, ◌≡◌, ◌&&◌, List, length, get_or}
use Rattle.model.specs.Graph.{Graph}
use Rattle.model.specs.Formula.{pick}
use Rattle.logic.specs.Test.{Stages}
use Rattle.sets.specs.declared.Set.{Set}
use Rattle.sets.specs.Row.{held}
use Rattle.modal.specs.Row.{member}
use Rattle.verdict.specs.Evaluation.{Collects}
use Rattle.written.specs.Choice.{lowest, nearest}

-- `after` is `before` with `value s` at each stage s below n; all else is as it was.
pub record Filled (n : ℕ) (value : ℕ → ℕ) (before after : List ℕ) : Type 0 where
  pub each : (s : ℕ) → s < n → get_or after s 0 ≡ value s
  pub kept : (s : ℕ) → n ≤ s → get_or after s 0 ≡ get_or before s 0
  pub size : length after ≡ length before

-- A row that leads nowhere below n.
abbrev pub Cleared : ℕ → List ℕ → Type 0
Cleared n row = (s : ℕ) → s < n → get_or row s 0 ≡ 0

-- The lowest successor of a stage in a set, where `next` holds the successors of n stages; 0 where there is none.
abbrev pub lowest_in : List Set → ℕ → ℕ → ℕ → ℕ
lowest_in next n set s = lowest n (λ t. member (held next s) t && member set t)

-- That successor for the stages that are in `new`, and for the others what stood there before.
abbrev pub settled : List Set → ℕ → ℕ → ℕ → List ℕ → ℕ → ℕ
settled next n new set before s = pick (member new s) (lowest_in next n set s) (get_or before s 0)

-- What EU goes by, where a and b hold at the stages a and b: the nows, and for each stage the successor fewest steps from one, the lowest of equals.
pub record Nearest (G : Graph) (n : ℕ) (a b : Stages) (now : ℕ) (before after : List ℕ) : Type 0 where
  pub nows : Collects n b now
  pub leads : Filled n (nearest G a b) before after
