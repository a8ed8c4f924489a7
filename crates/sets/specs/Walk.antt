-- A walk over the stages of a set, the lowest first.
use Rattle.std.specs.Prelude.{ℕ, ◌-◌, ◌≡◌, Option, Some, None}
use Rattle.std.specs.Int.Bits.{bit_and}
use Rattle.std.specs.Int.Count.{count_trailing_zeros}
use Rattle.sets.specs.Member.{Empty}
use Rattle.sets.specs.Number.{width}

-- k is the lowest stage of what is left, and left' has the others.
pub record Turn (left k left' : ℕ) : Type 0 where
  pub some : Empty left → ⊥
  pub lowest : k ≡ count_trailing_zeros width left
  pub others : left' ≡ bit_and left (left - 1)

-- What comes next: a stage, or nothing where none is left.
abbrev pub Next : ℕ → Option ℕ → ℕ → Type 0
Next left None left' = Empty left × (left' ≡ left)
Next left (Some k) left' = Turn left k left'
