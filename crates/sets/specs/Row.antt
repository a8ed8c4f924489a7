-- A row of sets: which number set i is, for how many there is room, and what a row is after one of its sets was replaced.
use Rattle.std.specs.Prelude.{ℕ, ◌<◌, ◌≡◌, List, ◌≢◌, length, get_or}
use Rattle.sets.specs.declared.Set.{Set}
use Rattle.sets.specs.Number.{number, none}

-- For how many sets a row has room. Shut, as `held` is: the laws above this layer are of the numbers.
unfoldable pub room : List Set → ℕ
room row = length row

-- The number that set i of a row is; past the end the sets are empty.
unfoldable pub held : List Set → ℕ → ℕ
held row i = number (get_or row i none)

-- `after` is the row `before` with s put in at i: there where there is room, and all else as it was.
pub record Put (before : List Set) (i s : ℕ) (after : List Set) : Type 0 where
  pub here : i < room before → held after i ≡ s
  pub others : (j : ℕ) → j ≢ i → held after j ≡ held before j
  pub size : length after ≡ length before
