-- Rows of bytes at a place.
use Rattle.std.specs.Prelude.{ℕ, ◌+◌, ◌≡◌, List, ◌++◌, length, drop}

-- The row xs stands in the bytes from the place `at` up to the place `end`.
pub record Spelled (bytes xs : List ℕ) (at end : ℕ) : Type 0 where
  pub row : drop at bytes ≡ xs ++ drop end bytes
  pub long : end ≡ at + length xs
