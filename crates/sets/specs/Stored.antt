-- Document 01, "Stored forms": the bytes that a set of stages is stored in, and a buffer that has them at its front.
use Rattle.std.specs.Prelude.{ℕ, zero, suc, ◌/◌, ◌%◌, ◌^◌, ◌≤◌, ◌<◌, ◌≡◌, List, [], ◌∷◌, ◌++◌, length, drop}
use Rattle.sets.specs.Number.{size}

-- A number in so many bytes, big-endian: the first is worth most.
abbrev pub big_endian_bytes : ℕ → ℕ → List ℕ
big_endian_bytes zero s = []
big_endian_bytes (suc k) s = s / 256 ^ k % 256 ∷ big_endian_bytes k s

-- The bytes of a stored set.
abbrev pub stored_set : ℕ → List ℕ
stored_set s = big_endian_bytes size s

-- `after` is the buffer `before` with a set stored at its front, and the rest as it was; where there is no room for the set, all is as it was.
pub record AtFront (before : List ℕ) (s : ℕ) (after : List ℕ) : Type 0 where
  pub room : size ≤ length before → after ≡ stored_set s ++ drop size before
  pub none : length before < size → after ≡ before
