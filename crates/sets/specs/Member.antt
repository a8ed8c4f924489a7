-- Document 01, "Stored forms": a set of stages is a number, stage k being the bit worth 2^k. Over any width.
use Rattle.std.specs.Prelude.{ℕ, ◌/◌, ◌%◌, ◌^◌, ◌≡◌}

-- The bit worth 2^k, 0 or 1.
abbrev pub bit : ℕ → ℕ → ℕ
bit s k = s / 2 ^ k % 2

-- Stage k is in the set.
abbrev pub Has : ℕ → ℕ → Type 0
Has s k = bit s k ≡ 1

-- Every stage of a is in b.
abbrev pub Within : ℕ → ℕ → Type 0
Within a b = (k : ℕ) → Has a k → Has b k

-- No stage is in the set.
abbrev pub Empty : ℕ → Type 0
Empty s = (k : ℕ) → Has s k → ⊥
