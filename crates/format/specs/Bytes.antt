-- Document 01, "Stored forms": what the three stored forms share. All numbers are big-endian.
use Rattle.std.specs.Prelude.{ℕ, ◌+◌, ◌*◌, ◌≤◌, ◌≡◌, List, length, get_or}

-- The byte at a place.
abbrev pub byte_at : List ℕ → ℕ → ℕ
byte_at bytes i = get_or bytes i 0

-- The 16-bit number at a place.
abbrev pub word_at : List ℕ → ℕ → ℕ
word_at bytes i = byte_at bytes i * 256 + byte_at bytes (i + 1)

-- A stored form of at least so many bytes begins with its mark, `ZS` and a letter, and version 1.
pub record Begins (letter least : ℕ) (bytes : List ℕ) : Type 0 where
  pub long : least ≤ length bytes
  pub Z : byte_at bytes 0 ≡ 0x5A
  pub S : byte_at bytes 1 ≡ 0x53
  pub third : byte_at bytes 2 ≡ letter
  pub version : word_at bytes 3 ≡ 1
