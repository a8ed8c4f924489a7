-- Document 01, "Refusal numbers": a writer sets exactly the bytes that it says at the buffer's front. Nothing here is about what is written:
-- every writer can cite it.
use Rattle.std.specs.Prelude.{ℕ, ◌+◌, ◌≤◌, ◌≡◌, List, ◌++◌, length, take, drop}

-- These bytes at the buffer's front, the rest kept.
abbrev pub Front : List ℕ → List ℕ → List ℕ → Type 0
Front bytes before after = after ≡ bytes ++ drop (length bytes) before

-- One piece of it: these bytes from a place on, all before and behind them kept. There was room for them, and `next` is the place behind them.
pub record Written (place : ℕ) (bytes before after : List ℕ) (next : ℕ) : Type 0 where
  pub room : place + length bytes ≤ length before
  pub ends : next ≡ place + length bytes
  pub is : after ≡ take place before ++ (bytes ++ drop (place + length bytes) before)
