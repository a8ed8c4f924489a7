-- What a run of bytes leaves in a lent buffer, and how far it comes. Nothing here is about certificates: every writer can cite it.
--
-- A place is how many bytes came before. It is counted up to one past the buffer's end and no further, so that a place past the end says that the
-- bytes do not fit, whatever their number.
use Rattle.std.specs.Prelude.{ℕ, suc, ◌+◌, min, ◌≡◌, Bool, true, false, List, length}
use Rattle.std.proofs.lemmas.List.Edits.{sets}

-- The place after these bytes, in a buffer with so much room.
abbrev pub after : ℕ → ℕ → List ℕ → ℕ
after room place bytes = min (place + length bytes) (suc room)

-- A buffer with these bytes stored from a place on, each where there is room for it; where they are only counted, the buffer as it is.
abbrev pub laid : Bool → List ℕ → ℕ → List ℕ → List ℕ
laid true buffer place bytes = sets buffer place bytes
laid false buffer place bytes = buffer

-- From a place on these bytes were written, or only counted: the place after them, and what the buffer is.
pub record Wrote (writing : Bool) (bytes : List ℕ) (place : ℕ) (before left : List ℕ) (next : ℕ) : Type 0 where
  pub goes : next ≡ after (length before) place bytes
  pub leaves : left ≡ laid writing before place bytes
