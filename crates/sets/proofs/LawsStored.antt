-- A set as it is stored: the bytes that the library makes of its number, and reading the bytes back.
--
--     bytes-same                  the library's bytes are those of a stored set
--     front-none, front-once      no room for the set; one buffer has the set at its front
--     stored_back                 what is read from such a buffer is the set
--
-- Assumes nothing.
use Prim.Native.Nat.{ℕ, zero, suc, ◌/◌, ◌%◌, ◌^◌, ◌≤◌, ◌<◌}
use native.Mathlib.Nat.{div-one}
use native.Mathlib.Omega.{arith}
use mathlib.Core.Path.{◌≡◌, refl, sym, ap, ap₂, ◌∙◌}
use mathlib.Core.List.{List, ◌∷◌, ◌++◌}
use mathlib.Core.Logic.{⊎_elim}
use lib.ListN.{length, drop}
use Rattle.std.specs.Int.{w64, byte_at, bytes_high_first, from_be_bytes}
use Rattle.std.proofs.lemmas.Nat.{from_be_bytes-to_be_bytes_8}
use Rattle.sets.specs.Number.{width, size, stored}
use Rattle.sets.proofs.LawsBytes.{big_endian-eight, stored-in}
use Rattle.sets.proofs.LawsMember.{side?}
use Rattle.sets.specs.Stored.{big_endian_bytes, stored_set, AtFront}

-- ---- the library's bytes

-- They are those of a stored set.
byte-same : (i s : ℕ) → byte_at i s ≡ s / 256 ^ i % 256
byte-same zero s = ap (λ (x : ℕ). x % 256) (sym (div-one s))
byte-same (suc i) s = refl

bytes-same : (n s : ℕ) → bytes_high_first n s ≡ big_endian_bytes n s
bytes-same zero s = refl
bytes-same (suc n) s = ap₂ ◌∷◌ (byte-same n s) (bytes-same n s)

-- ---- a buffer

-- Where there is no room nothing is stored.
pub front-none : (before : List ℕ) (s : ℕ) → length before < size → AtFront before s before
front-none before s h = record { room = λ g. absurd (omega arith); none = λ g. refl }

-- Two buffers with one set at the front of one buffer are one.
pub front-once : {before a b : List ℕ} {s : ℕ} → AtFront before s a → AtFront before s b → a ≡ b
front-once {before} p q =
    ⊎_elim (λ h. p.none h ∙ sym (q.none h)) (λ h. p.room h ∙ sym (q.room h)) (side? (length before) size)

-- ---- read back

-- What is read from a buffer with a set at its front is the set.
pub stored_back : {before after : List ℕ} {s : ℕ} → s < 2 ^ width → size ≤ length before → AtFront before s after → stored after 0 ≡ s
stored_back {before} {after} {s} small room p =
    ap (λ (l : List ℕ). stored l 0) (p.room room)
    ∙ stored-in (stored_set s ++ drop size before) 0 (omega arith)
    ∙ big_endian-eight (stored_set s) refl
    ∙ ap (from_be_bytes w64) (sym (bytes-same size s))
    ∙ from_be_bytes-to_be_bytes_8 s small
