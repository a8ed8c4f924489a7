-- Numbers that stand in bytes, big-endian, and the set that they store. That a slice of the code is bytes (`Bytes`) the borrow checker
-- hands a proof where one is read: `λ i. (c.shared-slice-known.given i).fits`.
--
--     big_endian-append, big_endian-lt     the first bytes are worth more by all that follow; k bytes are worth less than 256 ^ k
--     bytes-part                           a part of a list of bytes is one
--     stored-in, stored-out, stored-lt     a stored set, where its bytes are all there and where they are not; it fits the width
--     big_endian-eight                     eight bytes are worth what the library says
--     piece-stored, piece-none             a set of those stored one after another, as a piece of the bytes from a place on
--
-- Assumes nothing.
use mathlib.Core.Path.{◌≡◌, refl, sym, ap, ap₂, ◌∙◌, subst, subst₂}
use mathlib.Core.Bool.{Bool}
use mathlib.Core.List.{List, [], ◌∷◌, ◌++◌}
use mathlib.Core.Logic.{⊎_elim}
use Prim.Native.Nat.{ℕ, zero, suc, ◌+◌, ◌*◌, ◌/◌, ◌^◌, ◌≤◌, ◌<◌}
use native.Mathlib.Nat.{mul-zero, mul_comm, pow-suc}
use native.Mathlib.Omega.{arith}
use borrow.Author.Tests.{le-leb, lt-leb}
use lib.Arith.{digits_lt}
use lib.ListN.{length, get_or, take, drop, length-take, length-drop, get_or-eq_default}
use lib.Seq.{drop-drop, take-length, get_or-take, get_or-drop}
use Rattle.std.specs.Int.{w64, from_be_bytes}
use Rattle.std.specs.List.{slice_range}
use Rattle.std.specs.Simd.{first_chunks}
use Rattle.model.specs.Formula.{pick}
use Rattle.sets.specs.Number.{width, size, big_endian_from, big_endian, stored}
use Rattle.sets.proofs.LawsMember.{side?}

-- every element is a byte; past the end stands 0
abbrev pub Bytes : List ℕ → Type 0
Bytes bs = (i : ℕ) → get_or bs i 0 < 256

-- ---- big-endian

from-append : (xs ys : List ℕ) (n : ℕ) → big_endian_from n (xs ++ ys) ≡ big_endian_from (big_endian_from n xs) ys
from-append [] ys n = refl
from-append (x ∷ xs) ys n = from-append xs ys (n * 256 + x)

spread : (n b p r : ℕ) → (n * 256 + b) * p + r ≡ n * (p * 256) + ((0 * 256 + b) * p + r)
spread n b p r = omega arith

from-high : (bs : List ℕ) (n : ℕ) → big_endian_from n bs ≡ n * 256 ^ length bs + big_endian bs
from-high [] n = omega arith
from-high (b ∷ bs) n =
    from-high bs (n * 256 + b) ∙ spread n b (256 ^ length bs) (big_endian bs)
    ∙ ap₂ (λ (x y : ℕ). n * x + y) (sym (pow-suc 256 (length bs))) (sym (from-high bs (0 * 256 + b)))

-- the first bytes are worth more by all that follow
pub big_endian-append : (xs ys : List ℕ) → big_endian (xs ++ ys) ≡ big_endian xs * 256 ^ length ys + big_endian ys
big_endian-append xs ys = from-append xs ys 0 ∙ from-high ys (big_endian xs)

-- k bytes are worth less than 256 ^ k
pub big_endian-lt : (bs : List ℕ) → Bytes bs → big_endian bs < 256 ^ length bs
big_endian-lt [] f = omega arith
big_endian-lt (b ∷ bs) f =
    subst₂ (λ (x y : ℕ). x < y) (sym (from-high bs (0 * 256 + b))) (mul_comm 256 (256 ^ length bs) ∙ sym (pow-suc 256 (length bs)))
    (digits_lt (omega (arith, f 0)) (big_endian-lt bs (λ i. f (suc i))))

-- a part of a list of bytes is one
pub bytes-part : (bs : List ℕ) (n at : ℕ) → Bytes bs → Bytes (take n (drop at bs))
bytes-part bs n at f i =
    ⊎_elim (λ l. subst (λ (x : ℕ). x < 256) (sym (get_or-take n (drop at bs) i 0 l ∙ get_or-drop at bs i 0)) (f (at + i)))
    (λ o. subst (λ (x : ℕ). x < 256) (sym (get_or-eq_default (take n (drop at bs)) 0 (omega (arith, length-take n (drop at bs))))) (omega arith))
    (side? i n)

length_part : (bs : List ℕ) (n at : ℕ) → at + n ≤ length bs → length (take n (drop at bs)) ≡ n
length_part bs n at h = omega (arith, length-take n (drop at bs), length-drop at bs)

-- ---- a stored set

-- where the bytes are all there
pub stored-in : (bs : List ℕ) (at : ℕ) → at + size ≤ length bs → stored bs at ≡ big_endian (take size (drop at bs))
unfolding stored
stored-in bs at h = ap (λ (t : Bool). pick t (big_endian (take size (drop at bs))) 0) (le-leb (at + size) (length bs) h)

-- where they are not
pub stored-out : (bs : List ℕ) (at : ℕ) → length bs < at + size → stored bs at ≡ 0
unfolding stored
stored-out bs at h = ap (λ (t : Bool). pick t (big_endian (take size (drop at bs))) 0) (lt-leb (at + size) (length bs) h)

-- a stored set fits the width
pub stored-lt : (bs : List ℕ) (at : ℕ) → Bytes bs → stored bs at < 2 ^ width
stored-lt bs at f =
    ⊎_elim (λ o. omega (arith, stored-out bs at o))
    (λ h. omega (
      arith,
      stored-in bs at h,
      big_endian-lt (take size (drop at bs)) (bytes-part bs size at f),
      ap (λ (n : ℕ). 256 ^ n) (length_part bs size at h),
    ))
    (side? (length bs) (at + size))

-- ---- the library's numbers

-- eight bytes are worth what the library says
pub big_endian-eight : (bs : List ℕ) → length bs ≡ size → big_endian bs ≡ from_be_bytes w64 bs
big_endian-eight [] e = absurd (omega arith)
big_endian-eight (a ∷ []) e = absurd (omega arith)
big_endian-eight (a ∷ b ∷ []) e = absurd (omega arith)
big_endian-eight (a ∷ b ∷ c ∷ []) e = absurd (omega arith)
big_endian-eight (a ∷ b ∷ c ∷ d ∷ []) e = absurd (omega arith)
big_endian-eight (a ∷ b ∷ c ∷ d ∷ f ∷ []) e = absurd (omega arith)
big_endian-eight (a ∷ b ∷ c ∷ d ∷ f ∷ g ∷ []) e = absurd (omega arith)
big_endian-eight (a ∷ b ∷ c ∷ d ∷ f ∷ g ∷ h ∷ []) e = absurd (omega arith)
big_endian-eight (a ∷ b ∷ c ∷ d ∷ f ∷ g ∷ h ∷ i ∷ []) e = omega arith
big_endian-eight (a ∷ b ∷ c ∷ d ∷ f ∷ g ∷ h ∷ i ∷ j ∷ bs) e = absurd (omega arith)

-- piece i of those of n bytes that follow one another
piece-at : (n k i : ℕ) (bs : List ℕ) (d : List ℕ) → i < k → get_or (first_chunks n k bs) i d ≡ take n (drop (n * i) bs)
piece-at n zero i bs d h = absurd (omega arith)
piece-at n (suc k) zero bs d h = rw (mul-zero n) refl
piece-at n (suc k) (suc i) bs d h =
    let more : n + n * i ≡ n * suc i = omega arith in
    piece-at n k i (drop n bs) d (omega arith) ∙ ap (take n) (drop-drop (n * i) n bs) ∙ ap (λ (j : ℕ). take n (drop j bs)) more

first-pieces : (n k : ℕ) (bs : List ℕ) → length (first_chunks n k bs) ≡ k
first-pieces n zero bs = refl
first-pieces n (suc k) bs = ap suc (first-pieces n k (drop n bs))

module _ (bs : List ℕ) (start : ℕ) {sets : List ℕ} (is : sets ≡ slice_range bs start (length bs)) where
  behind : sets ≡ drop start bs
  behind = is ∙ ap (λ (n : ℕ). take n (drop start bs)) (sym (length-drop start bs)) ∙ take-length (drop start bs)

  module _ {pieces : List (List ℕ)} (i : ℕ) (cut : pieces ≡ first_chunks size (length sets / size) sets) where
    many : length pieces ≡ length sets / size
    many = ap length cut ∙ first-pieces size (length sets / size) sets

    -- the number of piece i of those from a place on is set i of those stored there,
    pub piece-stored : {piece : List ℕ} {r : ℕ} (d : List ℕ) → piece ≡ get_or pieces i d → i < length pieces → r ≡ from_be_bytes w64 piece
        → r ≡ stored bs (start + size * i)
    piece-stored {piece} d e h f =
        let room : start + size * i + size ≤ length bs = omega (arith, h, many, ap length behind, length-drop start bs) in
        let there : piece ≡ take size (drop (start + size * i) bs) =
        e ∙ ap (λ (l : List (List ℕ)). get_or l i d) cut ∙ piece-at size (length sets / size) i sets d (omega (arith, h, many))
        ∙ ap (λ (l : List ℕ). take size (drop (size * i) l)) behind ∙ ap (take size) (drop-drop (size * i) start bs) in
        let whole : length piece ≡ size =
        omega (arith, room, ap length there, length-take size (drop (start + size * i) bs), length-drop (start + size * i) bs) in
        f ∙ sym (big_endian-eight piece whole) ∙ ap big_endian there ∙ sym (stored-in bs (start + size * i) room)

    -- which is empty where there is no such piece
    pub piece-none : {r : ℕ} → r ≡ 0 → length pieces ≤ i → r ≡ stored bs (start + size * i)
    piece-none e h = e ∙ sym (stored-out bs (start + size * i) (omega (arith, h, many, ap length behind, length-drop start bs)))
