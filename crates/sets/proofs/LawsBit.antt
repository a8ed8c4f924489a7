-- The digits of a number, each 0 or 1: of an or, an and, a difference, a power of two and the numbers below one.
-- `omega` reads `max`, `min`, `-` and `% 2`, so these equations do the Boolean work. Two numbers with the same digits are equal (`ext`).
-- Assumes nothing.
use mathlib.Core.Path.{◌≡◌, refl, sym, ap, ◌∙◌}
use mathlib.Core.Logic.{◌⊎◌, inl, inr, ◌≢◌}
use Prim.Native.Nat.{ℕ, zero, suc, ◌-◌, ◌/◌, ◌%◌, ◌^◌, ◌≤◌, ◌<◌, min, max}
use native.Mathlib.Nat.{div-one, zero-div, div-eq_of_lt, pow-suc, lt_of_lt_of_le}
use native.Mathlib.Numerals.{one-add}
use native.Mathlib.Omega.{arith}
use lib.Arith.{bin_ind}
use lib.Bits.{bit_and, bit_or, and_step, or_step, and_shr, or_shr, and_le_l}
use lib.Pow.{pow_pos, pow_mono, shr-shr}
use Rattle.sets.specs.Member.{bit}

-- a digit is at most 1
pub bit_le : (s k : ℕ) → bit s k ≤ 1
bit_le s k = omega arith

-- a digit is 0 or 1
pub bit? : (s k : ℕ) → (bit s k ≡ 0) ⊎ (bit s k ≡ 1)
bit? s k = go (bit s k) (bit_le s k)
  where
    go : (d : ℕ) → d ≤ 1 → (d ≡ 0) ⊎ (d ≡ 1)
    go zero h = inl refl
    go (suc d) h = inr (omega arith)

-- ---- the lowest digit, and the others as those of the half

-- the digit 0 is what is left of halving
pub bit-low : (s : ℕ) → bit s 0 ≡ s % 2
bit-low s = ap (λ (x : ℕ). x % 2) (div-one s)

-- the other digits are those of the half
pub bit-half : (s k : ℕ) → bit s (suc k) ≡ bit (s / 2) k
bit-half s k = ap (λ (x : ℕ). x % 2) (sym (shr-shr s 1 k ∙ ap (λ (x : ℕ). s / 2 ^ x) (one-add k)))

-- 0 has no digit
pub bit-zero : (k : ℕ) → bit 0 k ≡ 0
bit-zero k = ap (λ (x : ℕ). x % 2) (zero-div (2 ^ k))

-- a number below 2 ^ n has no digit from n on
pub bit-above : (s n k : ℕ) → s < 2 ^ n → n ≤ k → bit s k ≡ 0
bit-above s n k h l = ap (λ (x : ℕ). x % 2) (div-eq_of_lt (lt_of_lt_of_le h (pow_mono l)))

-- ---- the operations, digit by digit

-- an or has the digits of either
pub bit-or : (a b k : ℕ) → bit (bit_or a b) k ≡ max (bit a k) (bit b k)
bit-or a b k = ap (λ (x : ℕ). x % 2) (or_shr a b k) ∙ omega (arith, or_step (a / 2 ^ k) (b / 2 ^ k))

-- an and has the digits of both
pub bit-and : (a b k : ℕ) → bit (bit_and a b) k ≡ min (bit a k) (bit b k)
bit-and a b k = ap (λ (x : ℕ). x % 2) (and_shr a b k) ∙ omega (arith, and_step (a / 2 ^ k) (b / 2 ^ k))

minus-half : (a b : ℕ) → (a - bit_and a b) / 2 ≡ a / 2 - bit_and (a / 2) (b / 2)
minus-half a b = omega (arith, and_step a b, and_le_l (a / 2) (b / 2))

minus-low : (a b : ℕ) → (a - bit_and a b) % 2 ≡ min (a % 2) (1 - b % 2)
minus-low a b = omega (arith, and_step a b, and_le_l (a / 2) (b / 2))

-- a less b, a - bit_and a b, has the digits of a that b has not
pub bit-minus : (a b k : ℕ) → bit (a - bit_and a b) k ≡ min (bit a k) (1 - bit b k)
bit-minus a b zero = bit-low (a - bit_and a b) ∙ minus-low a b ∙ omega (arith, bit-low a, bit-low b)
bit-minus a b (suc k) =
    bit-half (a - bit_and a b) k ∙ ap (λ (x : ℕ). bit x k) (minus-half a b) ∙ bit-minus (a / 2) (b / 2) k
    ∙ omega (arith, bit-half a k, bit-half b k)

-- ---- a power of two, and all that is below one

-- half of a power is the power before it
pub power-half : (k : ℕ) → 2 ^ suc k / 2 ≡ 2 ^ k
power-half k = omega (arith, pow-suc 2 k)

-- 2 ^ k has the digit k
pub bit-power-same : (k : ℕ) → bit (2 ^ k) k ≡ 1
bit-power-same zero = refl
bit-power-same (suc k) = bit-half (2 ^ suc k) k ∙ ap (λ (x : ℕ). bit x k) (power-half k) ∙ bit-power-same k

-- 2 ^ k has no other digit
pub bit-power-other : (k j : ℕ) → j ≢ k → bit (2 ^ k) j ≡ 0
bit-power-other zero zero n = omega arith
bit-power-other zero (suc j) n = bit-half 1 j ∙ bit-zero j
bit-power-other (suc k) zero n = bit-low (2 ^ suc k) ∙ omega (arith, pow-suc 2 k)
bit-power-other (suc k) (suc j) n =
    bit-half (2 ^ suc k) j ∙ ap (λ (x : ℕ). bit x j) (power-half k) ∙ bit-power-other k j (λ e. n (ap suc e))

below_half : (n : ℕ) → (2 ^ suc n - 1) / 2 ≡ 2 ^ n - 1
below_half n = omega (arith, pow-suc 2 n, pow_pos n)

-- 2 ^ n - 1 has every digit below n
pub bit_below : (n k : ℕ) → k < n → bit (2 ^ n - 1) k ≡ 1
bit_below zero k h = omega arith
bit_below (suc n) zero h = bit-low (2 ^ suc n - 1) ∙ omega (arith, pow-suc 2 n, pow_pos n)
bit_below (suc n) (suc k) h = bit-half (2 ^ suc n - 1) k ∙ ap (λ (x : ℕ). bit x k) (below_half n) ∙ bit_below n k (omega arith)

-- 2 ^ n - 1 has no digit from n on
pub bit-not-below : (n k : ℕ) → n ≤ k → bit (2 ^ n - 1) k ≡ 0
bit-not-below n k h = bit-above (2 ^ n - 1) n k (omega (arith, pow_pos n)) h

-- ---- extensionality

none : (b : ℕ) → ((k : ℕ) → bit b k ≡ 0) → b ≡ 0
none =
    bin_ind (λ (b : ℕ). ((k : ℕ) → bit b k ≡ 0) → b ≡ 0) (λ h. refl)
    (λ b ih h. omega (arith, ih (λ k. sym (bit-half b k) ∙ h (suc k)), bit-low b, h 0))

-- numbers with the same digits are equal
pub ext : (a b : ℕ) → ((k : ℕ) → bit a k ≡ bit b k) → a ≡ b
ext =
    bin_ind (λ (a : ℕ). (b : ℕ) → ((k : ℕ) → bit a k ≡ bit b k) → a ≡ b)
    (λ b h. sym (none b (λ k. sym (h k) ∙ bit-zero k)))
    (λ a ih b h. omega (arith, ih (b / 2) (λ k. sym (bit-half a k) ∙ h (suc k) ∙ bit-half b k), bit-low a, bit-low b, h 0))
