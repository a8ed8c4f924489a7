-- The lowest member of a set, `count_trailing_zeros`, and the set less it, `bit_and s (s - 1)`: what a walk over the members goes by.
-- Assumes nothing.
use mathlib.Core.Path.{◌≡◌, refl, sym, ap, ◌∙◌}
use mathlib.Core.Logic.{⊎_elim, ◌≢◌, ◌↔◌}
use Prim.Native.Nat.{ℕ, zero, suc, ◌-◌, ◌/◌, ◌%◌, ◌^◌, ◌≤◌, ◌<◌}
use native.Mathlib.Nat.{pow-suc, eq-zero-or-pos}
use native.Mathlib.Omega.{arith}
use lib.Bits.{bit_and, and_step, and_self, and_zero_r, and_le_l}
use lib.Count.{ones, count_trailing_zeros, under}
use Rattle.sets.specs.Member.{bit, Has}
use Rattle.sets.proofs.LawsBit.{bit-low, bit-half, bit-zero, bit-above, bit-and, bit-minus, power-half, ext}
use Rattle.sets.proofs.LawsBit.{bit-power-same, bit-power-other}
use Rattle.sets.proofs.LawsMember.{side?}
use Rattle.sets.proofs.LawsCount.{ones-minus, ones-common}

-- ---- the lowest member

-- nothing below it is in the set
pub lowest-none : (w s j : ℕ) → j < count_trailing_zeros w s → bit s j ≡ 0
unfolding count_trailing_zeros
lowest-none zero s j h = absurd (omega arith)
lowest-none (suc w) s j h = go (s % 2) (count_trailing_zeros w (s / 2)) refl (lowest-none w (s / 2)) j h
  where
    go : (d t : ℕ) → s % 2 ≡ d → ((i : ℕ) → i < t → bit (s / 2) i ≡ 0) → (i : ℕ) → i < under d t → bit s i ≡ 0
    go zero t e f zero l = bit-low s ∙ e
    go zero t e f (suc i) l = bit-half s i ∙ f i (omega arith)
    go (suc d) t e f i l = absurd (omega arith)

-- it is in the set, unless none of the w digits is
pub lowest-in : (w s : ℕ) → count_trailing_zeros w s < w → Has s (count_trailing_zeros w s)
unfolding count_trailing_zeros
lowest-in zero s h = absurd (omega arith)
lowest-in (suc w) s h = go (s % 2) (count_trailing_zeros w (s / 2)) refl (lowest-in w (s / 2)) h
  where
    go : (d t : ℕ) → s % 2 ≡ d → (t < w → Has (s / 2) t) → under d t < suc w → Has s (under d t)
    go zero t e f l = bit-half s t ∙ f (omega arith)
    go (suc d) t e f l = bit-low s ∙ omega arith

-- no member is below it
pub lowest-le : (w s j : ℕ) → Has s j → count_trailing_zeros w s ≤ j
lowest-le w s j h = ⊎_elim (λ l. absurd (omega (arith, lowest-none w s j l))) (λ o. o) (side? j (count_trailing_zeros w s))

-- a set of w digits that is not empty has one, below w
pub lowest-lt : (w s : ℕ) → s ≢ 0 → s < 2 ^ w → count_trailing_zeros w s < w
lowest-lt w s n h =
    ⊎_elim (λ l. l)
    (λ o. absurd (n (ext s 0 (λ k. ⊎_elim (λ l. lowest-none w s k (omega arith)) (bit-above s w k h) (side? k w) ∙ sym (bit-zero k)))))
    (side? (count_trailing_zeros w s) w)

-- it is in the set
pub lowest-has : (w s : ℕ) → s ≢ 0 → s < 2 ^ w → Has s (count_trailing_zeros w s)
lowest-has w s n h = lowest-in w s (lowest-lt w s n h)

-- ---- the set less its lowest member

even : (s : ℕ) → 0 < s → s % 2 ≡ 0 → (s - 1) / 2 ≡ s / 2 - 1
even s h e = omega arith

odd : (s : ℕ) → s % 2 ≡ 1 → (s - 1) / 2 ≡ s / 2
odd s e = omega arith

-- taking 1 from a number clears its lowest digit and sets those below, so what is left in common is the number less that digit
pub rest-is : (w s : ℕ) → s ≢ 0 → s < 2 ^ w → bit_and s (s - 1) ≡ s - bit_and s (2 ^ count_trailing_zeros w s)
unfolding count_trailing_zeros
rest-is zero s n h = absurd (omega arith)
rest-is (suc w) s n h = go (s % 2) (count_trailing_zeros w (s / 2)) refl (λ m. rest-is w (s / 2) m (omega (arith, pow-suc 2 w)))
  where
    go : (d t : ℕ) → s % 2 ≡ d → (s / 2 ≢ 0 → bit_and (s / 2) (s / 2 - 1) ≡ s / 2 - bit_and (s / 2) (2 ^ t))
        → bit_and s (s - 1) ≡ s - bit_and s (2 ^ under d t)
    go zero t e f = omega (
      arith,
      and_step s (s - 1),
      ap (bit_and (s / 2)) (even s (omega arith) e),
      f (omega arith),
      and_step s (2 ^ suc t),
      ap (bit_and (s / 2)) (power-half t),
      and_le_l (s / 2) (2 ^ t),
    )
    go (suc d) t e f = omega (
      arith,
      and_step s (s - 1),
      ap (bit_and (s / 2)) (odd s (omega arith)),
      and_self (s / 2),
      and_step s 1,
      and_zero_r (s / 2),
    )

-- its digit is gone
pub rest-lowest : (w s : ℕ) → s < 2 ^ w → bit (bit_and s (s - 1)) (count_trailing_zeros w s) ≡ 0
rest-lowest w s h =
    ⊎_elim (λ e. omega (
      arith,
      bit-and s (s - 1) (count_trailing_zeros w s),
      ap (λ (x : ℕ). bit x (count_trailing_zeros w s)) e,
      bit-zero
          (count_trailing_zeros w s),
    ))
    (λ l. ap (λ (x : ℕ). bit x (count_trailing_zeros w s)) (rest-is w s (omega arith) h)
    ∙ omega (arith, bit-minus s (2 ^ count_trailing_zeros w s) (count_trailing_zeros w s), bit-power-same (count_trailing_zeros w s)))
    (eq-zero-or-pos s)

-- every other is kept
pub rest-other : (w s j : ℕ) → s < 2 ^ w → j ≢ count_trailing_zeros w s → bit (bit_and s (s - 1)) j ≡ bit s j
rest-other w s j h n =
    ⊎_elim (λ e. omega (arith, bit-and s (s - 1) j, ap (λ (x : ℕ). bit x j) e, bit-zero j))
    (λ l. ap (λ (x : ℕ). bit x j) (rest-is w s (omega arith) h)
    ∙ omega (arith, bit-minus s (2 ^ count_trailing_zeros w s) j, bit-power-other (count_trailing_zeros w s) j n))
    (eq-zero-or-pos s)

-- the members but the lowest
pub has_rest : (w s k : ℕ) → s < 2 ^ w → Has (bit_and s (s - 1)) k ↔ (Has s k × (k ≢ count_trailing_zeros w s))
has_rest w s k h = (
  λ m. (omega (arith, bit-and s (s - 1) k), λ e. omega (arith, rest-lowest w s h, ap (bit (bit_and s (s - 1))) e)),
  λ m. rest-other w s k h m.1 ∙ m.0,
)

-- it fits where the set does
pub rest-small : (w s : ℕ) → s < 2 ^ w → bit_and s (s - 1) < 2 ^ w
rest-small w s h = omega (arith, and_le_l s (s - 1))

lt-power : (n : ℕ) → n < 2 ^ n
lt-power zero = omega arith
lt-power (suc n) = omega (arith, lt-power n, pow-suc 2 n)

-- it has one member less
pub ones-rest : (s : ℕ) → s ≢ 0 → suc (ones (bit_and s (s - 1))) ≡ ones s
ones-rest s n =
    ap (λ (x : ℕ). suc (ones x)) (rest-is s s n (lt-power s))
    ∙ omega (arith, ones-minus s (2 ^ count_trailing_zeros s s), ones-common s (count_trailing_zeros s s), lowest-has s s n (lt-power s))
