-- How many members a set has: `ones`, the library's count of a number's digits that are 1, is the number of stages that pass the
-- test for membership, and grows and falls with the set.
-- Assumes nothing.
use mathlib.Core.Path.{◌≡◌, refl, sym, ap, ap₂, ◌∙◌, subst}
use mathlib.Core.Logic.{⊎_elim, ◌↔◌}
use Prim.Native.Nat.{ℕ, zero, suc, ◌+◌, ◌-◌, ◌*◌, ◌/◌, ◌%◌, ◌^◌, ◌≤◌, ◌<◌, min, max}
use native.Mathlib.Nat.{pow-suc, add-zero}
use native.Mathlib.Omega.{arith}
use lib.Arith.{bin_ind, digits_mod, digits_div}
use lib.Bits.{bit_and, bit_or, and_step, or_step, and_zero_r}
use lib.Count.{ones, ones_step, ones-le, ones-ones}
use Rattle.sets.specs.Member.{bit, Has, Within}
use Rattle.sets.specs.Number.{single, width}
use Rattle.sets.proofs.LawsBit.{bit?, bit-low, bit-half, bit-zero, bit-or, bit-and, bit-minus, power-half, ext}
use Rattle.sets.proofs.LawsMember.{has?, not-has, has-or, has-power, has-below, within-bit, within-antisym, within-lt, single-in}

-- ---- counting a test of 0 and 1

-- how many of the numbers below n pass the test t
abbrev pub passing : (ℕ → ℕ) → ℕ → ℕ
passing t zero = zero
passing t (suc n) = t n + passing t n

-- tests that agree below n count alike
pub passing-same : (t u : ℕ → ℕ) (n : ℕ) → ((k : ℕ) → k < n → t k ≡ u k) → passing t n ≡ passing u n
passing-same t u zero f = refl
passing-same t u (suc n) f = omega (arith, f n (omega arith), passing-same t u n (λ k h. f k (omega arith)))

-- a stricter test counts no more
pub passing-le : (t u : ℕ → ℕ) (n : ℕ) → ((k : ℕ) → k < n → t k ≤ u k) → passing t n ≤ passing u n
passing-le t u zero f = omega arith
passing-le t u (suc n) f = omega (arith, f n (omega arith), passing-le t u n (λ k h. f k (omega arith)))

-- the first number apart from the others
passing-first : (t : ℕ → ℕ) (n : ℕ) → passing t (suc n) ≡ t 0 + passing (λ (k : ℕ). t (suc k)) n
passing-first t zero = refl
passing-first t (suc n) = omega (arith, passing-first t n)

-- ---- `ones` counts the members

-- the count of a number below 2 ^ w is that of its members below w
pub ones-members : (s w : ℕ) → s < 2 ^ w → ones s ≡ passing (bit s) w
ones-members s zero h = omega (arith, ones-le 0 s h)
ones-members s (suc w) h =
    ones_step s ∙ ap (λ (x : ℕ). s % 2 + x) (ones-members (s / 2) w (omega (arith, pow-suc 2 w)))
    ∙ sym (passing-first (bit s) w ∙ omega (arith, bit-low s, passing-same (λ (k : ℕ). bit s (suc k)) (bit (s / 2)) w (λ k l. bit-half s k)))

-- a number below 2 ^ n has at most n members: the library's `ones-le`, for a set in the stages below n
pub ones_below : (s n : ℕ) → Within s (2 ^ n - 1) → ones s ≤ n
ones_below s n f = ones-le n s ((within-lt s n).0 f)

zero-ones : ones 0 ≡ 0
zero-ones = omega (arith, ones-le 0 0 (omega arith))

digits_le : (a b : ℕ) → ((k : ℕ) → bit a k ≤ bit b k) → ones a ≤ ones b
digits_le =
    bin_ind (λ (a : ℕ). (b : ℕ) → ((k : ℕ) → bit a k ≤ bit b k) → ones a ≤ ones b) (λ b f. omega (arith, zero-ones))
    (λ a ih b f. omega (
      arith,
      ih (b / 2) (λ k. omega (arith, f (suc k), bit-half a k, bit-half b k)),
      ones_step a,
      ones_step b,
      f 0,
      bit-low a,
      bit-low b,
    ))

-- one set in another has no more members
pub ones-within : (a b : ℕ) → Within a b → ones a ≤ ones b
ones-within a b f = digits_le a b (within-bit a b f)

-- a digit before the others
ones-digit : (q d : ℕ) → d < 2 → ones (q * 2 + d) ≡ d + ones q
ones-digit q d h = ones_step (q * 2 + d) ∙ ap₂ (λ (x y : ℕ). x + ones y) (digits_mod q h) (digits_div q h)

or-ones : (a b : ℕ) → ones (bit_or a b) ≡ max (a % 2) (b % 2) + ones (bit_or (a / 2) (b / 2))
or-ones a b = ap ones (or_step a b) ∙ ones-digit (bit_or (a / 2) (b / 2)) (max (a % 2) (b % 2)) (omega arith)

and-ones : (a b : ℕ) → ones (bit_and a b) ≡ min (a % 2) (b % 2) + ones (bit_and (a / 2) (b / 2))
and-ones a b = ap ones (and_step a b) ∙ ones-digit (bit_and (a / 2) (b / 2)) (min (a % 2) (b % 2)) (omega arith)

-- members of either and of both are as many as those of each
pub ones-or-and : (a b : ℕ) → ones (bit_or a b) + ones (bit_and a b) ≡ ones a + ones b
ones-or-and =
    bin_ind (λ (a : ℕ). (b : ℕ) → ones (bit_or a b) + ones (bit_and a b) ≡ ones a + ones b) (λ b. omega (arith, zero-ones))
    (λ a ih b. omega (arith, ih (b / 2), or-ones a b, and-ones a b, ones_step a, ones_step b))

-- what is taken away and what is left are as many as there were
pub ones-minus : (a b : ℕ) → ones (a - bit_and a b) + ones (bit_and a b) ≡ ones a
ones-minus a b =
    omega (arith, ones-or-and (a - bit_and a b) (bit_and a b), ap ones joined, ap ones apart, zero-ones)
  where
    joined : bit_or (a - bit_and a b) (bit_and a b) ≡ a
    joined = ext (bit_or (a - bit_and a b) (bit_and a b)) a (λ k. omega (arith, bit-or (a - bit_and a b) (bit_and a b) k, bit-minus a b k, bit-and a b k))

    apart : bit_and (a - bit_and a b) (bit_and a b) ≡ 0
    apart = ext (bit_and (a - bit_and a b) (bit_and a b)) 0
        (λ k. omega (arith, bit-and (a - bit_and a b) (bit_and a b) k, bit-minus a b k, bit-and a b k, bit-zero k))

-- only the number 0 has no member
pub ones-zero : (s : ℕ) → (ones s ≡ 0) ↔ (s ≡ 0)
ones-zero s = (
  bin_ind (λ (n : ℕ). ones n ≡ 0 → n ≡ 0) (λ e. refl) (λ n ih e. omega (arith, ones_step n, ih (omega (arith, ones_step n)))) s,
  λ e. ap ones e ∙ zero-ones,
)

-- ---- one member more or less

-- the set of stage k alone has one member
pub ones_power : (k : ℕ) → ones (2 ^ k) ≡ 1
ones_power zero = omega (arith, ones_step 1, zero-ones)
ones_power (suc k) = ap ones (pow-suc 2 k ∙ sym (add-zero (2 ^ k * 2))) ∙ ones-digit (2 ^ k) 0 (omega arith) ∙ omega (arith, ones_power k)

-- what a set has in common with stage k alone is one member where it has k, and none elsewhere
pub ones-common : (s k : ℕ) → ones (bit_and s (2 ^ k)) ≡ bit s k
ones-common s zero = and-ones s 1 ∙ omega (arith, bit-low s, ap ones (and_zero_r (s / 2)), zero-ones)
ones-common s (suc k) =
    and-ones s (2 ^ suc k)
    ∙ omega (arith, ap (λ (x : ℕ). ones (bit_and (s / 2) x)) (power-half k), ones-common (s / 2) k, bit-half s k, pow-suc 2 k)

more : (s k : ℕ) → (Has s k → ⊥) → ones (bit_or s (2 ^ k)) ≡ suc (ones s)
more s k n = omega (arith, ones-or-and s (2 ^ k), ones-common s k, ones_power k, not-has s k n)

-- adding a stage that is not there adds one
pub ones-with : (s k : ℕ) → k < width → (Has s k → ⊥) → ones (bit_or s (single k)) ≡ suc (ones s)
ones-with s k h n = ap (λ (x : ℕ). ones (bit_or s x)) (single-in k h) ∙ more s k n

-- removing a member takes one
pub ones-without : (s k : ℕ) → k < width → Has s k → suc (ones (s - bit_and s (single k))) ≡ ones s
ones-without s k h m = ap (λ (x : ℕ). suc (ones (s - bit_and s x))) (single-in k h) ∙ omega (arith, ones-minus s (2 ^ k), ones-common s k)

-- a set with a member has a count above 0
pub ones-has : (s k : ℕ) → Has s k → 0 < ones s
ones-has s k h = omega (arith, ones-minus s (2 ^ k), ones-common s k)

-- and one with such a count has a member
pub ones-some : (s : ℕ) → 0 < ones s → (k : ℕ) × Has s k
ones-some =
    bin_ind (λ (s : ℕ). 0 < ones s → (k : ℕ) × Has s k) (λ h. absurd (omega (arith, zero-ones)))
    (λ s ih h. ⊎_elim
    (λ e. let m = ih (omega (arith, ones_step s, bit-low s)) in (suc m.0, bit-half s m.0 ∙ m.1))
    (λ e. (0, e))
    (bit? s 0))

-- ---- fewer members

-- a set in another that lacks one of its members has fewer
pub ones-lacks : (a b k : ℕ) → Within a b → Has b k → (Has a k → ⊥) → ones a < ones b
ones-lacks a b k f h n = omega (arith, more a k n, ones-within (bit_or a (2 ^ k)) b grown)
  where
    grown : Within (bit_or a (2 ^ k)) b
    grown j g = ⊎_elim (f j) (λ p. subst (Has b) (sym ((has-power k j).0 p)) h) ((has-or a (2 ^ k) j).0 g)

-- a set in the stages below n that lacks one of them has fewer than n
pub ones_lt : (s n k : ℕ) → Within s (2 ^ n - 1) → k < n → (Has s k → ⊥) → ones s < n
ones_lt s n k f l m = omega (arith, ones-lacks s (2 ^ n - 1) k f ((has-below n k).1 l) m, ones-ones n)

-- a set in another with no fewer members is the other
pub ones-same : (a b : ℕ) → Within a b → ones b ≤ ones a → a ≡ b
ones-same a b f l = within-antisym a b f (λ k h. ⊎_elim (λ g. g) (λ n. absurd (omega (arith, ones-lacks a b k f h n))) (has? a k))
