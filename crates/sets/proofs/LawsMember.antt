-- Membership in the sets that the operations make, by what is in the sets they are made of; when one set lies in another, when one is
-- empty, and when all its stages are below n. Each law is one step from the digits (`LawsBit`).
-- Assumes nothing.
use mathlib.Core.Path.{◌≡◌, refl, sym, ap, ◌∙◌, subst}
use mathlib.Core.Bool.{Bool, true, false}
use mathlib.Core.Logic.{◌⊎◌, inl, inr, ⊎_elim, ◌≢◌, ◌↔◌}
use Prim.Native.Nat.{ℕ, ◌-◌, ◌^◌, ◌≤◌, ◌<◌, min}
use native.Mathlib.Nat.{mod-lt, min-eq_left}
use native.Mathlib.Decide.{dec_lt, ℕ_discrete}
use native.Mathlib.Omega.{arith}
use borrow.Author.Tests.{eqb-true, eqb-false, eq-eqb, lt-ltb, le-ltb}
use lib.Bits.{bit_and, bit_or, and_mask}
use lib.Dec.{T, eqb, eqb→eq}
use lib.Pow.{pow_pos}
use Rattle.model.specs.Decides.{Decides}
use Rattle.model.specs.Formula.{pick}
use Rattle.sets.specs.Member.{bit, Has, Within, Empty}
use Rattle.sets.specs.Number.{single, width}
use Rattle.sets.proofs.LawsBit.{bit?, bit-zero, bit-above, bit-or, bit-and, bit-minus, bit_below, bit-not-below, ext}
use Rattle.sets.proofs.LawsBit.{bit-power-same, bit-power-other}

-- ---- what can be told by a test

-- a stage is below n or not
pub side? : (k n : ℕ) → (k < n) ⊎ (n ≤ k)
side? k n = go (dec_lt k n)
  where
    go : Dec (k < n) → (k < n) ⊎ (n ≤ k)
    go (yes l) = inl l
    go (no f) = inr (omega (arith, f))

-- two stages are the same or not
pub same? : (j k : ℕ) → (j ≡ k) ⊎ (j ≢ k)
same? j k = go (ℕ_discrete j k)
  where
    go : Dec (j ≡ k) → (j ≡ k) ⊎ (j ≢ k)
    go (yes e) = inl e
    go (no f) = inr f

-- a stage is in a set or not
pub has? : (s k : ℕ) → Has s k ⊎ (Has s k → ⊥)
has? s k = ⊎_elim (λ e. inr (λ h. omega arith)) inl (bit? s k)

-- a stage that is not in a set has the digit 0
pub not-has : (s k : ℕ) → (Has s k → ⊥) → bit s k ≡ 0
not-has s k f = ⊎_elim (λ e. e) (λ h. absurd (f h)) (bit? s k)

-- membership as a test that computes
pub has-test : (s k : ℕ) → T (eqb (bit s k) 1) ↔ Has s k
has-test s k = (eqb→eq (bit s k) 1, λ h. subst T (sym (eq-eqb (bit s k) 1 h)) tt)

-- a test for equality decides what is equivalent to the equation
pub by_eqb : (a b : ℕ) {P : Type 0} → (a ≡ b) ↔ P → Decides (eqb a b) P
by_eqb a b {P} f = go (eqb a b) refl
  where
    go : (t : Bool) → eqb a b ≡ t → Decides t P
    go true e = f.0 (eqb-true a b e)
    go false e = λ p. eqb-false a b e (f.1 p)

-- ---- what is in an or, an and, a difference

-- a union has the members of either
pub has-or : (a b k : ℕ) → Has (bit_or a b) k ↔ (Has a k ⊎ Has b k)
has-or a b k = (
  λ h. ⊎_elim (λ e. inr (omega (arith, bit-or a b k))) inl (bit? a k),
  ⊎_elim (λ h. omega (arith, bit-or a b k)) (λ h. omega (arith, bit-or a b k)),
)

-- what is common has the members of both
pub has-and : (a b k : ℕ) → Has (bit_and a b) k ↔ (Has a k × Has b k)
has-and a b k = (λ h. omega (arith, bit-and a b k), λ h. omega (arith, bit-and a b k))

-- a difference has the members of the first that the second has not
pub has-minus : (a b k : ℕ) → Has (a - bit_and a b) k ↔ (Has a k × (Has b k → ⊥))
has-minus a b k = (
  λ h. (omega (arith, bit-minus a b k), λ g. omega (arith, bit-minus a b k)),
  λ h. omega (arith, bit-minus a b k, not-has b k h.1, h.0),
)

-- ---- the set of one stage

-- 2 ^ k has the stage k alone
pub has-power : (k j : ℕ) → Has (2 ^ k) j ↔ (j ≡ k)
has-power k j = (
  λ h. ⊎_elim (λ e. e) (λ n. absurd (omega (arith, bit-power-other k j n))) (same? j k),
  λ e. ap (bit (2 ^ k)) e ∙ bit-power-same k,
)

-- the set of a stage that there is room for is its power
pub single-in : (k : ℕ) → k < width → single k ≡ 2 ^ k
unfolding single
single-in k h = ap (λ (t : Bool). pick t (2 ^ k) 0) (lt-ltb k width h)

-- and of one that there is no room for, empty
pub single-out : (k : ℕ) → width ≤ k → single k ≡ 0
unfolding single
single-out k h = ap (λ (t : Bool). pick t (2 ^ k) 0) (le-ltb k width h)

-- stage k is in its own set where there is room for it
pub bit-single-same : (k : ℕ) → k < width → bit (single k) k ≡ 1
bit-single-same k h = ap (λ (x : ℕ). bit x k) (single-in k h) ∙ bit-power-same k

-- no other stage is
pub bit-single-other : (k j : ℕ) → j ≢ k → bit (single k) j ≡ 0
bit-single-other k j n =
    ⊎_elim (λ h. ap (λ (x : ℕ). bit x j) (single-in k h) ∙ bit-power-other k j n) (λ h. ap (λ (x : ℕ). bit x j) (single-out k h) ∙ bit-zero j)
    (side? k width)

-- none is where there is no room
pub bit-single-out : (k j : ℕ) → width ≤ k → bit (single k) j ≡ 0
bit-single-out k j h = ap (λ (x : ℕ). bit x j) (single-out k h) ∙ bit-zero j

-- the set of one stage has that stage alone, where there is room for it
pub has-single : (k j : ℕ) → Has (single k) j ↔ ((j ≡ k) × (k < width))
has-single k j = (
  λ h. (
    ⊎_elim (λ e. e) (λ n. absurd (omega (arith, bit-single-other k j n))) (same? j k),
    ⊎_elim (λ l. l) (λ o. absurd (omega (arith, bit-single-out k j o))) (side? k width),
  ),
  λ h. ap (bit (single k)) h.0 ∙ bit-single-same k h.1,
)

-- a set with stage k besides
pub has-with : (s k j : ℕ) → Has (bit_or s (single k)) j ↔ (Has s j ⊎ ((j ≡ k) × (k < width)))
has-with s k j = (
  λ h. ⊎_elim inl (λ g. inr ((has-single k j).0 g)) ((has-or s (single k) j).0 h),
  λ h. (has-or s (single k) j).1 (⊎_elim inl (λ g. inr ((has-single k j).1 g)) h),
)

-- a set less stage k; where there is no room for k it was not there
pub has-without : (s k j : ℕ) → Has (s - bit_and s (single k)) j ↔ (Has s j × ((j ≡ k) × (k < width) → ⊥))
has-without s k j = (
  λ h. let g = (has-minus s (single k) j).0 h in (g.0, λ e. g.1 ((has-single k j).1 e)),
  λ h. (has-minus s (single k) j).1 (h.0, λ g. h.1 ((has-single k j).0 g)),
)

-- ---- one set in another; the empty set

-- a set lies in itself
pub within-refl : (a : ℕ) → Within a a
within-refl a k h = h

-- what lies in a part lies in the whole
pub within-trans : (a b c : ℕ) → Within a b → Within b c → Within a c
within-trans a b c f g k h = g k (f k h)

-- no digit of a set that lies in another is greater
pub within-bit : (a b : ℕ) → Within a b → (k : ℕ) → bit a k ≤ bit b k
within-bit a b f k = ⊎_elim (λ e. omega arith) (λ h. omega (arith, f k h)) (bit? a k)

-- two sets that lie in one another are one number
pub within-antisym : (a b : ℕ) → Within a b → Within b a → a ≡ b
within-antisym a b f g = ext a b (λ k. omega (arith, within-bit a b f k, within-bit b a g k))

-- the test for it: what is common to both is all of the first
pub within-and : (a b : ℕ) → Within a b ↔ (bit_and a b ≡ a)
within-and a b = (
  λ f. ext (bit_and a b) a (λ k. omega (arith, bit-and a b k, within-bit a b f k)),
  λ e k h. ((has-and a b k).0 (subst (λ (x : ℕ). Has x k) (sym e) h)).1,
)

-- a set lies in its union with another
pub within-or-left : (a b : ℕ) → Within a (bit_or a b)
within-or-left a b k h = (has-or a b k).1 (inl h)

-- on either side
pub within-or-right : (a b : ℕ) → Within b (bit_or a b)
within-or-right a b k h = (has-or a b k).1 (inr h)

-- what is common to two sets lies in the first
pub within-and-left : (a b : ℕ) → Within (bit_and a b) a
within-and-left a b k h = ((has-and a b k).0 h).0

-- and in the second
pub within-and-right : (a b : ℕ) → Within (bit_and a b) b
within-and-right a b k h = ((has-and a b k).0 h).1

-- a set less another lies in the set
pub within-minus : (a b : ℕ) → Within (a - bit_and a b) a
within-minus a b k h = ((has-minus a b k).0 h).0

-- a set has no stage where its number is 0, and only there
pub empty-zero : (s : ℕ) → Empty s ↔ (s ≡ 0)
empty-zero s = (
  λ f. ext s 0 (λ k. not-has s k (f k) ∙ sym (bit-zero k)),
  λ e k h. omega (arith, ap (λ (x : ℕ). bit x k) e, bit-zero k),
)

-- ---- the stages below n

-- 2 ^ n - 1 has the stages below n
pub has-below : (n k : ℕ) → Has (2 ^ n - 1) k ↔ (k < n)
has-below n k = (λ h. ⊎_elim (λ l. l) (λ o. absurd (omega (arith, bit-not-below n k o))) (side? k n), bit_below n k)

-- that no member is at or above n says that the set lies in the stages below n
pub below-within : (s n : ℕ) → ((k : ℕ) → Has s k → k < n) ↔ Within s (2 ^ n - 1)
below-within s n = (λ f k h. bit_below n k (f k h), λ f k h. (has-below n k).0 (f k h))

-- that it lies in them says that it is a number below 2 ^ n
pub within-lt : (s n : ℕ) → Within s (2 ^ n - 1) ↔ (s < 2 ^ n)
within-lt s n = (
  λ f. subst (λ (x : ℕ). x < 2 ^ n) (sym (and_mask s n) ∙ (within-and s (2 ^ n - 1)).0 f) (mod-lt s (pow_pos n)),
  λ l k h. ⊎_elim (bit_below n k) (λ o. absurd (omega (arith, bit-above s n k l o))) (side? k n),
)

-- so no member at or above n is a number below 2 ^ n
pub below-lt : (s n : ℕ) → ((k : ℕ) → Has s k → k < n) ↔ (s < 2 ^ n)
below-lt s n = (λ f. (within-lt s n).0 ((below-within s n).0 f), λ l. (below-within s n).1 ((within-lt s n).1 l))

-- a member of a number below 2 ^ n is below n
pub has-lt : (s n k : ℕ) → s < 2 ^ n → Has s k → k < n
has-lt s n k l h = (below-lt s n).1 l k h

-- and no stage at or above n is in it
pub not-has-above : (s n k : ℕ) → s < 2 ^ n → n ≤ k → Has s k → ⊥
not-has-above s n k l o h = omega (arith, bit-above s n k l o)

-- what the code makes of the stages below n, where there is room for them
pub below-room : (n : ℕ) → n ≤ width → 2 ^ min n width - 1 ≡ 2 ^ n - 1
below-room n h = ap (λ (x : ℕ). 2 ^ x - 1) (min-eq_left h)
