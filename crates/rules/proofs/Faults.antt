-- Where a reading breaks: in one of the things that it reads in turn, all before it being read to an end.
--
--     IsFault                          an answer that is not a place
--     fault-stays, in-first-or-second  two things in turn
--     in_some, some_in                 a thing at each successor
--     stays, skipped                   what further successors leave as it is
--     earlier-ones                     the successors below t, read by themselves
use Prim.Native.Nat.{ℕ, zero, suc, ◌≤◌, ◌<◌}
use native.Mathlib.Nat.{le_refl}
use native.Mathlib.Omega.{arith}
use mathlib.Core.Path.{◌≡◌, refl, sym, ap, ap₂, subst, ◌∙◌}
use mathlib.Core.Bool.{Bool, true, false}
use mathlib.Core.Logic.{◌⊎◌, inl, inr, ⊎_elim}
use lib.Dec.{T}
use borrow.Author.Tests.{lt-ltb, le-ltb}
use Rattle.rules.specs.Premises.{earlier}
use Rattle.rules.specs.Reading.{Reader, onward, visit, through, Progress}
use Rattle.std.specs.Prelude.{Ok, Err}
use Rattle.rules.proofs.Faithful.{last, visited}

-- An answer that is not a place.
abbrev pub IsFault : Progress → Type 0
IsFault (Ok p) = ⊥
IsFault (Err stop) = Unit {0}

-- A fault stays.
pub fault-stays : (r : Progress) (k : Reader) → IsFault r → onward r k ≡ r
fault-stays (Ok p) k u = absurd u
fault-stays (Err stop) k u = refl

-- No place is a fault.
pub no-fault : {p : ℕ} {r : Progress} → Ok p ≡ r → IsFault r → ⊥
no-fault e u = subst IsFault (sym e) u

-- Where two things read in turn break, the first broke, or it ended and the second broke.
pub in-first-or-second : (r : Progress) (k : Reader) {v : Progress} → onward r k ≡ v → IsFault v
    → (r ≡ v) ⊎ ((m : ℕ) × (r ≡ Ok m) × (k m ≡ v))
in-first-or-second (Ok p) k e u = inr (p, refl, e)
in-first-or-second (Err stop) k e u = inl e

-- To go on with nothing changes nothing.
onward-at : (p : Progress) → onward p Ok ≡ p
onward-at (Ok p) = refl
onward-at (Err stop) = refl

-- A thing at each successor.
module _ (next : ℕ → Bool) (r : ℕ → Reader) (at : ℕ) where
  -- A reading at each successor below n that broke at one, those below it being read to an end.
  abbrev pub Some : ℕ → Progress → Type 0
  Some n v = (t : ℕ) × T (next t) × (t < n) × (m : ℕ) × (through t next r at ≡ Ok m) × (r t m ≡ v)

  taken : (b : Bool) (q : Reader) {m : ℕ} {v : Progress} → visit b q m ≡ v → IsFault v → T b × (q m ≡ v)
  taken true q f u = (tt, f)
  taken false q f u = absurd (no-fault f u)

  pub in_some : (n : ℕ) {v : Progress} → through n next r at ≡ v → IsFault v → Some n v
  in_some zero e u = absurd (no-fault e u)
  in_some (suc n) e u =
      ⊎_elim (λ f. let k = in_some n f u in (k.0, k.1, omega arith, k.3, k.4, k.5))
      (λ k. let q = taken (next n) (r n) k.2 u in (n, q.0, omega arith, k.0, k.1, q.1))
      (in-first-or-second (through n next r at) (visit (next n) (r n)) e u)

  -- A fault stays,
  pub stays : (m n : ℕ) → m ≤ n → {v : Progress} → through m next r at ≡ v → IsFault v → through n next r at ≡ v
  stays m zero h {v} e u = let f : m ≡ 0 = omega arith in subst (λ (k : ℕ). through k next r at ≡ v) f e
  stays m (suc n) h {v} e u =
      ⊎_elim (λ f. subst (λ (k : ℕ). through k next r at ≡ v) f e)
      (λ i. let k = stays m n (omega arith) e u in rw k (fault-stays v (visit (next n) (r n)) u))
      (last {k = m} {n = suc n} (omega arith))

  -- and where there are no more successors, so does every answer.
  pub skipped : (m n : ℕ) → m ≤ n → ((t : ℕ) → m ≤ t → t < n → next t ≡ false) → through n next r at ≡ through m next r at
  skipped m zero h f = let e : 0 ≡ m = omega arith in ap (λ (k : ℕ). through k next r at) e
  skipped m (suc n) h f =
      ⊎_elim (λ e. ap (λ (k : ℕ). through k next r at) (sym e))
      (λ i. rw (f n (omega arith) (omega arith)) (onward-at (through n next r at) ∙ skipped m n (omega arith) (λ t j k. f t j (omega arith))))
      (last {k = m} {n = suc n} (omega arith))

  pub some_in : (n : ℕ) {v : Progress} → Some n v → IsFault v → through n next r at ≡ v
  some_in n k u = stays (suc k.0) n k.2 (rw (k.4, visited (next k.0) (r k.0) {p = k.3} k.1) k.5) u

-- The successors below t, read by themselves.
module _ (next : ℕ → Bool) (r : ℕ → Reader) (at t : ℕ) where
  up_to : (n : ℕ) → n ≤ t → through n (earlier t next) r at ≡ through n next r at
  up_to zero h = refl
  up_to (suc n) h =
      let b : earlier t next n ≡ next n = rw (lt-ltb n t h) in
      ap₂ (λ (p : Progress) (c : Bool). onward p (visit c (r n))) (up_to n (omega arith)) b

  pub earlier-ones : (n : ℕ) → t ≤ n → through n (earlier t next) r at ≡ through t next r at
  earlier-ones n h = skipped (earlier t next) r at t n h (λ k i j. rw (le-ltb k t i)) ∙ up_to t (le_refl t)
