-- Tests on numbers, read as statements: `and`, `or` and `not`; a test that passes at every number below n, or at some; two numbers that are
-- equal or not; De Morgan's laws; and how many numbers below n pass a test. Nothing here is about stages.
--
--     T_and, T-or, T_not        what a compound test says
--     and-says, or-says         the same over tests that say A and B
--     decide, same_test         a test passes or its negation does; tests that say the same are equal
--     not-and, not-or           De Morgan
--     equal?, differ            two numbers
--     all-below, any_below_lem      what a test at every number below n, at some number below n, says; all-below-same, any-below-same; and
--                               De Morgan, none_below, not_all_below
--     count, count-lt           how many numbers below n pass; fewer pass a narrower test
use Prim.Native.Nat.{ℕ, zero, suc, ◌+◌, ◌≤◌, ◌<◌}
use native.Mathlib.Nat.{not-suc-le-zero}
use native.Mathlib.Omega.{arith}
use mathlib.Core.Path.{◌≡◌, refl, sym, ap₂, subst}
use mathlib.Core.Bool.{Bool, true, false, not, ◌&&◌, ◌||◌}
use mathlib.Core.Logic.Iff
use mathlib.Core.Logic.{◌↔◌, ◌⊎◌, inl, inr, ⊎_elim}
use lib.Dec.{T, eqb, eqb→eq, eqb_refl}
use Rattle.logic.specs.Test.{all_below, any_below}

-- Both tests pass exactly when each does.
pub T_and : (a b : Bool) → T (a && b) ↔ (T a × T b)
T_and true b = (λ t. (tt, t), λ p. p.1)
T_and false b = (λ t. absurd t, λ p. p.0)

-- One of two tests passes exactly when the first or the second does.
pub T-or : (a b : Bool) → T (a || b) ↔ (T a ⊎ T b)
T-or true b = (λ t. inl tt, λ p. tt)
T-or false b = (λ t. inr t, λ p. elim p [ inl f ↦ absurd f | inr t ↦ t ])

-- A negated test passes exactly when the test does not.
pub T_not : (a : Bool) → T (not a) ↔ (T a → ⊥)
T_not true = (λ f t. f, λ f. f tt)
T_not false = (λ t f. f, λ f. tt)

-- Tests that say A and B pass both exactly when A and B hold.
pub and-says : (a b : Bool) {A B : Type 0} → T a ↔ A → T b ↔ B → T (a && b) ↔ (A × B)
and-says a b h k = Iff.trans (T_and a b) (Iff.and h k)

-- One of them passes exactly when A or B holds.
pub or-says : (a b : Bool) {A B : Type 0} → T a ↔ A → T b ↔ B → T (a || b) ↔ (A ⊎ B)
or-says a b h k = Iff.trans (T-or a b) (⊎_elim (λ t. inl (h.0 t)) (λ t. inr (k.0 t)), ⊎_elim (λ v. inl (h.1 v)) (λ v. inr (k.1 v)))

-- A test passes or its negation does.
pub decide : (a : Bool) → T a ⊎ T (not a)
decide true = inl tt
decide false = inr tt

-- Two tests that say the same are equal.
pub same_test : (a b : Bool) → T a ↔ T b → a ≡ b
same_test true true h = refl
same_test true false h = absurd (h.0 tt)
same_test false true h = absurd (h.1 tt)
same_test false false h = refl

-- Twice negated is not negated, and De Morgan's two laws.
pub not-not : (a : Bool) → not (not a) ≡ a
not-not true = refl
not-not false = refl

pub not-and : (a b : Bool) → not (a && b) ≡ (not a || not b)
not-and true b = refl
not-and false b = refl

pub not-or : (a b : Bool) → not (a || b) ≡ (not a && not b)
not-or true b = refl
not-or false b = refl

-- Two numbers are equal, or the test of equality fails.
pub equal? : (m n : ℕ) → (m ≡ n) ⊎ T (not (eqb m n))
equal? m n = elim (decide (eqb m n)) [ inl t ↦ inl (eqb→eq m n t) | inr f ↦ inr f ]

-- Where the test of equality fails, the numbers differ.
pub differ : (m n : ℕ) → T (not (eqb m n)) → m ≡ n → ⊥
differ m n f e = (T_not (eqb m n)).0 f (subst (λ (k : ℕ). T (eqb m k)) e (eqb_refl m))

-- The last number below `suc n` is n.
last-or-below : {k n : ℕ} → k < suc n → (k ≡ n) ⊎ (k < n)
last-or-below {k} {n} h = go (equal? k n)
  where
    go : (k ≡ n) ⊎ T (not (eqb k n)) → (k ≡ n) ⊎ (k < n)
    go (inl e) = inl e
    go (inr f) = let d : k ≡ n → ⊥ = differ k n f in inr (omega arith)

-- What holds of every number below n, and of n, holds of every number below `suc n`.
last : (P : ℕ → Type 0) (n : ℕ) → ((k : ℕ) → k < n → P k) → P n → (k : ℕ) → k < suc n → P k
last P n f l k h = ⊎_elim (λ e. rw e l) (f k) (last-or-below h)

-- `all_below` says that the test passes at every number below n.
pub all-below : (n : ℕ) (p : ℕ → Bool) → T (all_below n p) ↔ ((k : ℕ) → k < n → T (p k))
unfolding all_below
all-below zero p = (λ t k h. absurd (not-suc-le-zero h), λ f. tt)
all-below (suc n) p = (
  λ t. let u = (T_and (all_below n p) (p n)).0 t in last (λ k. T (p k)) n ((all-below n p).0 u.0) u.1,
  λ f. (T_and (all_below n p) (p n)).1 ((all-below n p).1 (λ k h. f k (omega arith)), f n (omega arith)),
)

-- `any_below` says that the test passes at some number below n.
pub any_below_lem : (n : ℕ) (p : ℕ → Bool) → T (any_below n p) ↔ ((k : ℕ) × (k < n) × T (p k))
unfolding any_below
any_below_lem zero p = (λ t. absurd t, λ f. absurd (not-suc-le-zero f.1))
any_below_lem (suc n) p = (
  λ t. ⊎_elim (λ u. let f = (any_below_lem n p).0 u in (f.0, omega arith, f.2)) (λ l. (n, omega arith, l)) ((T-or (any_below n p) (p n)).0 t),
  λ f. (T-or (any_below n p) (p n)).1
      (⊎_elim (λ e. inr (rw e at f.2)) (λ h. inl ((any_below_lem n p).1 (f.0, h, f.2))) (last-or-below f.1)),
)

-- Tests that are the same below n pass there alike.
pub all-below-same : (n : ℕ) (p q : ℕ → Bool) → ((k : ℕ) → k < n → p k ≡ q k) → all_below n p ≡ all_below n q
unfolding all_below
all-below-same zero p q h = refl
all-below-same (suc n) p q h = ap₂ (λ a b. a && b) (all-below-same n p q (λ k i. h k (omega arith))) (h n (omega arith))

pub any-below-same : (n : ℕ) (p q : ℕ → Bool) → ((k : ℕ) → k < n → p k ≡ q k) → any_below n p ≡ any_below n q
unfolding any_below
any-below-same zero p q h = refl
any-below-same (suc n) p q h = ap₂ (λ a b. a || b) (any-below-same n p q (λ k i. h k (omega arith))) (h n (omega arith))

-- A test fails everywhere below n exactly when it passes nowhere there.
pub none_below : (n : ℕ) (p : ℕ → Bool) → all_below n (λ k. not (p k)) ≡ not (any_below n p)
unfolding all_below any_below
none_below zero p = refl
none_below (suc n) p = rw (none_below n p) (sym (not-or (any_below n p) (p n)))

-- It fails somewhere below n exactly when it does not pass everywhere there.
pub not_all_below : (n : ℕ) (p : ℕ → Bool) → any_below n (λ k. not (p k)) ≡ not (all_below n p)
unfolding all_below any_below
not_all_below zero p = refl
not_all_below (suc n) p = rw (not_all_below n p) (sym (not-and (all_below n p) (p n)))

-- one for a test that passes
tick : Bool → ℕ
tick true = 1
tick false = 0

-- how many numbers below n pass a test
pub count : ℕ → (ℕ → Bool) → ℕ
count zero p = 0
count (suc n) p = count n p + tick (p n)

-- The same three laws of one test, and then of `count`: at most one, no more, fewer.
tick-max : (a : Bool) → tick a ≤ 1
unfolding tick
tick-max true = omega arith
tick-max false = omega arith

tick-le : (a b : Bool) → (T a → T b) → tick a ≤ tick b
unfolding tick
tick-le true true f = omega arith
tick-le true false f = absurd (f tt)
tick-le false b f = omega arith

tick-lt : (a b : Bool) → T (not a) → T b → tick a < tick b
unfolding tick
tick-lt true b f t = absurd f
tick-lt false true f t = omega arith
tick-lt false false f t = absurd t

-- Of n numbers no more than n pass.
pub count-max : (n : ℕ) (p : ℕ → Bool) → count n p ≤ n
unfolding count
count-max zero p = omega arith
count-max (suc n) p = omega (arith, count-max n p, tick-max (p n))

-- Where one test passes only if another does, no more numbers pass the one.
pub count-le : (n : ℕ) (p q : ℕ → Bool) → ((k : ℕ) → k < n → T (p k) → T (q k)) → count n p ≤ count n q
unfolding count
count-le zero p q f = omega arith
count-le (suc n) p q f = omega (arith, count-le n p q (λ k h. f k (omega arith)), tick-le (p n) (q n) (f n (omega arith)))

-- And fewer, if some number fails the one and passes the other.
pub count-lt : (n : ℕ) (p q : ℕ → Bool) → ((k : ℕ) → k < n → T (p k) → T (q k)) → (k : ℕ) → k < n → T (not (p k)) → T (q k)
    → count n p < count n q
unfolding count
count-lt zero p q f k h a b = absurd (not-suc-le-zero h)
count-lt (suc n) p q f k h a b =
    let g : (j : ℕ) → j < n → T (p j) → T (q j) = λ j i. f j (omega arith) in
    ⊎_elim (λ e. omega (arith, count-le n p q g, tick-lt (p n) (q n) (rw e at a) (rw e at b)))
    (λ i. omega (arith, count-lt n p q g k i a b, tick-le (p n) (q n) (f n (omega arith))))
    (last-or-below h)
