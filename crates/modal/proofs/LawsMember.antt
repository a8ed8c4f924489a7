-- Sets that are numbers, as tests of stages: what is in the sets that the operations of the crate `sets` make, and tests that agree on the
-- stages. A law takes what an operation's contract says of the number r that it gives.
--
--     member-says                               a test that says what `Has` says is `member`
--     member-or, member-and, member-minus, member-none, member-all
--     inside-or, inside-left, inside-right, inside-minus, inside-all
--     some-member                               a set that is not empty has a member
--     same-within, same_not                     when a set that lies in another is the other
--     Agree, computes-as                        tests that are the same below n; a set worked out for one is worked out for the other
--     clip-agrees                               what a set has below n
--
-- Assumes nothing.
use Rattle.sets.specs.declared.Set.{Set}
use mathlib.Core.Path.{◌≡◌, refl, sym, ap, ◌∙◌, subst}
use mathlib.Core.Bool.{Bool, true, false, not, ◌&&◌, ◌||◌}
use mathlib.Core.List.{List}
use mathlib.Core.Logic.Iff
use mathlib.Core.Logic.{◌↔◌, ⊎_elim}
use Prim.Native.Nat.{ℕ, zero, suc, ◌-◌, ◌^◌, ◌≤◌, ◌<◌, min}
use native.Mathlib.Omega.{arith}
use lib.Bits.{bit_and, bit_or}
use lib.Count.{ones}
use lib.Dec.{T}
use borrow.Author.Tests.{eq-eqb, ne_eqb}
use Rattle.model.specs.Decides.{Decides}
use Rattle.model.specs.Graph.{Graph}
use Rattle.logic.proofs.Booleans.{T_not, and-says, or-says, same_test}
use Rattle.logic.specs.Test.{Stages}
use Rattle.sets.specs.Member.{bit, Has, Within, Empty}
use Rattle.sets.specs.Number.{width}
use Rattle.sets.proofs.LawsBit.{bit_below}
use Rattle.sets.proofs.LawsMember.{has-test, has-or, has-and, has-minus, has-below, empty-zero, within-refl, within-antisym}
use Rattle.sets.proofs.LawsCount.{ones-zero, ones-some}
use Rattle.modal.specs.Row.{member, Row, Inside, Computes}

-- ---- members

-- A test that says what `Has` says is the test of membership.
pub member-says : (s k : ℕ) (b : Bool) {A : Type 0} → Has s k ↔ A → T b ↔ A → member s k ≡ b
member-says s k b h t = same_test (member s k) b (Iff.trans (has-test s k) (Iff.trans h (Iff.symm t)))

-- Of one number there is one set.
pub member-same : {r r' : ℕ} → r ≡ r' → (k : ℕ) → member r k ≡ member r' k
member-same e k = ap (λ (x : ℕ). member x k) e

-- In either, in both, in one and not in the other.
pub member-or : {r : ℕ} (a b : ℕ) → r ≡ bit_or a b → (k : ℕ) → member r k ≡ (member a k || member b k)
member-or a b e k =
    member-same e k ∙ member-says (bit_or a b) k _ (has-or a b k) (or-says (member a k) (member b k) (has-test a k) (has-test b k))

pub member-and : {r : ℕ} (a b : ℕ) → r ≡ bit_and a b → (k : ℕ) → member r k ≡ (member a k && member b k)
member-and a b e k =
    member-same e k ∙ member-says (bit_and a b) k _ (has-and a b k) (and-says (member a k) (member b k) (has-test a k) (has-test b k))

pub member-minus : {r : ℕ} (a b : ℕ) → r ≡ a - bit_and a b → (k : ℕ) → member r k ≡ (member a k && not (member b k))
member-minus a b e k =
    member-same e k ∙ member-says (a - bit_and a b) k _ (has-minus a b k) (and-says (member a k) (not (member b k)) (has-test a k) lacks)
  where
    lacks : T (not (member b k)) ↔ (Has b k → ⊥)
    lacks = (
      λ t h. (T_not (member b k)).0 t ((has-test b k).1 h),
      λ f. (T_not (member b k)).1 (λ t. f ((has-test b k).0 t)),
    )

-- No stage is in the empty set.
pub member-none : {r : ℕ} → r ≡ 0 → (k : ℕ) → member r k ≡ false
member-none {r} e k = ne_eqb (bit r k) 1 ((empty-zero r).1 e k)

-- The number of the stages below n, or of as many as there is room for.
abbrev pub below : ℕ → ℕ
below n = 2 ^ min n width - 1

-- A stage below n is in it where there is room.
pub has_all : {n r k : ℕ} → r ≡ below n → n ≤ width → k < n → Has r k
has_all {n} {r} {k} e w h = subst (λ (x : ℕ). Has x k) (sym e) (bit_below (min n width) k (omega arith))

pub member-all : {n r : ℕ} → r ≡ below n → n ≤ width → (k : ℕ) → k < n → member r k ≡ true
member-all {n} {r} e w k h = eq-eqb (bit r k) 1 (has_all e w h)

-- A set that is not empty has a member.
pub some-member : (s : ℕ) → (Empty s → ⊥) → (k : ℕ) × Has s k
some-member s f = go (ones s) (λ e. f ((empty-zero s).1 ((ones-zero s).0 e))) (ones-some s)
  where
    go : (c : ℕ) → (c ≡ 0 → ⊥) → (0 < c → (k : ℕ) × Has s k) → (k : ℕ) × Has s k
    go zero n g = absurd (n (omega arith))
    go (suc c) n g = g (omega arith)

-- ---- no stage at or above n

-- The operations lead to no stage that was not there.
pub inside-or : {n r : ℕ} (a b : ℕ) → r ≡ bit_or a b → Inside n a → Inside n b → Inside n r
inside-or a b e f g k h = ⊎_elim (f k) (g k) ((has-or a b k).0 (subst (λ (x : ℕ). Has x k) e h))

pub inside-left : {n r : ℕ} (a b : ℕ) → r ≡ bit_and a b → Inside n a → Inside n r
inside-left a b e f k h = f k ((has-and a b k).0 (subst (λ (x : ℕ). Has x k) e h)).0

pub inside-right : {n r : ℕ} (a b : ℕ) → r ≡ bit_and a b → Inside n b → Inside n r
inside-right a b e f k h = f k ((has-and a b k).0 (subst (λ (x : ℕ). Has x k) e h)).1

pub inside-minus : {n r : ℕ} (a b : ℕ) → r ≡ a - bit_and a b → Inside n a → Inside n r
inside-minus a b e f k h = f k ((has-minus a b k).0 (subst (λ (x : ℕ). Has x k) e h)).0

pub inside-all : {n r : ℕ} → r ≡ below n → Inside n r
inside-all {n} e k h = let l = (has-below (min n width) k).0 (subst (λ (x : ℕ). Has x k) e h) in omega arith

-- ---- one set

-- Where a lies in b, they are one if b lies in a too,
pub same-within : (a b : ℕ) (r : Bool) → Within a b → Decides r (Within b a) → Decides r (a ≡ b)
same-within a b true f d = within-antisym a b f d
same-within a b false f d = λ e. d (subst (λ (x : ℕ). Within x a) e (within-refl a))

-- and where it does not, they are two.
pub same_not : (a b : ℕ) → (Within a b → ⊥) → a ≡ b → ⊥
same_not a b f e = f (subst (Within a) e (within-refl a))

-- ---- tests that agree

-- Below n the tests x and y are the same.
abbrev pub Agree : ℕ → Stages → Stages → Type 0
Agree n x y = (s : ℕ) → s < n → x s ≡ y s

-- A set worked out for one test is worked out for any test that agrees with it.
pub computes-as : {next : List Set} {n : ℕ} {op op' : Graph → Stages} {r : ℕ} → ((G : Graph) → Row next n G → Agree n (op G) (op' G))
    → Computes next n op r → Computes next n op' r
computes-as same c = record { inside = c.inside; right = λ G R s h. c.right G R s h ∙ same G R s h }

-- To ask for what is true is to ask for nothing.
and-true : (b : Bool) → (b && true) ≡ b
and-true true = refl
and-true false = refl

-- What a set has below n agrees with it there.
pub clip-agrees : {n all x : ℕ} (b : ℕ) → all ≡ below n → x ≡ bit_and b all → n ≤ width → Agree n (member x) (member b)
clip-agrees {all = all} b f e w s h = member-and b all e s ∙ ap (◌&&◌ (member b s)) (member-all f w s h) ∙ and-true (member b s)
