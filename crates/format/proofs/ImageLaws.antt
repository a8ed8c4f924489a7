-- What the proofs of the image's reader cite: the number of a predicate's first set, a set past the image's end, arity bytes.
-- Over plain values; nothing here names a place of the code.
use Prim.Native.Nat.{ℕ, zero, suc, ◌+◌, ◌-◌, ◌^◌, ◌≤◌, ◌<◌, min}
use native.Mathlib.Omega.{arith}
use native.Mathlib.Numerals.{add-one}
use mathlib.Core.Path.{◌≡◌, ap, subst, ◌∙◌}
use mathlib.Core.Bool.{Bool, true, false}
use mathlib.Core.List.{List}
use mathlib.Core.Logic.{◌⊎◌, inl, inr, ⊎_elim, ◌↔◌}
use native.Mathlib.Nat.{pos_of_ne-zero}
use lib.Bits.{bit_and}
use lib.Dec.{eqb}
use lib.ListN.{length, get_or-eq_default}
use Rattle.model.specs.Decides.{Decides, decided, refuted}
use Rattle.model.specs.Formula.{pick}
use Rattle.sets.specs.Number.{width}
use Rattle.sets.specs.Member.{Has, Within}
use Rattle.sets.proofs.LawsMember.{has?, side?, has-minus, has-below, empty-zero}
use Rattle.sets.proofs.LawsCount.{ones-some, ones-zero}
use Rattle.format.specs.Image.{stages_of, predicates_of, arity_of, sets_for, first_set, set_of, sets_in, ArityFits, HighBitIn, HighBit, DeadStop}
use Rattle.format.specs.Reading.{Plain}

-- A chosen number is at most a bound of both.
pub pick-le : (b : Bool) {s t m : ℕ} → s ≤ m → t ≤ m → pick b s t ≤ m
pick-le true p q = p
pick-le false p q = q

-- A predicate of a graph with at most 255 stages has at most 255 sets.
pub sets-for-le : (n a : ℕ) → n ≤ 255 → sets_for n a ≤ 255
sets-for-le n a h = pick-le (eqb a 2) h (omega arith)

-- The successor sets come first.
pub first-none : (image : List ℕ) {n : ℕ} → n ≡ stages_of image → n ≡ first_set image 0
unfolding first_set
first-none image e = e

-- Past one more predicate there are as many sets more as it has.
pub first_more : (image : List ℕ) (i : ℕ) {n first more : ℕ} → n ≡ stages_of image → first ≡ first_set image i → more ≡ sets_for n (arity_of image i)
    → first + more ≡ first_set image (i + 1)
unfolding first_set
first_more image i n-is first-is more-is =
    rw add-one (cc)

-- Every stage's successor set is one of the sets.
pub first-least : (image : List ℕ) (q : ℕ) → stages_of image ≤ first_set image q
unfolding first_set
first-least image zero = omega arith
first-least image (suc q) = omega (arith, first-least image q)

-- An arity byte that is 1 or 2 is there: past the end it would be 0.
pub arity-fits : (image : List ℕ) (q : ℕ) {a : ℕ} → a ≡ arity_of image q → (a ≡ 1) ⊎ (a ≡ 2) → ArityFits image q
arity-fits image q {a} a-is e = record { there = ⊎_elim (λ h. h) (λ h. absurd (past h)) (side? (7 + q) (length image)); arity = subst (λ (a : ℕ). (a ≡ 1) ⊎ (a ≡ 2)) a-is e }
  where
    past : length image ≤ 7 + q → ⊥
    past h = elim e [ inl f ↦ omega (arith, get_or-eq_default image 0 h) | inr f ↦ omega (arith, get_or-eq_default image 0 h) ]

-- One that is neither does not fit.
pub arity-breaks : (image : List ℕ) (q : ℕ) {a : ℕ} → a ≡ arity_of image q → (a ≡ 1 → ⊥) → (a ≡ 2 → ⊥) → ArityFits image q → ⊥
arity-breaks image q a-is f g fits = elim fits.arity [ inl e ↦ f (a-is ∙ e) | inr e ↦ g (a-is ∙ e) ]

-- What is in one set and not in another, where the one is not within the other.
pub outside : (a b : ℕ) → (Within a b → ⊥) → (k : ℕ) × (Has a k × (Has b k → ⊥))
outside a b f =
    let d = a - bit_and a b in
    let none : d ≡ 0 → Within a b = λ e k h.
    ⊎_elim (λ g. g) (λ g. absurd ((empty-zero d).1 e k ((has-minus a b k).1 (h, g)))) (has? b k) in
    let found = ones-some d (pos_of_ne-zero (λ e. f (none ((ones-zero d).0 e)))) in
    (found.0, (has-minus a b found.0).0 found.1)

-- The set that the code makes of the stages below n has just those.
pub has_all : (image : List ℕ) (n all : ℕ) → n ≡ stages_of image → stages_of image ≤ width → all ≡ 2 ^ min n width - 1
    → (k : ℕ) → Has all k ↔ (k < stages_of image)
has_all image n all n-is h e k =
    let m : min n width ≡ stages_of image = omega arith in
    rw e (rw m (has-below (stages_of image) k))

-- The number of sets, from p as the code read it.
pub count-is : (image : List ℕ) (p count : ℕ) → count ≡ first_set image p → p ≡ predicates_of image → count ≡ sets_in image
count-is image p count e d = e ∙ ap (first_set image) d

-- A set that is not within the stages below n has a bit n or above.
pub some-high : (image : List ℕ) (i s all : ℕ) {within : Bool} → s ≡ set_of image i → ((k : ℕ) → Has all k ↔ (k < stages_of image))
    → Decides within (Within s all) → within ≡ false → HighBitIn image i
some-high image i s all s-is all-is d e =
    let found = outside s all (refuted _ d e) in
    record {
      stage = found.0;
      high = ⊎_elim (λ h. absurd (found.1.1 ((all-is found.0).1 h))) (λ h. h) (side? found.0 (stages_of image));
      in_set = rw (← s-is) found.1.0;
    }

-- A set within the stages below n has none.
pub none-high : (image : List ℕ) (i s all : ℕ) {within : Bool} → s ≡ set_of image i → ((k : ℕ) → Has all k ↔ (k < stages_of image))
    → Decides within (Within s all) → within ≡ true → HighBitIn image i → ⊥
none-high image i s all s-is all-is d e h =
    omega (arith, (all-is h.stage).0 (decided _ d e h.stage (rw s-is h.in_set)), h.high)

-- Where no bit n or above is set and not all successor sets are plain, a stage has no successor.
pub plain-stop : (image : List ℕ) (r : ℕ) → Plain image r → (HighBit image → ⊥) → r < stages_of image → DeadStop image
plain-stop image r plain low h =
    ⊎_elim
    (λ high. absurd (low (record { set = r; one_of = omega (arith, first-least image (predicates_of image)); at = high })))
    (λ none. record { stage = r; below = h; none = none })
    (plain.stops h)

-- Where all are plain, every stage has one.
pub plain-all : (image : List ℕ) (r : ℕ) → Plain image r → stages_of image ≤ r → DeadStop image → ⊥
plain-all image r plain h stop = plain.some stop.stage (omega (arith, stop.below)) stop.none
