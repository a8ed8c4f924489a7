-- Two results that meet a contract are one: of those public functions below the services whose own crates do not say so.
--
--     put-once           sets::row::store: the row with a set put in
--     first-set-once     format::image::first_set: the number of a predicate's first set
--     variables-once     format::variables::free: the free variables, in a set that fits the width, as every set of the code does
--
-- Assumes nothing.
use Prim.Native.Nat.{ℕ, ◌^◌, ◌<◌}
use native.Mathlib.Omega.{arith}
use mathlib.Core.Path.{◌≡◌, sym, ◌∙◌, subst}
use mathlib.Core.List.{List}
use mathlib.Core.Logic.{⊎_elim}
use lib.ListN.{length}
use lib.Seq.{ext_get_or}
use Rattle.model.specs.Formula.{Formula}
use Rattle.sets.specs.Member.{Within}
use Rattle.sets.specs.Number.{number, none, width}
use Rattle.sets.specs.Row.{held, Put}
use Rattle.sets.specs.declared.Set.{Set}
use Rattle.sets.proofs.LawsMember.{same?, has-lt, within-antisym}
use Rattle.sets.proofs.LawsRow.{set_same, room-enough}
use Rattle.format.specs.Image.{FirstSet}
use Rattle.format.specs.Reading.{Variables}

-- Two rows with a set put in at one place are one: they agree there, where there is room, and everywhere else.
pub put-once : (row : List Set) (i s : ℕ) (a b : List Set) → Put row i s a → Put row i s b → a ≡ b
unfolding held
put-once row i s a b p q = ext_get_or none a b (p.size ∙ sym q.size) (λ j h. set_same _ _ (at j h))
  where
    at : (j : ℕ) → j < length a → held a j ≡ held b j
    at j h =
        ⊎_elim
        (λ e.
        let r = room-enough row i (omega (arith, h, e, p.size)) in
        subst (λ (k : ℕ). held a k ≡ held b k) (sym e) (p.here r ∙ sym (q.here r)))
        (λ e. p.others j e ∙ sym (q.others j e)) (same? j i)

-- The number of a predicate's first set is one.
pub first-set-once : (image : List ℕ) (q m n : ℕ) → FirstSet image q m → FirstSet image q n → m ≡ n
first-set-once image q m n p r = p.is ∙ sym r.is

-- Sets of the free variables of one formula, which fit the width, are one.
pub variables-once : (f : Formula) (r s : Set) → number r < 2 ^ width → number s < 2 ^ width → Variables f (number r) → Variables f (number s) → r ≡ s
variables-once f r s h i p q =
    set_same r s (within-antisym (number r) (number s) (inside (number r) (number s) h p q) (inside (number s) (number r) i q p))
  where
    inside : (a b : ℕ) → a < 2 ^ width → Variables f a → Variables f b → Within a b
    inside a b low u v k m = let l = has-lt a width k low m in (v k l).1 ((u k l).0 m)
