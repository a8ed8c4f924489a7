-- A row of sets and that a set is nothing but its number.
--
--     set_same              sets of the same number are the same set
--     equal-number          and where `==` holds of two sets their numbers are the same
--     held-past             past the end the sets are empty
--     room-enough           where there is room for i + 1 sets, set i is there
--     put_in, put-past      a set replaced, and nothing replaced past the end
--
-- Assumes nothing.
use mathlib.Core.Path.{◌≡◌, refl, sym, ap, ◌∙◌}
use mathlib.Core.Bool.{Bool, true}
use mathlib.Core.List.{List}
use borrow.Author.Tests.{eqb-true}
use lib.Dec.{eqb}
use Prim.Native.Nat.{ℕ, ◌+◌, ◌≤◌, ◌<◌}
use native.Mathlib.Omega.{arith}
use lib.ListN.{length, set, length-set, get_or-eq_default}
use lib.Seq.{get_or-set_same, get_or-set_other}
use Rattle.sets.specs.declared.Set.{Set}
use Rattle.sets.specs.Number.{number, none}
use Rattle.sets.specs.Row.{room, held, Put}

-- Sets of the same number are the same set.
pub set_same : (a b : Set) → number a ≡ number b → a ≡ b
unfolding number
set_same a b e = λ i. record { bits = e i }

-- What `==` says of sets it says of their numbers.
pub equal-number : (a b : Set) {r : Bool} → r ≡ eqb a.bits b.bits → r ≡ true → number a ≡ number b
unfolding number
equal-number a b e t = eqb-true a.bits b.bits (sym e ∙ t)

-- Past the end the sets are empty.
pub held-past : (row : List Set) (i : ℕ) → room row ≤ i → held row i ≡ 0
unfolding room held number
held-past row i h = ap number (get_or-eq_default row none h)

-- A row long enough for i + 1 sets has set i.
pub room-enough : (row : List Set) (i : ℕ) → i + 1 ≤ length row → i < room row
unfolding room
room-enough row i h = omega arith

-- The row with a set replaced.
pub put_in : (row : List Set) (i : ℕ) (s : Set) → i < length row → Put row i (number s) (set row i s)
unfolding held
put_in row i s h = record {
  here = λ r. ap number (get_or-set_same row i s none h);
  others = λ j n. ap number (get_or-set_other row i j s none n);
  size = length-set row i s;
}

-- The row as it was, where i is past its end.
pub put-past : (row : List Set) (i s : ℕ) → length row ≤ i → Put row i s row
unfolding room
put-past row i s h = record { here = λ r. absurd (omega arith); others = λ j n. refl; size = refl }
