-- A set that the code holds fits the width. What tells it is what the borrow checker hands a proof of each value of type `Set`: of a
-- parameter `c.good`, of a call's result `.ok`, and of a field the same, further in: `number_lt _ _ c.union.ok`.
-- Assumes nothing.
use mathlib.Core.Path.{sym, subst}
use mathlib.Core.List.{List, [], ◌∷◌}
use Prim.Native.Nat.{ℕ, zero, suc, ◌^◌, ◌<◌}
use native.Mathlib.Nat.{not-suc-le-zero, le_of_suc-le-suc}
use lib.ListN.{length, get_or}
use mir.Val.{Val}
use denote.Array.{Array, each}
use denote.Laws.{Is}
use denote.Shadow.{shadow}
use Rattle.sets.specs.declared.Set.{Set}
use Rattle.sets.specs.Number.{number, width}
use Rattle.sets.specs.contracts.Set.{the_row}

-- a set of the code fits the width
pub number_lt : (s : Set) (vs : List Val) → Is the_row s vs → number s < 2 ^ width
unfolding number
number_lt s vs p = p.1.1.0.1

each-lt : (l : List Set) (us : List Val) → shadow (each Set the_row.own_val l us)
    → (i : ℕ) (d : Set) → i < length l → number (get_or l i d) < 2 ^ width
each-lt [] us p i d h = absurd (not-suc-le-zero h)
each-lt (x ∷ xs) [] p i d h = absurd p
each-lt (x ∷ xs) (u ∷ us) p zero d h = number_lt x (u ∷ []) p.0
each-lt (x ∷ xs) (u ∷ us) p (suc i) d h = each-lt xs us p.1 i d (le_of_suc-le-suc h)

-- so does each element of an array of n sets that is a parameter or a result
pub element-lt : (n : ℕ) (l : List Set) (vs : List Val) → Is (Array the_row n) l vs
    → (i : ℕ) (d : Set) → i < n → number (get_or l i d) < 2 ^ width
element-lt n l vs p i d h = each-lt l p.0 p.1.1 i d (subst (λ (m : ℕ). i < m) (sym p.1.0.1) h)
