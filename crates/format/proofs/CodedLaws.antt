-- The coding for callers in C tells answers apart as far as their own numbers do: no refusal has a number of 128 or more.
--
-- Assumes nothing.
use Prim.Native.Nat.{ℕ}
use native.Mathlib.Omega.{arith}
use mathlib.Core.Path.{◌≡◌, refl, ap}
use Rattle.std.specs.Prelude.{Result, Ok, Err}
use Rattle.format.specs.Coded.{coded_by}
use Rattle.format.specs.declared.Refusal.{Refusal}
use Rattle.format.proofs.RefusalLaws.{number-injective, number_small}

-- Two answers of one code are one, if two that are no refusals are one where their own numbers are.
pub coded_by-told : {A : Type 0} (extra : A → ℕ) (r s : Result A Refusal) → ((a b : A) → r ≡ Ok a → s ≡ Ok b → extra a ≡ extra b → a ≡ b)
    → coded_by extra r ≡ coded_by extra s → r ≡ s
coded_by-told extra (Ok a) (Ok b) own e = ap Ok (own a b refl refl (omega (arith, e)))
coded_by-told extra (Ok a) (Err k) own e = absurd (omega (arith, e, number_small k))
coded_by-told extra (Err j) (Ok b) own e = absurd (omega (arith, e, number_small j))
coded_by-told extra (Err j) (Err k) own e = ap Err (number-injective j k e)
