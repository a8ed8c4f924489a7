-- The coding of an answer for callers in C: a refusal is its number, any other answer 128 and its own number.
use Rattle.std.specs.Prelude.{ℕ, ◌+◌, Result, Ok, Err}
use Rattle.format.specs.Refusal.{number}
use Rattle.format.specs.declared.Refusal.{Refusal}

abbrev pub coded_by : {A : Type 0} → (A → ℕ) → Result A Refusal → ℕ
coded_by extra (Ok found) = 128 + extra found
coded_by extra (Err k) = number k
