-- Document 01, "Stored forms", the table of kinds: the kinds of formulas, and their numbers.
use Rattle.std.specs.Prelude.{ℕ}

pub data Kind : Type 0 where
  True False Is IsNot And Or AX EX AF EG AR EU : Kind

abbrev pub number : Kind → ℕ
number True = 0
number False = 1
number Is = 2
number IsNot = 3
number And = 4
number Or = 5
number AX = 6
number EX = 7
number AF = 8
number EG = 9
number AR = 10
number EU = 11
