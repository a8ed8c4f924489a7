-- Document 01, "The example graph": numbers in decimal and bytes in upper-case hex, as text. A text is a list of bytes.
use Rattle.std.specs.Prelude.{ℕ, zero, suc, ◌+◌, ◌-◌, ◌*◌, ◌/◌, ◌%◌, ◌≤◌, ◌≡◌, Bool, true, false, List, [], ◌∷◌, ◌++◌, ltb, length}
use Prim.Native.Char.{code}
use Prim.Native.String.{String}
use Prim.Native.String as S
use Rattle.model.specs.Formula.{pick}

-- A text, as its bytes.
abbrev pub ascii : String → List ℕ
ascii S.[] = []
ascii (S.◌∷◌ c text) = code c ∷ ascii text

-- The digits `0` to `9` are the bytes 48 to 57.
abbrev pub digit : ℕ → ℕ
digit d = 48 + d

-- Every byte of a text is one of them.
abbrev pub Digits : List ℕ → Type 0
Digits [] = Unit {0}
Digits (b ∷ text) = (48 ≤ b) × (b ≤ 57) × Digits text

-- What digits are worth, after some that are worth so much.
abbrev pub worth_from : ℕ → List ℕ → ℕ
worth_from so_far [] = so_far
worth_from so_far (b ∷ text) = worth_from (so_far * 10 + (b - 48)) text

abbrev pub worth : List ℕ → ℕ
worth text = worth_from 0 text

-- There is a digit, and where there are more the first is not `0`.
abbrev pub NoLeadingZero : List ℕ → Type 0
NoLeadingZero [] = ⊥
NoLeadingZero (b ∷ []) = Unit {0}
NoLeadingZero (b ∷ c ∷ text) = b ≡ 48 → ⊥

-- What it is for a text to be a number in decimal.
pub record InDecimal (n : ℕ) (text : List ℕ) : Type 0 where
  pub digits : Digits text
  pub is : worth text ≡ n
  pub leading : NoLeadingZero text

abbrev pub pick_text : Bool → List ℕ → List ℕ → List ℕ
pick_text true a b = a
pick_text false a b = b

-- That text: below ten the digit, else the decimal of the tenth and then the last digit. `most` bounds how many digits stand before the last.
unfoldable pub decimal_within : ℕ → ℕ → List ℕ
decimal_within zero n = digit n ∷ []
decimal_within (suc most) n =
    let longer = decimal_within most (n / 10) ++ (digit (n % 10) ∷ []) in pick_text (ltb n 10) (digit n ∷ []) longer

unfoldable pub decimal : ℕ → List ℕ
decimal n = decimal_within n n

-- The upper-case hex digits: `0` to `9`, then `A` to `F`, which are the bytes 65 to 70.
abbrev pub hex_digit : ℕ → ℕ
hex_digit d = pick (ltb d 10) (48 + d) (55 + d)

-- Bytes in hex: two digits for each.
unfoldable pub hex : List ℕ → List ℕ
hex [] = []
hex (b ∷ bytes) = hex_digit (b / 16) ∷ hex_digit (b % 16) ∷ hex bytes

-- What the code gives for the number of digits; a 64-bit number has 20 at most.
pub record DigitCount (n r : ℕ) : Type 0 where
  pub is : r ≡ length (decimal n)
  pub most : r ≤ 20
