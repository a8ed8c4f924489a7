-- Document 01's line and input, and others at the edges, on the definitions that the contracts cite. Each is computed.
--
--     lines                            the lines of the marked cases 1 to 4
--     refusals                         the lines of the marked cases 5 to 8, and of 1 and 16
--     numbers, digits                  numbers in decimal, and the hex digits
--     input                            the input of the marked case 1
--     at-limit, past-limit             16,384 bytes of the right shape are taken, and 16,385 are not
--     nothing-there, one-short, smallest, one_more
--                                      no bytes at all; the smallest input, one byte less and one more
--
-- Assumes nothing.
use Prim.Native.Nat.{ℕ, ◌+◌, ◌≤◌, ◌<◌}
use native.Mathlib.Omega.{arith}
use mathlib.Core.Path.{◌≡◌, refl, ap}
use mathlib.Core.List.{List, [], ◌∷◌, ◌++◌, map}
use lib.Dec.{lit≤}
use lib.ListN.{length, replicate, length-replicate}
use Rattle.format.specs.Example.{example_image, example_table}
use Rattle.format.specs.declared.Refusal.TheVariants as R
use Rattle.line.specs.Framing.{framed, Framed, OfShape}
use Rattle.line.specs.Text.{ascii, decimal, decimal_within, hex_digit, hex}
use Rattle.line.specs.Line.{line_of, refusal_line}
use Rattle.line.proofs.FramingLaws.{framed-length, too-long}

-- A certificate of the example: the header with a side, goal and start, and the steps.
abbrev certificate : ℕ → ℕ → ℕ → List ℕ → List ℕ
certificate side goal start steps = 0x5A ∷ 0x53 ∷ 0x43 ∷ 0x00 ∷ 0x01 ∷ side ∷ goal ∷ start ∷ steps

-- The lines of document 01 and of the marked cases 2 to 4.
pub lines :
    (line_of 0 (certificate 0 2 0 (0x10 ∷ 0x01 ∷ 0x00 ∷ 0x10 ∷ 0x02 ∷ 0x00 ∷ 0x0F ∷ 0x01 ∷ [])) ≡ ascii "yes 16 5A534300010002001001001002000F01\n")
    × (line_of 1 (certificate 1 4 0 (0x0A ∷ 0x00 ∷ 0x02 ∷ 0x0B ∷ [])) ≡ ascii "no 12 5A534300010104000A00020B\n")
    × (line_of 0 (certificate 0 4 2 (0x08 ∷ 0x01 ∷ [])) ≡ ascii "yes 10 5A534300010004020801\n")
    × (line_of 0 (certificate 0 1 1 (0x00 ∷ [])) ≡ ascii "yes 9 5A5343000100010100\n")
unfolding decimal decimal_within hex
lines = (refl, refl, refl, refl)

pub refusals :
    (refusal_line R.FreeVariable ≡ ascii "refused 13\n")
    × (refusal_line R.NoSuchGoal ≡ ascii "refused 11\n")
    × (refusal_line R.NoSuchStart ≡ ascii "refused 12\n")
    × (refusal_line R.BufferTooShort ≡ ascii "refused 14\n")
    × (refusal_line R.ImageStart ≡ ascii "refused 1\n")
    × (refusal_line R.NotOfShape ≡ ascii "refused 16\n")
unfolding decimal decimal_within
refusals = (refl, refl, refl, refl, refl, refl)

-- Numbers in decimal, up to the largest of 64 bits.
pub numbers :
    (decimal 0 ≡ ascii "0")
    × (decimal 9 ≡ ascii "9")
    × (decimal 10 ≡ ascii "10")
    × (decimal 100 ≡ ascii "100")
    × (decimal 32768 ≡ ascii "32768")
    × (decimal 18446744073709551615 ≡ ascii "18446744073709551615")
unfolding decimal decimal_within
numbers = (refl, refl, refl, refl, refl, refl)

-- The hex digits, in their order.
pub digits : map hex_digit (0 ∷ 1 ∷ 2 ∷ 3 ∷ 4 ∷ 5 ∷ 6 ∷ 7 ∷ 8 ∷ 9 ∷ 10 ∷ 11 ∷ 12 ∷ 13 ∷ 14 ∷ 15 ∷ []) ≡ ascii "0123456789ABCDEF"
digits = refl

-- The input of the marked case 1: 40 bytes of image, 36 of table, goal 2 and start 0.
pub input : Framed example_image example_table 2 0 ((0 ∷ 40 ∷ []) ++ (example_image ++ ((0 ∷ 36 ∷ []) ++ (example_table ++ (2 ∷ 0 ∷ [])))))
input = record { is = refl; most = lit≤ tt }

-- An input of the right shape with an image of so many bytes.
abbrev long : ℕ → List ℕ
long n = framed (replicate n 0) [] 0 0

long-length : (n : ℕ) → length (long n) ≡ 6 + n
long-length n = omega (arith, framed-length (replicate n 0) [] 0 0, length-replicate {A = ℕ} n 0)

long-taken : (n : ℕ) → 6 + n ≤ 16384 → OfShape (long n)
long-taken n h = record {
  image = replicate n 0;
  table = [];
  goal = 0;
  start = 0;
  parts = record { is = refl; most = omega (arith, long-length n) };
}

long-refused : (n : ℕ) → 16384 < 6 + n → OfShape (long n) → ⊥
long-refused n h o = omega (arith, long-length n, o.parts.most)

-- 16,384 bytes in all are taken, one byte more is not.
pub at-limit : (length (long 16378) ≡ 16384) × OfShape (long 16378)
at-limit = (long-length 16378, long-taken 16378 (lit≤ tt))

pub past-limit : (length (long 16379) ≡ 16385) × (OfShape (long 16379) → ⊥)
past-limit = (long-length 16379, long-refused 16379 (lit≤ tt))

-- No bytes at all; the smallest input, one byte less and one more.
pub nothing-there : OfShape [] → ⊥
nothing-there o = cc (o.parts.is)

pub one-short : OfShape (0 ∷ 0 ∷ 0 ∷ 0 ∷ 2 ∷ []) → ⊥
one-short o = omega (arith, ap length o.parts.is, framed-length o.image o.table o.goal o.start)

pub smallest : Framed [] [] 2 0 (0 ∷ 0 ∷ 0 ∷ 0 ∷ 2 ∷ 0 ∷ [])
smallest = record { is = refl; most = lit≤ tt }

pub one_more : OfShape (0 ∷ 0 ∷ 0 ∷ 0 ∷ 2 ∷ 0 ∷ 0 ∷ []) → ⊥
one_more = too-long [] [] 2 0 0 []
