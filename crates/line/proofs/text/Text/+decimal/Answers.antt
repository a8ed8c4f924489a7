-- `line::text::Text::decimal` meets its contract: the digits of the tenth and then the last one. The measure is the number.
-- Assumes nothing.
use native.Mathlib.Omega.{arith}
use Rattle.line.proofs.LineLaws.{put-room, decimal_digit, decimal-digits, length-small, length_more}
use Rattle.line.proofs.text.Text.+decimal.Goals as goal
use Rattle.line.proofs.text.Text.+decimal.Goals.{then-n-ge10, else-n-ge10}

pub decimal-requires : goal.decimal-requires
decimal-requires t c = omega (arith, c.decreases, length_more c.args.n c.if-n-ge10.true)

pub byte-requires : goal.byte-requires
byte-requires t c =
    elim c.if-n-ge10.branch [
      | then-n-ge10 w ↦
          rw w.self-is
          (let room = put-room 1 w.decimal.ensures (omega (arith, c.requires, length_more c.args.n w.if-n-ge10.true)) in omega arith)
      | else-n-ge10 w ↦ rw w.self-is (omega (arith, c.requires, length-small c.args.n w.if-n-ge10.false))
    ]

pub returns : goal.returns
returns t c =
    elim c.if-n-ge10.branch [
      | then-n-ge10 w ↦ decimal-digits c.args.n w.if-n-ge10.true w.decimal.ensures (rw w.self-is at c.byte.ensures)
      | else-n-ge10 w ↦ decimal_digit c.args.n w.if-n-ge10.false (rw w.self-is at c.byte.ensures)
    ]
