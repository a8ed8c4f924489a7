-- `line::text::Text::hex` meets its contract. The invariant of its loop: the first bytes stand in the buffer in hex.
-- Assumes nothing.
use native.Mathlib.Omega.{arith}
use Rattle.line.specs.Text.{hex}
use Rattle.line.proofs.LineLaws.{put_none, put-room, hex-room, hex-more}
use Rattle.line.proofs.text.Text.hex.Goals as goal

pub loop-b-init : goal.loop-b-init
unfolding hex
loop-b-init c = put_none _ (omega arith)

pub byte-requires : goal.byte-requires
byte-requires c = omega (arith, hex-room _ _ c.loop-b-test.true c.requires c.loop-b.invariant)

pub byte-requires-in-loop-b : goal.byte-requires-in-loop-b
byte-requires-in-loop-b c =
    omega (arith, put-room 1 c.byte.ensures (omega (arith, hex-room _ _ c.loop-b-test.true c.requires c.loop-b.invariant)))

pub loop-b-preserved : goal.loop-b-preserved
loop-b-preserved c =
    hex-more _ _ c.loop-b-test.true c.hex_digit.ensures c.hex_digit-in-loop-b.ensures c.loop-b.invariant c.byte.ensures c.byte-in-loop-b.ensures
