-- `line::text::Text::hex` meets its contract. The invariant of its loop: the first bytes stand in the buffer in hex.
-- Assumes nothing.
use lib.ListN.{take}
use Rattle.line.specs.Put.{Put}
use Rattle.line.specs.Text.{hex}
use Rattle.line.proofs.text.Text.hex.Given as goal

abbrev pub invariant-loop-b : goal.invariant-loop-b
invariant-loop-b l = Put (hex (take l.b-index l.bytes)) l.initial.self l.self
