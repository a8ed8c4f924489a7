-- `line::refused` meets its contract: the word, a space, the number and a line feed; or nothing, where they have no room.
-- Assumes nothing.
use Rattle.std.proofs.Common.{rules, refl}
use Rattle.line.proofs.LineLaws.{refusal-line}
use Rattle.line.proofs.refused.Goals as goal

pub returns : goal.returns
returns c =
    let line = refusal-line c.args.k c.from-n.result c.from-n.ensures refl c.word.ensures c.decimal.ensures c.byte.ensures in
    search (rules, line)
