-- `zseq::answer` meets its contract: what was read is the input, and of the line buffer what `reply` says is written.
use Rattle.std.proofs.Common.{rules}
use Rattle.zseq.proofs.AnswerLaws.{always-printed, written}
use Rattle.zseq.proofs.answer.Goals as goal

pub returns-in_ok-write_all : goal.returns-in_ok-write_all
returns-in_ok-write_all g c =
    written c.read_full-n.result.1 _ _ _ _ _ _ c.read_full-n.ensures.inside (search rules) (search rules) (search rules) c.read_full-n.ensures.bytes
    c.read_full-n.ensures.whole c.in-Some.ensures c.in_ok-write_all.ensures.bytes

pub returns-in_default : goal.returns-in_default
returns-in_default g c = absurd (always-printed (search rules) (search rules) c.in_default.ensures)
