-- `reply::write` meets its contract: what is written of the parts that were found is the input's.
-- Assumes nothing.
use Rattle.reply.proofs.ReplyLaws.{parts-wrote}
use Rattle.reply.proofs.write.Goals as goal

pub returns : goal.returns
returns c = parts-wrote c.in_ok-p.p c.write.result c.in_ok-p.ensures c.write.ensures
