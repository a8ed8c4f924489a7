-- `verdict::setup::Setup::where_literal` meets its contract: the atom's own stages, or the stages that are not among them.
use Rattle.verdict.proofs.CollectLaws.{collects-lacks}
use Rattle.verdict.proofs.setup.Setup.where_literal.Goals as goal

pub returns-then-plain : goal.returns-then-plain
returns-then-plain c = rw c.if-plain.true c.where_atom-s.ensures

pub returns-else-plain : goal.returns-else-plain
returns-else-plain c =
    rw c.if-plain.false (collects-lacks _ c.args.self.now.row.room c.below.ensures c.where_atom-s.ensures c.minus.ensures)
