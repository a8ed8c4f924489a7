-- `verdict::setup::Setup::all_or_none` meets its contract: the stages below n, or the empty set.
use Rattle.verdict.proofs.CollectLaws.{collects-all}
use Rattle.verdict.proofs.setup.Setup.all_or_none.Goals as goal

pub returns-then-all : goal.returns-then-all
returns-then-all c = rw c.if-all.true (collects-all c.args.self.now.row.room c.below.ensures)
