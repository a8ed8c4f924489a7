-- `verdict::setup::Setup::settled` meets its contract: "and" is settled by the empty set, "or" by every stage below n.
use Rattle.sets.specs.Number.{number}
use Rattle.verdict.proofs.CollectLaws.{settled-all}
use Rattle.verdict.proofs.setup.Setup.settled.Goals as goal

pub returns-else-first : goal.returns-else-first
returns-else-first c =
    settled-all c.subset.result c.args.self.now.stages (number c.args.a) c.if-first.false c.args.self.now.row.room c.below.ensures
    c.subset.ensures
