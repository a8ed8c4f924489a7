-- `verdict::setup::Setup::where_in` meets its contract: the set's own stages where the term names x, else what one test of membership says.
use Rattle.model.specs.Decides.{decided}
use Rattle.sets.specs.Number.{number}
use Rattle.verdict.proofs.AtomLaws.{in-named}
use Rattle.verdict.proofs.CollectLaws.{collects-clip}
use Rattle.verdict.proofs.setup.Setup.where_in.Goals as goal

pub returns-then-names : goal.returns-then-names
returns-then-names c =
    in-named (number c.args.set) c.args.t c.args.env c.args.x (decided _ c.names.ensures c.if-names.true)
    (collects-clip (number c.args.set) c.args.self.now.row.room c.below.ensures c.common.ensures)
