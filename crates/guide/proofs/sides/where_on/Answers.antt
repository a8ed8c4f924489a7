-- `guide::sides::where_on` meets its contract: the verdict's set, and on a side other than 0 the stages that are not in it.
use Rattle.guide.proofs.SideLaws.{where-dual}
use Rattle.guide.proofs.sides.where_on.Goals as goal

pub returns-else-side-eq0 : goal.returns-else-side-eq0
returns-else-side-eq0 c =
    where-dual c.args.setup.now.image.now c.args.setup.now.table.now c.args.a.entry c.args.env c.args.side _ _ c.if-side-eq0.false c.args.setup.now.row.room
    c.below.ensures c.where_holds-held.ensures c.minus.ensures
