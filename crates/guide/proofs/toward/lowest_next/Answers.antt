-- `guide::toward::lowest_next` meets its contract: the lowest stage of what the successors and the set have in common, if it is below n.
use Rattle.guide.proofs.TowardLaws.{lowest-found, lowest-lacks}
use Rattle.guide.proofs.toward.lowest_next.Goals as goal

pub returns-then-low-setup : goal.returns-then-low-setup
returns-then-low-setup c =
    lowest-found c.args.setup.now.next.now c.args.setup.now.stages _ c.args.s c.load.ensures
    c.common.ensures c.lowest-low.ensures c.args.setup.now.row.room c.if-low-setup.true

pub returns-else-low-setup : goal.returns-else-low-setup
returns-else-low-setup c =
    lowest-lacks c.args.setup.now.next.now c.args.setup.now.stages _ c.args.s c.load.ensures
    c.common.ensures c.lowest-low.ensures c.if-low-setup.false
