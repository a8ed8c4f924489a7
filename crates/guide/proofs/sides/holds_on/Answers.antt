-- `guide::sides::holds_on` meets its contract: the verdict's truth value, negated on a side other than 0.
use Rattle.guide.proofs.SideLaws.{truth-side}
use Rattle.guide.proofs.sides.holds_on.Goals as goal

pub returns : goal.returns
returns c =
    truth-side c.args.setup.now.image.now c.args.setup.now.table.now c.args.e c.args.env c.args.side _ c.holds.ensures
