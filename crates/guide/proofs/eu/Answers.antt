-- `guide::eu` meets its contract: the row is filled by rounds from the nows.
use Rattle.guide.proofs.LeadLaws.{eu-leads}
use Rattle.guide.proofs.eu.Goals as goal

pub returns : goal.returns
returns c =
    eu-leads c.args.setup.now.row _ _ c.where_on-along.ensures c.where_on-now.ensures c.nearest.ensures
