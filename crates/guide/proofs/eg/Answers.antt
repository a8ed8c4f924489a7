-- `guide::eg` meets its contract: the row is filled from the stages at which EG holds.
use Rattle.guide.proofs.LeadLaws.{eg-leads}
use Rattle.guide.proofs.eg.Goals as goal

pub returns : goal.returns
returns c =
    eg-leads c.args.setup.now.row _ c.where_on-held.ensures c.eg.ensures c.fill.ensures
