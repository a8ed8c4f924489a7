-- `guide::ex` meets its contract: the lowest successor in the set of a.
use Rattle.guide.proofs.LeadLaws.{ex-leads}
use Rattle.guide.proofs.ex.Goals as goal

pub returns : goal.returns
returns c =
    ex-leads c.args.setup.now.row _ c.where_on.ensures c.requires.1 c.lowest_next.ensures
