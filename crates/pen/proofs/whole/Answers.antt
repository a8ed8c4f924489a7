-- `pen::whole` meets its contract: the header, and then the steps.
use borrow.Author.Rules.{rules}
use Rattle.pen.proofs.WroteLaws.{wrote-both}
use Rattle.pen.proofs.whole.Goals as goal

pub returns : goal.returns
returns c =
    let w = wrote-both c.header.ensures.wrote c.formula.ensures.wrote in
    search (rules, w)
