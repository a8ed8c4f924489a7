-- `guide::toward::fill` meets its contract: every stage below n is new.
use Rattle.modal.proofs.LawsMember.{inside-all}
use Rattle.guide.proofs.TowardLaws.{fill-each}
use Rattle.guide.proofs.toward.fill.Goals as goal

pub settle-requires : goal.settle-requires
settle-requires c =
    (c.requires, inside-all c.below.ensures)

pub returns : goal.returns
returns c =
    fill-each c.args.setup.now.next.now c.args.setup.now.stages _ _ c.args.setup.now.row.room c.below.ensures c.settle.ensures
