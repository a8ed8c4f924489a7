-- `hand::setup::made` meets its contract: an atom has its predicate's arity and first set.
use Rattle.hand.proofs.EntryLaws.{made-atom, made_other}
use Rattle.hand.proofs.setup.made.Goals as goal

pub returns-then-kind-eq1 : goal.returns-then-kind-eq1
returns-then-kind-eq1 c =
    made-atom c.args.image.now c.args.side c.args.r c.number_on-kind.ensures c.if-kind-eq1.true c.byte.ensures c.first_set.ensures.is

pub returns-else-kind-eq1 : goal.returns-else-kind-eq1
returns-else-kind-eq1 c = made_other c.args.image.now c.args.side c.args.r c.number_on-kind.ensures c.if-kind-eq1.false
