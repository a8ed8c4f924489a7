-- `hand::setup::atom` meets its contract: the entry's arity says which set is asked.
use Rattle.hand.specs.Environment.{env_of}
use Rattle.hand.proofs.EntryLaws.{from-two, from_one}
use Rattle.hand.proofs.setup.atom.Goals as goal

pub returns-then-p-eq2 : goal.returns-then-p-eq2
returns-then-p-eq2 c =
    from-two c.args.sets.now c.args.p.now (env_of c.args.env) c.stage_of-t.ensures c.if-p-eq2.true c.stage_of-b.ensures c.set.ensures c.has.ensures

pub returns-else-p-eq2 : goal.returns-else-p-eq2
returns-else-p-eq2 c =
    from_one c.args.sets.now c.args.p.now (env_of c.args.env) c.stage_of-t.ensures c.if-p-eq2.false c.set-else-p-eq2.ensures c.has-else-p-eq2.ensures
