-- `hand::setup::decode` meets its contract. The loop's invariant: the first i sets are put in.
use Rattle.hand.proofs.SetupLaws.{decoded-start, decoded-more, decoded-end}
use Rattle.hand.proofs.setup.decode.Goals as goal

pub loop-i-init : goal.loop-i-init
loop-i-init c = decoded-start _ _

pub loop-i-preserved : goal.loop-i-preserved
loop-i-preserved c = decoded-more c.loop-i.invariant c.set.ensures c.store.ensures

pub returns : goal.returns
returns c = decoded-end c.loop-i.auto.i-end c.loop-i-test.false c.loop-i.invariant
