-- `hand::setup::prepare` meets its contract. The loop's invariant: the first e entries are prepared.
use Rattle.hand.specs.Setup.{Prepared}
use Rattle.hand.proofs.setup.prepare.Given as goal

abbrev pub invariant-loop-e : goal.invariant-loop-e
invariant-loop-e l = Prepared l.image l.table l.e l.side l.initial.entries l.entries
