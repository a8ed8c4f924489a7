-- `hand::setup::decode` meets its contract. The loop's invariant: the first i sets are put in.
use Rattle.hand.specs.Setup.{Decoded}
use Rattle.hand.proofs.setup.decode.Given as goal

abbrev pub invariant-loop-i : goal.invariant-loop-i
invariant-loop-i l = Decoded l.image l.i l.initial.row l.row
