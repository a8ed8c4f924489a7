-- `modal::rounds` meets its contract. The loop's invariant: x is what so many rounds from the start give. Where a round changes nothing the rounds left would
-- change nothing either.
use Rattle.sets.specs.Number.{number}
use Rattle.modal.specs.Rounds.{Rounded}
use Rattle.modal.proofs.rounds.Given as goal

abbrev pub invariant-loop : goal.invariant-loop
invariant-loop g l = Rounded (goal.F-post g l.round) l.n l.counter (number l.fn.start) (number l.x)
