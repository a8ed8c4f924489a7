-- `modal::rounds` meets its contract. The loop's invariant: x is what so many rounds from the start give. Where a round changes nothing the rounds left would
-- change nothing either.
use native.Mathlib.Omega.{arith}
use Rattle.sets.proofs.LawsRow.{equal-number}
use Rattle.modal.proofs.LawsRounds.{loop-start, loop-more, loop-rest}
use Rattle.modal.proofs.rounds.Goals as goal

pub loop-init : goal.loop-init
loop-init g c = loop-start _ c.below.ensures c.common-x.ensures

pub returns-then-eq : goal.returns-then-eq
returns-then-eq g c = loop-rest _ _ c.loop.invariant c.round-y.ensures (equal-number c.loop.x c.round-y.result c.eq.ensures c.if-eq.true) (omega arith)

pub loop-preserved : goal.loop-preserved
loop-preserved g c = loop-more _ _ c.loop.invariant c.round-y.ensures
