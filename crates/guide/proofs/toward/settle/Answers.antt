-- `guide::toward::settle` meets its contract. The loop's invariant: the new stages that are not still to come are led to their lowest successor in the
-- set.
use native.Mathlib.Omega.{arith}
use Rattle.sets.proofs.LawsFits.{number_lt}
use Rattle.sets.proofs.LawsWalk.{walk-begins}
use Rattle.guide.proofs.TowardLaws.{settle-start, settle-stage, settle-turn, settle-end}
use Rattle.guide.proofs.toward.settle.Goals as goal

pub loop-s-init : goal.loop-s-init
loop-s-init c =
    settle-start _ _ _ _ (number_lt _ _ c.well_formed.1.0) c.requires.1
    (walk-begins c.into_iter-s-iterator.ensures.into_iter_gives c.stages-s-items.ensures)

pub bounds-toward-s : goal.bounds-toward-s
bounds-toward-s c =
    let below = settle-stage _ _ _ _ c.loop-s.invariant c.in-Some.ensures.steps in
    omega (arith, below, c.loop-s.invariant.filled.size, c.requires.0)

pub loop-s-preserved : goal.loop-s-preserved
loop-s-preserved c = settle-turn _ _ _ _ c.loop-s.invariant c.in-Some.ensures.steps _ c.requires.0 c.lowest_next.ensures

pub returns : goal.returns
returns c = settle-end _ _ _ _ c.loop-s.invariant c.in-None.ensures.steps.0
