-- `modal::meeting` meets its contract. The loop's invariant: of the stages asked, those that are found, and those still to come whose successors
-- meet what is wanted, are all whose successors do.
use mathlib.Core.Path.{refl}
use Rattle.model.specs.Decides.{decided, refuted}
use Rattle.sets.proofs.LawsFits.{number_lt}
use Rattle.sets.proofs.LawsWalk.{walk-begins, gather-start}
use Rattle.modal.proofs.LawsNext.{walk-take, walk-skip, walk_end}
use Rattle.modal.proofs.meeting.Goals as goal

pub loop-s-init : goal.loop-s-init
loop-s-init c =
    gather-start _ _ _ (number_lt _ _ c.well_formed.1.0) (walk-begins c.into_iter-s-iterator.ensures.into_iter_gives c.stages-s-items.ensures)
    c.empty-found.ensures

pub loop-s-preserved-then-not-is_empty : goal.loop-s-preserved-then-not-is_empty
loop-s-preserved-then-not-is_empty c =
    walk-take _ _ c.loop-s.invariant c.in-Some.ensures.steps c.load.ensures c.common-here.ensures (refuted _ c.is_empty.ensures c.if-not-is_empty.true)
    c.with-found.ensures

pub loop-s-preserved : goal.loop-s-preserved
loop-s-preserved c =
    walk-skip _ _ c.loop-s.invariant c.in-Some.ensures.steps c.load.ensures c.common-here.ensures (decided _ c.is_empty.ensures c.if-not-is_empty.false)
    refl

pub returns : goal.returns
returns c = walk_end _ _ c.loop-s.invariant c.in-None.ensures.steps.0
