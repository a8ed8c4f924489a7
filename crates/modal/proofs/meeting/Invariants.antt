-- `modal::meeting` meets its contract. The loop's invariant: of the stages asked, those that are found, and those still to come whose successors
-- meet what is wanted, are all whose successors do.
use Rattle.sets.specs.Number.{number}
use Rattle.sets.proofs.LawsWalk.{Gathered}
use Rattle.modal.proofs.LawsNext.{meets?}
use Rattle.modal.proofs.meeting.Given as goal

abbrev pub invariant-loop-s : goal.invariant-loop-s
invariant-loop-s l = Gathered (number l.fn.among) (meets? l.next (number l.wanted)) (number l.s-iterator.left) (number l.found)
