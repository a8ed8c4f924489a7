-- `verdict::goal_holds` meets its contract: the row is decoded, and the test of the goal is asked where the variables start.
use lib.Dec.{lit≤}
use Rattle.verdict.proofs.AnswerLaws.{asked-ruled, question-ready, question-row, goal-test}
use Rattle.verdict.proofs.goal_holds.Goals as goal

pub invariant_of-setup : goal.invariant_of-setup
invariant_of-setup c =
    record { row = question-row c.requires (lit≤ tt) c.decode.ensures; ruled = asked-ruled c.requires.clear }

pub holds-requires : goal.holds-requires
holds-requires c =
    question-ready c.requires.clear (question-row c.requires (lit≤ tt) c.decode.ensures)

pub returns : goal.returns
returns c =
    goal-test c.args.image.now c.args.table.now c.args.q.goal c.args.q.start c.holds.ensures
