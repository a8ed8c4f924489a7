-- `verdict::verdict` meets its contract: the refusal of the question, or what the test of its goal says.
use Rattle.std.proofs.lemmas.Result.{err_from_is_err_and}
use Rattle.verdict.proofs.AnswerLaws.{yes-answer, no_answer, own-test}
use Rattle.verdict.proofs.verdict.Goals as goal

pub returns-in_err-q : goal.returns-in_err-q
returns-in_err-q c =
    let p = err_from_is_err_and c.from_residual.result c.from_residual.ensures.1 in
    rw (p.1, p.2) c.in_err-q.ensures

pub returns-then-goal_holds : goal.returns-then-goal_holds
returns-then-goal_holds c = yes-answer c.in_ok-q.ensures.clear (own-test c.in_ok-q.ensures c.goal_holds.ensures c.if-goal_holds.true)

pub returns-else-goal_holds : goal.returns-else-goal_holds
returns-else-goal_holds c = no_answer c.in_ok-q.ensures.clear (own-test c.in_ok-q.ensures c.goal_holds.ensures c.if-goal_holds.false)
