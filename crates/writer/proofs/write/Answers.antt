-- `writer::write` meets its contract: the refusal of the question, or what is answered to it.
use Rattle.std.proofs.lemmas.Result.{err_from_is_err_and}
use Rattle.writer.proofs.AnswerLaws.{question-refused}
use Rattle.writer.proofs.write.Goals as goal

pub returns-in_err-q : goal.returns-in_err-q
returns-in_err-q c =
    let p = err_from_is_err_and c.from_residual.result c.from_residual.ensures.1 in
    rw (p.1, p.2) (question-refused c.args.image.now c.args.table.now c.args.goal c.args.start c.args.buffer.now c.in_err-q.ensures)
