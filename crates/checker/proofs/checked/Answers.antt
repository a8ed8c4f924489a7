-- `checker::checked` meets its contract: the refusals of the question, of the header and of the steps, in their order.
use Rattle.std.proofs.lemmas.Result.{err_from_is_err_and}
use Rattle.checker.proofs.CheckLaws.{before-question, no_header, other-question, after-header, by-given}
use Rattle.checker.proofs.checked.Goals as goal

pub returns-in_err-q : goal.returns-in_err-q
returns-in_err-q c =
    let p = err_from_is_err_and c.from_residual.result c.from_residual.ensures.1 in
    rw (p.1, p.2) (before-question c.args.image.now c.args.table.now c.args.certificate.now c.args.goal c.args.start _ c.in_err-q.ensures)

pub returns-then-not-fits : goal.returns-then-not-fits
returns-then-not-fits c =
    rw c.into.ensures
    (no_header c.args.image.now c.args.table.now c.args.certificate.now c.args.goal c.args.start c.in_ok-q.ensures.clear c.if-not-fits.ensures)

pub returns-then-not-names : goal.returns-then-not-names
returns-then-not-names c =
    rw c.into-then-not-names.ensures
    (other-question c.args.image.now c.args.table.now c.args.certificate.now c.args.goal c.args.start c.in_ok-q.ensures.clear c.if-not-fits.ensures
    c.if-not-names.ensures)

pub returns : goal.returns
returns c =
    after-header c.args.image.now c.args.table.now c.args.certificate.now c.args.goal c.args.start c.in_ok-q.ensures.clear c.if-not-fits.ensures
    c.if-not-names.ensures c.steps_of.result (by-given c.args.certificate.now c.steps_of.result c.in_ok-q.ensures c.steps_of.ensures)
