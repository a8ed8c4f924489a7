-- `checker::steps_of` meets its contract: how far the reading of the steps came, in each arm of what `read` answered.
use mathlib.Core.Path.{ap, ◌∙◌}
use Rattle.std.specs.Prelude.{Err}
use Rattle.checker.proofs.CheckLaws.{question-lent, question-hand, reading-is, missing, wrong, fails, remain, whole}
use Rattle.checker.proofs.steps_of.Goals as goal

pub invariant_of-steps : goal.invariant_of-steps
invariant_of-steps c = record { lent = question-lent c.requires.0 _ c.empty-all.ensures c.decode.ensures _ c.prepare.ensures }

pub read-requires : goal.read-requires
read-requires c = question-hand c.requires.0

pub returns-in-Ok : goal.returns-in-Ok
returns-in-Ok c =
    let is = reading-is c.args.image.now c.args.table.now c.args.certificate.now c.args.q.goal c.args.q.start c.byte-side.ensures
    c.in-Ok.ensures in
    remain c.args.certificate.now is c.if-end-certificate.true

pub returns-in-Ok-2 : goal.returns-in-Ok-2
returns-in-Ok-2 c =
    let is = reading-is c.args.image.now c.args.table.now c.args.certificate.now c.args.q.goal c.args.q.start c.byte-side.ensures
    c.in-Ok.ensures in
    whole c.requires.0.clear c.args.certificate.now c.requires.1 is c.if-end-certificate.false c.byte-side.ensures

pub returns-in-Err-Missing : goal.returns-in-Err-Missing
returns-in-Err-Missing c =
    let is = reading-is c.args.image.now c.args.table.now c.args.certificate.now c.args.q.goal c.args.q.start c.byte-side.ensures
    c.in-Err-Missing.ensures in
    missing c.args.certificate.now (is ∙ ap Err c.in-Err-Missing.field-0-is)

pub returns-in-Err-Wrong : goal.returns-in-Err-Wrong
returns-in-Err-Wrong c =
    let is = reading-is c.args.image.now c.args.table.now c.args.certificate.now c.args.q.goal c.args.q.start c.byte-side.ensures
    c.in-Err-Wrong.ensures in
    wrong c.args.certificate.now (is ∙ ap Err c.in-Err-Wrong.field-0-is)

pub returns-in-Err-Fails : goal.returns-in-Err-Fails
returns-in-Err-Fails c =
    let is = reading-is c.args.image.now c.args.table.now c.args.certificate.now c.args.q.goal c.args.q.start c.byte-side.ensures
    c.in-Err-Fails.ensures in
    fails c.args.certificate.now (is ∙ ap Err c.in-Err-Fails.field-0-is)
