-- `checker::steps::Steps::leaf` meets its contract: one step, and no premises.
use mathlib.Core.Path.{refl}
use Rattle.std.proofs.lemmas.Result.{err_from_is_err_and}
use Rattle.checker.proofs.ArmLaws.{arm-of, arm-kind}
use Rattle.checker.proofs.LeafLaws.{leaf-stage, leaf-unread, leaf-refused, leaf-taken}
use Rattle.checker.proofs.steps.Steps.leaf.Goals as goal

pub returns-in_err-rule : goal.returns-in_err-rule
returns-in_err-rule c =
    let fault = err_from_is_err_and c.from_residual.result c.from_residual.ensures.1 in
    rw (fault.1, fault.2) (leaf-unread c.args.self.now.lent c.requires.0 c.requires.1 _ _ {set = 0} refl refl c.read_head.ensures _ c.in_err-rule.was)

pub allows-requires : goal.allows-requires
allows-requires c =
    let lent = c.args.self.now.lent in
    let arm = arm-of lent c.requires.0 _ _ refl c.read_head.ensures c.in_ok-rule.was in
    (leaf-stage lent c.requires.0 c.requires.1, arm-kind lent c.requires.0 arm)

pub returns-then-not-allows : goal.returns-then-not-allows
returns-then-not-allows c =
    let lent = c.args.self.now.lent in
    let arm = arm-of lent c.requires.0 _ _ refl c.read_head.ensures c.in_ok-rule.was in
    leaf-refused lent c.requires.0 c.requires.1 arm c.fresh_walk.ensures c.allows.ensures c.if-not-allows.true

pub returns : goal.returns
returns c =
    let lent = c.args.self.now.lent in
    let arm = arm-of lent c.requires.0 _ _ refl c.read_head.ensures c.in_ok-rule.was in
    leaf-taken lent c.requires.0 c.requires.1 arm c.fresh_walk.ensures c.allows.ensures c.if-not-allows.false
