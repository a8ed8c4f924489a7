-- The readers of steps, `checker::steps`, meet their contracts: one proof for the whole cycle of calls.
use native.Mathlib.Omega.{arith}
use mathlib.Core.Path.{refl, ◌∙◌}
use mathlib.Core.Logic.{⊎_elim}
use Rattle.std.specs.Prelude.{Ok}
use Rattle.std.proofs.lemmas.Result.{err_from_is_err_and}
use Rattle.sets.proofs.LawsFits.{number_lt}
use Rattle.sets.proofs.LawsWalk.{walk-begins}
use Rattle.sets.proofs.LawsCount.{ones-zero}
use Rattle.checker.proofs.ArmLaws.{a-bound, onto, stage-room, start_is, from-its-start, head-unread, arm-of, arm-kind, arm-fails}
use Rattle.checker.proofs.ConditionLaws.{and-left, off-walk}
use Rattle.checker.proofs.TakenLaws.{passed-of, its-a, its-b, a-now, b-now, keeps, granted, taken, going-on, goes-on}
use Rattle.checker.proofs.EachLaws.{each_start, each-stage, each_next, each-stops, each-end}
use Rattle.checker.proofs.ReadingLaws.{from_start, stays, goes}
use Rattle.checker.proofs.WalkLaws.{grows, along-on}
use Rattle.checker.proofs.steps.Steps.+formula_walk.Goals as goal

-- ---- `formula`

pub formula-walk-requires : goal.formula-walk-requires
formula-walk-requires t c = (
  omega (arith, c.decreases, (ones-zero _).1 c.fresh_walk.ensures),
  from-its-start c.args.self.now.lent c.requires c.start.ensures,
)

pub formula-returns : goal.formula-returns
formula-returns t c =
    let self = c.args.self.now in
    from_start self.image.now self.table.now self.bytes.now self.side _ refl _ (Ok c.args.at.now) c.fresh_walk.ensures
    (start_is self.lent c.requires c.start.ensures) c.walk.ensures

-- ---- `walk`: no rule, a condition that fails, and no premises

pub walk-returns-in_err-rule : goal.walk-returns-in_err-rule
walk-returns-in_err-rule t c =
    let fault = err_from_is_err_and c.from_residual.result c.from_residual.ensures.1 in
    rw (fault.1, fault.2) (head-unread c.args.self.now.lent c.requires.hand _ _ refl c.read_head.ensures _ _ _ c.in_err-rule.was)

pub walk-allows-requires : goal.walk-allows-requires
walk-allows-requires t c =
    let lent = c.args.self.now.lent in
    let hand = c.requires.hand in
    (c.requires, arm-kind lent hand (arm-of lent hand _ _ refl c.read_head.ensures c.in_ok-rule.was))

pub walk-returns-then-not-allows : goal.walk-returns-then-not-allows
walk-returns-then-not-allows t c =
    let lent = c.args.self.now.lent in
    let hand = c.requires.hand in
    arm-fails lent hand (arm-of lent hand _ _ refl c.read_head.ensures c.in_ok-rule.was) _ _ c.allows.ensures c.if-not-allows.true

pub walk-returns-in-True : goal.walk-returns-in-True
walk-returns-in-True t c =
    let passed = passed-of c.args.self.now.lent c.requires refl c.read_head.ensures c.in_ok-rule.was c.allows.ensures c.if-not-allows.false in
    ⊎_elim (λ i. taken passed i refl)
    (⊎_elim (λ i. taken passed i refl)
    (⊎_elim (λ i. taken passed i refl)
    (⊎_elim (λ i. taken passed i refl) (λ i. taken passed i refl)))) c.in-True.is

-- ---- `walk`, "and" and "or"

pub walk-formula-requires : goal.walk-formula-requires
walk-formula-requires t c =
    let passed = passed-of c.args.self.now.lent c.requires refl c.read_head.ensures c.in_ok-rule.was c.allows.ensures c.if-not-allows.false in
    let op = its-a passed (keeps passed c.in-And.is).a refl in
    (omega (arith, c.decreases, op.lower), op.hand)

pub walk-returns-in_err-formula-in-And : goal.walk-returns-in_err-formula-in-And
walk-returns-in_err-formula-in-And t c =
    let passed = passed-of c.args.self.now.lent c.requires refl c.read_head.ensures c.in_ok-rule.was c.allows.ensures c.if-not-allows.false in
    let fault = err_from_is_err_and c.from_residual-in_err-formula-in-And.result c.from_residual-in_err-formula-in-And.ensures.1 in
    let op = its-a passed (keeps passed c.in-And.is).a refl in
    rw (fault.1, fault.2) (taken passed c.in-And.is (stays _ (op.reads _ c.in_err-formula-in-And.ensures)))

pub walk-formula-requires-in-And : goal.walk-formula-requires-in-And
walk-formula-requires-in-And t c =
    let passed = passed-of c.args.self.now.lent c.requires refl c.read_head.ensures c.in_ok-rule.was c.allows.ensures c.if-not-allows.false in
    let op = its-b passed (keeps passed c.in-And.is).b refl in
    (omega (arith, c.decreases, op.lower), op.hand)

pub walk-returns-in_ok-formula-in-And : goal.walk-returns-in_ok-formula-in-And
walk-returns-in_ok-formula-in-And t c =
    let passed = passed-of c.args.self.now.lent c.requires refl c.read_head.ensures c.in_ok-rule.was c.allows.ensures c.if-not-allows.false in
    let first = its-a passed (keeps passed c.in-And.is).a refl in
    let second = its-b passed (keeps passed c.in-And.is).b refl in
    taken passed c.in-And.is (goes _ (first.reads _ c.in_ok-formula-in-And.ensures) (second.reads _ c.formula-in-And.ensures))

pub walk-formula-requires-in-OrLeft : goal.walk-formula-requires-in-OrLeft
walk-formula-requires-in-OrLeft t c =
    let passed = passed-of c.args.self.now.lent c.requires refl c.read_head.ensures c.in_ok-rule.was c.allows.ensures c.if-not-allows.false in
    let op = its-a passed (keeps passed c.in-OrLeft.is).a refl in
    (omega (arith, c.decreases, op.lower), op.hand)

pub walk-returns-in-OrLeft : goal.walk-returns-in-OrLeft
walk-returns-in-OrLeft t c =
    let passed = passed-of c.args.self.now.lent c.requires refl c.read_head.ensures c.in_ok-rule.was c.allows.ensures c.if-not-allows.false in
    let op = its-a passed (keeps passed c.in-OrLeft.is).a refl in
    taken passed c.in-OrLeft.is (op.reads _ c.formula-in-OrLeft.ensures)

pub walk-formula-requires-in-OrRight : goal.walk-formula-requires-in-OrRight
walk-formula-requires-in-OrRight t c =
    let passed = passed-of c.args.self.now.lent c.requires refl c.read_head.ensures c.in_ok-rule.was c.allows.ensures c.if-not-allows.false in
    let op = its-b passed (keeps passed c.in-OrRight.is).b refl in
    (omega (arith, c.decreases, op.lower), op.hand)

pub walk-returns-in-OrRight : goal.walk-returns-in-OrRight
walk-returns-in-OrRight t c =
    let passed = passed-of c.args.self.now.lent c.requires refl c.read_head.ensures c.in_ok-rule.was c.allows.ensures c.if-not-allows.false in
    let op = its-b passed (keeps passed c.in-OrRight.is).b refl in
    taken passed c.in-OrRight.is (op.reads _ c.formula-in-OrRight.ensures)

-- ---- `walk`, AX and EX

pub walk-at_each-requires : goal.walk-at_each-requires
walk-at_each-requires t c =
    let passed = passed-of c.args.self.now.lent c.requires refl c.read_head.ensures c.in_ok-rule.was c.allows.ensures c.if-not-allows.false in
    (omega (arith, c.decreases), (c.requires, (keeps passed c.in-Ax.is).a))

pub walk-returns-in-Ax : goal.walk-returns-in-Ax
walk-returns-in-Ax t c =
    let passed = passed-of c.args.self.now.lent c.requires refl c.read_head.ensures c.in_ok-rule.was c.allows.ensures c.if-not-allows.false in
    taken passed c.in-Ax.is c.at_each.ensures

pub walk-formula-requires-in-Ex : goal.walk-formula-requires-in-Ex
walk-formula-requires-in-Ex t c =
    let passed = passed-of c.args.self.now.lent c.requires refl c.read_head.ensures c.in_ok-rule.was c.allows.ensures c.if-not-allows.false in
    let op = a-bound c.args.self.now.lent c.args.self.now.bytes.now c.requires.hand (keeps passed c.in-Ex.is).a refl c.bound.ensures
    (onto c.args.self.now.lent _ c.requires (and-left _ _ (granted passed c.in-Ex.is))).stage in
    (omega (arith, c.decreases, op.lower), op.hand)

pub walk-returns-in-Ex : goal.walk-returns-in-Ex
walk-returns-in-Ex t c =
    let passed = passed-of c.args.self.now.lent c.requires refl c.read_head.ensures c.in_ok-rule.was c.allows.ensures c.if-not-allows.false in
    let op = a-bound c.args.self.now.lent c.args.self.now.bytes.now c.requires.hand (keeps passed c.in-Ex.is).a refl c.bound.ensures
    (onto c.args.self.now.lent _ c.requires (and-left _ _ (granted passed c.in-Ex.is))).stage in
    taken passed c.in-Ex.is (op.reads _ c.formula-in-Ex.ensures)

-- ---- `walk`, AF

pub walk-formula-requires-in-AfNow : goal.walk-formula-requires-in-AfNow
walk-formula-requires-in-AfNow t c =
    let passed = passed-of c.args.self.now.lent c.requires refl c.read_head.ensures c.in_ok-rule.was c.allows.ensures c.if-not-allows.false in
    let op = a-now passed (keeps passed c.in-AfNow.is).a refl c.bound-in-AfNow.ensures in
    (omega (arith, c.decreases, op.lower), op.hand)

pub walk-returns-in-AfNow : goal.walk-returns-in-AfNow
walk-returns-in-AfNow t c =
    let passed = passed-of c.args.self.now.lent c.requires refl c.read_head.ensures c.in_ok-rule.was c.allows.ensures c.if-not-allows.false in
    let op = a-now passed (keeps passed c.in-AfNow.is).a refl c.bound-in-AfNow.ensures in
    taken passed c.in-AfNow.is (op.reads _ c.formula-in-AfNow.ensures)

pub walk-on_at_each-requires : goal.walk-on_at_each-requires
walk-on_at_each-requires t c =
    let passed = passed-of c.args.self.now.lent c.requires refl c.read_head.ensures c.in_ok-rule.was c.allows.ensures c.if-not-allows.false in
    (omega (arith, c.decreases), (c.requires, off-walk _ _ (granted passed c.in-AfLater.is)))

pub walk-returns-in-AfLater : goal.walk-returns-in-AfLater
walk-returns-in-AfLater t c =
    let passed = passed-of c.args.self.now.lent c.requires refl c.read_head.ensures c.in_ok-rule.was c.allows.ensures c.if-not-allows.false in
    taken passed c.in-AfLater.is c.on_at_each.ensures

-- ---- `walk`, EG and EU

pub walk-formula-requires-in-EgOn : goal.walk-formula-requires-in-EgOn
walk-formula-requires-in-EgOn t c =
    let passed = passed-of c.args.self.now.lent c.requires refl c.read_head.ensures c.in_ok-rule.was c.allows.ensures c.if-not-allows.false in
    let op = a-now passed (going-on passed c.in-EgOn.is).lower refl c.bound-in-EgOn.ensures in
    (omega (arith, c.decreases, op.lower), op.hand)

pub walk-returns-in_err-formula-in-EgOn : goal.walk-returns-in_err-formula-in-EgOn
walk-returns-in_err-formula-in-EgOn t c =
    let passed = passed-of c.args.self.now.lent c.requires refl c.read_head.ensures c.in_ok-rule.was c.allows.ensures c.if-not-allows.false in
    let fault = err_from_is_err_and c.from_residual-in_err-formula-in-EgOn.result c.from_residual-in_err-formula-in-EgOn.ensures.1 in
    let on = going-on passed c.in-EgOn.is in
    let op = a-now passed on.lower refl c.bound-in-EgOn.ensures in
    rw (fault.1, fault.2) (goes-on passed c.in-EgOn.is (stays _ (op.reads _ c.in_err-formula-in-EgOn.ensures)))

pub walk-walk-requires : goal.walk-walk-requires
walk-walk-requires t c =
    let passed = passed-of c.args.self.now.lent c.requires refl c.read_head.ensures c.in_ok-rule.was c.allows.ensures c.if-not-allows.false in
    let on = going-on passed c.in-EgOn.is in
    let more = grows (number_lt _ _ c.well_formed.1.1.1.0) (stage-room c.args.self.now.lent c.requires) on.off c.index.ensures c.with.ensures in
    (omega (arith, c.decreases, more.0, more.1), onto c.args.self.now.lent _ c.requires on.successor)

pub walk-returns-in_ok-formula-in-EgOn : goal.walk-returns-in_ok-formula-in-EgOn
walk-returns-in_ok-formula-in-EgOn t c =
    let self = c.args.self.now in
    let passed = passed-of c.args.self.now.lent c.requires refl c.read_head.ensures c.in_ok-rule.was c.allows.ensures c.if-not-allows.false in
    let on = going-on passed c.in-EgOn.is in
    let op = a-now passed on.lower refl c.bound-in-EgOn.ensures in
    goes-on passed c.in-EgOn.is (goes _ (op.reads _ c.in_ok-formula-in-EgOn.ensures)
    (along-on (number_lt _ _ c.well_formed.1.1.1.0) (stage-room self.lent c.requires) on.off c.index.ensures c.with.ensures
    self.image.now self.table.now self.bytes.now self.side _ _ _ _ c.walk.ensures))

-- ---- `walk`, AR and the end of EU

pub walk-formula-requires-in-ArRelease : goal.walk-formula-requires-in-ArRelease
walk-formula-requires-in-ArRelease t c =
    let passed = passed-of c.args.self.now.lent c.requires refl c.read_head.ensures c.in_ok-rule.was c.allows.ensures c.if-not-allows.false in
    let op = a-now passed (keeps passed c.in-ArRelease.is).a refl c.bound-in-ArRelease.ensures in
    (omega (arith, c.decreases, op.lower), op.hand)

pub walk-returns-in_err-formula-in-ArRelease : goal.walk-returns-in_err-formula-in-ArRelease
walk-returns-in_err-formula-in-ArRelease t c =
    let passed = passed-of c.args.self.now.lent c.requires refl c.read_head.ensures c.in_ok-rule.was c.allows.ensures c.if-not-allows.false in
    let fault = err_from_is_err_and c.from_residual-in_err-formula-in-ArRelease.result c.from_residual-in_err-formula-in-ArRelease.ensures.1 in
    let op = a-now passed (keeps passed c.in-ArRelease.is).a refl c.bound-in-ArRelease.ensures in
    rw (fault.1, fault.2) (taken passed c.in-ArRelease.is (stays _ (op.reads _ c.in_err-formula-in-ArRelease.ensures)))

pub walk-formula-requires-in-ArRelease-2 : goal.walk-formula-requires-in-ArRelease-2
walk-formula-requires-in-ArRelease-2 t c =
    let passed = passed-of c.args.self.now.lent c.requires refl c.read_head.ensures c.in_ok-rule.was c.allows.ensures c.if-not-allows.false in
    let op = b-now passed (keeps passed c.in-ArRelease.is).b refl c.bound-in-ArRelease-2.ensures in
    (omega (arith, c.decreases, op.lower), op.hand)

pub walk-returns-in_ok-formula-in-ArRelease : goal.walk-returns-in_ok-formula-in-ArRelease
walk-returns-in_ok-formula-in-ArRelease t c =
    let passed = passed-of c.args.self.now.lent c.requires refl c.read_head.ensures c.in_ok-rule.was c.allows.ensures c.if-not-allows.false in
    let first = a-now passed (keeps passed c.in-ArRelease.is).a refl c.bound-in-ArRelease.ensures in
    let second = b-now passed (keeps passed c.in-ArRelease.is).b refl c.bound-in-ArRelease-2.ensures in
    taken passed c.in-ArRelease.is (goes _ (first.reads _ c.in_ok-formula-in-ArRelease.ensures) (second.reads _ c.formula-in-ArRelease-2.ensures))

pub walk-formula-requires-in-ArOn : goal.walk-formula-requires-in-ArOn
walk-formula-requires-in-ArOn t c =
    let passed = passed-of c.args.self.now.lent c.requires refl c.read_head.ensures c.in_ok-rule.was c.allows.ensures c.if-not-allows.false in
    let op = b-now passed (keeps passed c.in-ArOn.is).b refl c.bound-in-ArOn.ensures in
    (omega (arith, c.decreases, op.lower), op.hand)

pub walk-returns-in_err-formula-in-ArOn : goal.walk-returns-in_err-formula-in-ArOn
walk-returns-in_err-formula-in-ArOn t c =
    let passed = passed-of c.args.self.now.lent c.requires refl c.read_head.ensures c.in_ok-rule.was c.allows.ensures c.if-not-allows.false in
    let fault = err_from_is_err_and c.from_residual-in_err-formula-in-ArOn.result c.from_residual-in_err-formula-in-ArOn.ensures.1 in
    let op = b-now passed (keeps passed c.in-ArOn.is).b refl c.bound-in-ArOn.ensures in
    rw (fault.1, fault.2) (taken passed c.in-ArOn.is (stays _ (op.reads _ c.in_err-formula-in-ArOn.ensures)))

pub walk-on_at_each-requires-in-ArOn : goal.walk-on_at_each-requires-in-ArOn
walk-on_at_each-requires-in-ArOn t c =
    let passed = passed-of c.args.self.now.lent c.requires refl c.read_head.ensures c.in_ok-rule.was c.allows.ensures c.if-not-allows.false in
    (omega (arith, c.decreases), (c.requires, off-walk _ _ (granted passed c.in-ArOn.is)))

pub walk-returns-in_ok-formula-in-ArOn : goal.walk-returns-in_ok-formula-in-ArOn
walk-returns-in_ok-formula-in-ArOn t c =
    let passed = passed-of c.args.self.now.lent c.requires refl c.read_head.ensures c.in_ok-rule.was c.allows.ensures c.if-not-allows.false in
    let op = b-now passed (keeps passed c.in-ArOn.is).b refl c.bound-in-ArOn.ensures in
    taken passed c.in-ArOn.is (goes _ (op.reads _ c.in_ok-formula-in-ArOn.ensures) c.on_at_each-in-ArOn.ensures)

pub walk-formula-requires-in-EuNow : goal.walk-formula-requires-in-EuNow
walk-formula-requires-in-EuNow t c =
    let passed = passed-of c.args.self.now.lent c.requires refl c.read_head.ensures c.in_ok-rule.was c.allows.ensures c.if-not-allows.false in
    let op = b-now passed (keeps passed c.in-EuNow.is).b refl c.bound-in-EuNow.ensures in
    (omega (arith, c.decreases, op.lower), op.hand)

pub walk-returns-in-EuNow : goal.walk-returns-in-EuNow
walk-returns-in-EuNow t c =
    let passed = passed-of c.args.self.now.lent c.requires refl c.read_head.ensures c.in_ok-rule.was c.allows.ensures c.if-not-allows.false in
    let op = b-now passed (keeps passed c.in-EuNow.is).b refl c.bound-in-EuNow.ensures in
    taken passed c.in-EuNow.is (op.reads _ c.formula-in-EuNow.ensures)

-- ---- `at_each`: a turn of the loop reads a at the lowest successor that is left

pub at_each-loop-t-init : goal.at_each-loop-t-init
at_each-loop-t-init t c =
    let begun = walk-begins c.into_iter-t-iterator.ensures.into_iter_gives c.stages-t-items.ensures in
    each_start c.args.self.now.lent _ _ _ (omega (arith, begun, number_lt _ _ c.set.type_inv)) c.requires.0.stage c.index.ensures (begun ∙ c.set.ensures)

pub at_each-formula-requires : goal.at_each-formula-requires
at_each-formula-requires t c =
    let self = c.args.self.now in
    let w = c.requires.0 in
    let next = each-stage self.lent.small c.args.s _ _ c.loop-t.invariant c.in-Some.ensures.steps in
    let op = a-bound self.lent self.bytes.now w.hand c.requires.1 refl c.bound.ensures (onto self.lent _ w next).stage in
    (omega (arith, c.decreases, op.lower), op.hand)

pub at_each-returns-in_err-formula : goal.at_each-returns-in_err-formula
at_each-returns-in_err-formula t c =
    let self = c.args.self.now in
    let w = c.requires.0 in
    let fault = err_from_is_err_and c.from_residual.result c.from_residual.ensures.1 in
    let next = each-stage self.lent.small c.args.s _ _ c.loop-t.invariant c.in-Some.ensures.steps in
    let op = a-bound self.lent self.bytes.now w.hand c.requires.1 refl c.bound.ensures (onto self.lent _ w next).stage in
    rw (fault.1, fault.2) (each-stops self.lent.small c.args.s _ _ c.loop-t.invariant c.in-Some.ensures.steps (op.reads _ c.in_err-formula.ensures))

pub at_each-loop-t-preserved : goal.at_each-loop-t-preserved
at_each-loop-t-preserved t c =
    let self = c.args.self.now in
    let w = c.requires.0 in
    let next = each-stage self.lent.small c.args.s _ _ c.loop-t.invariant c.in-Some.ensures.steps in
    let op = a-bound self.lent self.bytes.now w.hand c.requires.1 refl c.bound.ensures (onto self.lent _ w next).stage in
    each_next self.lent.small c.args.s _ _ c.loop-t.invariant c.in-Some.ensures.steps (op.reads _ c.in_ok-formula.ensures)

pub at_each-returns : goal.at_each-returns
at_each-returns t c = each-end c.args.self.now.lent.small c.args.s _ _ c.loop-t.invariant c.in-None.ensures.steps.0

-- ---- `on_at_each`: a turn of the loop reads the walk at the lowest successor that is left

pub on_at_each-loop-t-init : goal.on_at_each-loop-t-init
on_at_each-loop-t-init t c =
    let begun = walk-begins c.into_iter-t-iterator.ensures.into_iter_gives c.stages-t-items.ensures in
    each_start c.args.self.now.lent _ _ _ (omega (arith, begun, number_lt _ _ c.set.type_inv)) c.requires.0.stage c.index-k.ensures (begun ∙ c.set.ensures)

pub on_at_each-walk-requires : goal.on_at_each-walk-requires
on_at_each-walk-requires t c =
    let lent = c.args.self.now.lent in
    let w = c.requires.0 in
    let more = grows (number_lt _ _ c.well_formed.1.1.1.0) (stage-room lent w) c.requires.1 c.index-k.ensures c.with-longer.ensures in
    (omega (arith, c.decreases, more.0, more.1), onto lent _ w (each-stage lent.small c.args.s _ _ c.loop-t.invariant c.in-Some.ensures.steps))

pub on_at_each-returns-in_err-walk : goal.on_at_each-returns-in_err-walk
on_at_each-returns-in_err-walk t c =
    let self = c.args.self.now in
    let fault = err_from_is_err_and c.from_residual.result c.from_residual.ensures.1 in
    rw (fault.1, fault.2) (each-stops self.lent.small c.args.s _ _ c.loop-t.invariant c.in-Some.ensures.steps
    (along-on (number_lt _ _ c.well_formed.1.1.1.0) (stage-room self.lent c.requires.0) c.requires.1 c.index-k.ensures c.with-longer.ensures
    self.image.now self.table.now self.bytes.now self.side _ _ _ _ c.in_err-walk.ensures))

pub on_at_each-loop-t-preserved : goal.on_at_each-loop-t-preserved
on_at_each-loop-t-preserved t c =
    let self = c.args.self.now in
    each_next self.lent.small c.args.s _ _ c.loop-t.invariant c.in-Some.ensures.steps
    (along-on (number_lt _ _ c.well_formed.1.1.1.0) (stage-room self.lent c.requires.0) c.requires.1 c.index-k.ensures c.with-longer.ensures
    self.image.now self.table.now self.bytes.now self.side _ _ _ _ c.in_ok-walk.ensures)

pub on_at_each-returns : goal.on_at_each-returns
on_at_each-returns t c = each-end c.args.self.now.lent.small c.args.s _ _ c.loop-t.invariant c.in-None.ensures.steps.0
