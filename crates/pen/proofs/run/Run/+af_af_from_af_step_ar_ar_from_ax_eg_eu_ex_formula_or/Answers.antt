-- The writers of steps, `pen::run::Run`, meet their contracts: one proof for the whole cycle of calls.
use Prim.Native.Nat.{ℕ, suc, ◌+◌, ◌-◌}
use native.Mathlib.Omega.{arith}
use mathlib.Core.Path.{◌≡◌, refl, sym, ap, subst, ◌∙◌}
use mathlib.Core.Logic.{⊎_elim}
use lib.Dec.{T}
use Rattle.sets.proofs.LawsFits.{number_lt}
use Rattle.sets.proofs.LawsWalk.{walk-begins}
use Rattle.format.specs.Image.{graph_of}
use Rattle.hand.specs.Environment.{env_of}
use Rattle.pen.proofs.RunLaws.{run-row, run-readable, run-stages, run-a, run-b}
use Rattle.pen.proofs.WroteLaws.{wrote-place, wrote-past, wrote-both, wrote-same, wrote_none}
use Rattle.pen.proofs.EachLaws.{each_start, each-stage, each-edge, each-end, each_next as turns-on}
use Rattle.logic.specs.Test.{af as af_test}
use Rattle.pen.specs.Steps.{af_steps, InHand}
use Rattle.pen.proofs.KindLaws.{fields, rule-of, af-from as af-holds, af-start, ar-from as ar-from-start, eg-from, eu-from, in_arm, true-steps, is-steps}
use Rattle.pen.proofs.KindLaws.{is-not-steps, false-never, and_both, and-steps, or_right, left-steps, right-steps, ax-each, ax-steps, ex-some}
use Rattle.pen.proofs.KindLaws.{ex-steps}
use Rattle.pen.proofs.WriterLaws.{start_is, start-below, ready_of, under, operand-wrote, stop-has, stop-lacks, next-all, walk-has, walk-lacks}
use Rattle.pen.proofs.WriterLaws.{going_start, going_more, going_end, going_done, same-env, plain-wrote}
use Rattle.pen.proofs.StepLaws.{noted_more}
use Rattle.pen.proofs.WroteLaws.{wrote-length}
use Rattle.pen.proofs.StepLaws.{collects-of, af-now-steps, af-later-steps, noted-new, two_ends, ar-begins, ar-merges}
use Rattle.pen.proofs.StepLaws.{ar-releases, ar-goes, leads-of, nearest-of, eg-begins, eg-merges, eg-goes, one-ends, eu-begins, eu-stops, eu-goes, told-true}
use Rattle.pen.proofs.StepLaws.{told-false, choice-of}
use Rattle.pen.proofs.AfLaws.{lasts-start, lasts_on}
use Rattle.logic.specs.Test as Test
use Rattle.rules.specs.Kind.{Kind}
use Rattle.pen.proofs.AlongLaws.{ar-here, ar-there, eg-holds, eu-holds, ex-holds}
use Rattle.logic.specs.Rules.{empty, also}
use Rattle.guide.proofs.TowardLaws.{cleared-new}
use Rattle.format.specs.declared.record.Kind.TheVariants as K
use Rattle.sets.specs.Row.{held}
use Rattle.logic.proofs.Successors.{each_next_lem}
use Rattle.pen.proofs.run.Run.+af_af_from_af_step_ar_ar_from_ax_eg_eu_ex_formula_or.Goals as goal

-- ---- `af_from`, `af` and `af_step`: a walk of AF, with the lengths that are noted

pub af_from-where_on-stop-requires : goal.af_from-where_on-stop-requires
af_from-where_on-stop-requires t c =
    let run = c.args.self.now in
    let h = c.requires in
    let f = fields run h.holding refl in
    let rule = rule-of run h in
    ready_of run h.holding f.a rule.a

pub af_from-af-requires : goal.af_from-af-requires
af_from-af-requires t c =
    let run = c.args.self.now in
    let e = c.args.e in
    let env = c.args.env in
    let h = c.requires in
    let f = fields run h.holding refl in
    let rule = rule-of run h in
    let s-is = start_is run h.holding f c.stage_of-s.ensures in
    let below = start-below run h.holding rule.t in (
      omega (arith, c.decreases, run.setup.row.room),
      record {
        hand = h;
        stops = collects-of run env f.a f.x c.where_on-stop.ensures;
        below = omega (arith, s-is, below);
        lasts = lasts-start (run-readable run) (omega (arith, run-stages run)) (subst (λ (s : ℕ). T (af_test (graph_of run.setup.image.now)
            (run-a run e env).holds s)) (sym s-is) (af-holds run h));
        fuel = omega (arith, run-stages run);
        noted = noted-new run.setup.image.now run.setup.table.now run.side e env;
      },
    )

pub af_from-returns-clause-wrote : goal.af_from-returns-clause-wrote
af_from-returns-clause-wrote t c =
    let run = c.args.self.now in
    let h = c.requires in
    let f = fields run h.holding refl in
    let s-is = start_is run h.holding f c.stage_of-s.ensures in
    wrote-same (ap (af_steps run.setup.image.now run.setup.table.now run.side c.args.e (env_of c.args.env)) s-is ∙ af-start run h)
    c.af.ensures.wrote

pub af-returns-then-sheet-clause-wrote : goal.af-returns-then-sheet-clause-wrote
af-returns-then-sheet-clause-wrote t c = wrote-past _ _ _ _ c.if-sheet.true

pub af-returns-then-sheet-2-clause-noted : goal.af-returns-then-sheet-2-clause-noted
af-returns-then-sheet-2-clause-noted t c =
    let run = c.args.self.now in
    let step = c.af_step.ensures in
    noted_more run.setup.image.now run.setup.table.now run.side c.args.course.now.entry c.args.course.now.env _ step.noted step.wrote (omega (arith, c.if-sheet-2.true, wrote-length step.wrote))

pub af_step-formula-requires : goal.af_step-formula-requires
af_step-formula-requires t c =
    let run = c.args.self.now in
    let a = c.requires.0 in
    let h = a.hand in
    let rule = rule-of run h in
    let f = fields run h.holding refl in
    let now = stop-has a.stops a.below c.has.ensures c.if-has.true in (
      omega (arith, c.decreases, f.a, rule.a),
      under run h.holding f.a rule.a f.x (omega (arith, rule.x)) a.below c.bound.ensures now,
    )

pub af_step-returns-then-has-clause-wrote : goal.af_step-returns-then-has-clause-wrote
af_step-returns-then-has-clause-wrote t c =
    let run = c.args.self.now in
    let a = c.requires.0 in
    let h = a.hand in
    let rule = rule-of run h in
    let f = fields run h.holding refl in
    let now = stop-has a.stops a.below c.has.ensures c.if-has.true in
    wrote-same (af-now-steps run a now)
    (wrote-both c.rule.ensures.wrote
    (operand-wrote run f.a f.x (omega (arith, rule.x)) c.bound.ensures
    c.formula.ensures.wrote))

pub af_step-loop-t-init : goal.af_step-loop-t-init
af_step-loop-t-init t c =
    let run = c.args.self.now in
    let a = c.requires.0 in
    let h = a.hand in
    let rule = rule-of run h in (
      each_start (run-row run) a.below _ _ _ _ (wrote-place c.rule-2.ensures.wrote) (number_lt _ _ c.load-there.type_inv) (walk-begins c.into_iter-t-iterator.ensures.into_iter_gives c.stages-t-items.ensures)
          (next-all run a.below c.load-there.ensures),
      a.noted,
      refl,
    )

pub af_step-af-requires : goal.af_step-af-requires
af_step-af-requires t c =
    let run = c.args.self.now in
    let a = c.requires.0 in
    let h = a.hand in
    let row = run-row run in
    let not-now = stop-lacks a.stops a.below c.has.ensures c.if-has.false in
    let turn = c.in-Some.ensures.steps in
    let edge = each-edge row a.below _ _ _ _ c.loop-t.invariant.0 turn in (
      omega (arith, c.decreases, a.lasts.before),
      record {
        hand = h;
        stops = a.stops;
        below = each-stage row a.below _ _ _ _ c.loop-t.invariant.0 turn;
        lasts = lasts_on (run-readable run) a.lasts not-now edge;
        fuel = omega (arith, a.fuel);
        noted = c.loop-t.invariant.1;
      },
    )

pub af_step-loop-t-preserved : goal.af_step-loop-t-preserved
af_step-loop-t-preserved t c =
    let run = c.args.self.now in
    let a = c.requires.0 in
    let h = a.hand in
    let row = run-row run in
    let turn = c.in-Some.ensures.steps in
    (turns-on row a.below _ _ _ _ c.loop-t.invariant.0 turn c.af.ensures.wrote, c.af.ensures.noted, c.af.ensures.same ∙ c.loop-t.invariant.2)

pub af_step-returns-clause-wrote : goal.af_step-returns-clause-wrote
af_step-returns-clause-wrote t c =
    let run = c.args.self.now in
    let a = c.requires.0 in
    let h = a.hand in
    let row = run-row run in
    let not-now = stop-lacks a.stops a.below c.has.ensures c.if-has.false in
    wrote-same (af-later-steps run a not-now)
    (wrote-both c.rule-2.ensures.wrote
    (each-end row a.below _ _ _ _ c.loop-t.invariant.0 c.in-None.ensures.steps.0))

-- ---- `ar_from` and `ar`: a walk of AR

pub ar_from-where_on-stop-requires : goal.ar_from-where_on-stop-requires
ar_from-where_on-stop-requires t c =
    let run = c.args.self.now in
    let h = c.requires in
    let f = fields run h.holding refl in
    let rule = rule-of run h in
    ready_of run h.holding f.a rule.a

pub ar_from-ar-requires : goal.ar_from-ar-requires
ar_from-ar-requires t c =
    let run = c.args.self.now in
    let e = c.args.e in
    let env = c.args.env in
    let h = c.requires in
    let f = fields run h.holding refl in
    let rule = rule-of run h in
    let s-is = start_is run h.holding f c.stage_of-s.ensures in
    let below = start-below run h.holding rule.t in (
      omega (arith, c.decreases, run.setup.row.room),
      record {
        hand = h;
        stops = collects-of run env f.a f.x c.where_on-stop.ensures;
        below = omega (arith, s-is, below);
        holds = subst (λ (s : ℕ). T (Test.ar (graph_of run.setup.image.now) (run-a run e env).holds (run-b run e env).holds s))
            (sym s-is) (ar-from-start run h);
        fuel = omega (arith, run-stages run);
      },
    )

pub ar_from-returns-clause-wrote : goal.ar_from-returns-clause-wrote
ar_from-returns-clause-wrote t c =
    let run = c.args.self.now in
    let h = c.requires in
    let f = fields run h.holding refl in
    let s-is = start_is run h.holding f c.stage_of-s.ensures in
    wrote-same (ar-begins run h (omega (arith, run-stages run)) c.empty.ensures s-is) c.ar.ensures.wrote

pub ar-returns-then-sheet-clause-wrote : goal.ar-returns-then-sheet-clause-wrote
ar-returns-then-sheet-clause-wrote t c = wrote-past _ _ _ _ c.if-sheet.true

pub ar-returns-then-left-eq0-clause-wrote : goal.ar-returns-then-left-eq0-clause-wrote
ar-returns-then-left-eq0-clause-wrote t c =
    let run = c.args.self.now in
    wrote-same (sym (two_ends run.setup.image.now run.setup.table.now run.side c.args.course.now.entry c.args.course.now.env Kind.AR _ _ c.if-left-eq0.true)) (wrote_none _ _ _
    (omega (arith, c.if-sheet.false)))

pub ar-returns-then-has-clause-wrote : goal.ar-returns-then-has-clause-wrote
ar-returns-then-has-clause-wrote t c =
    let run = c.args.self.now in
    let more : c.args.left ≡ suc (c.args.left - 1) = omega (arith, c.if-left-eq0.false) in
    wrote-same (ar-merges run c.args.course.now.entry c.args.course.now.env _ _ more (walk-has _ _
    c.has.ensures c.if-has.true)) c.rule.ensures.wrote

pub ar-formula-requires : goal.ar-formula-requires
ar-formula-requires t c =
    let run = c.args.self.now in
    let a = c.requires in
    let h = a.hand in
    let f = fields run h.holding refl in
    let rule = rule-of run h in
    let released = stop-has a.stops a.below c.has-2.ensures c.if-has-2.true in (
      omega (arith, c.decreases, f.a, rule.a),
      under run h.holding f.a rule.a f.x (omega (arith, rule.x)) a.below c.bound.ensures released,
    )

pub ar-formula-requires-then-has-2 : goal.ar-formula-requires-then-has-2
ar-formula-requires-then-has-2 t c =
    let run = c.args.self.now in
    let e = c.args.course.now.entry in
    let env = c.args.course.now.env in
    let a = c.requires in
    let h = a.hand in
    let f = fields run h.holding refl in
    let rule = rule-of run h in
    let b_here = ar-here (run-readable run) (run-a run e env).holds (run-b run e env).holds _
    a.below a.holds in (
      omega (arith, c.decreases, f.b, rule.b),
      under run h.holding f.b rule.b f.y (omega (arith, rule.y)) a.below c.bound-then-has-2.ensures b_here,
    )

pub ar-returns-then-has-2-clause-wrote : goal.ar-returns-then-has-2-clause-wrote
ar-returns-then-has-2-clause-wrote t c =
    let run = c.args.self.now in
    let more : c.args.left ≡ suc (c.args.left - 1) = omega (arith, c.if-left-eq0.false) in
    let e = c.args.course.now.entry in
    let env = c.args.course.now.env in
    let a = c.requires in
    let h = a.hand in
    let f = fields run h.holding refl in
    let rule = rule-of run h in
    let released = stop-has a.stops a.below c.has-2.ensures c.if-has-2.true in
    wrote-same (ar-releases run e env _ _ more (walk-lacks _ _ c.has.ensures c.if-has.false) released)
    (wrote-both c.rule-then-has-2.ensures.wrote
    (wrote-both (operand-wrote run f.a f.x (omega (arith, rule.x)) c.bound.ensures c.formula.ensures.wrote)
    (operand-wrote run f.b f.y (omega (arith, rule.y)) c.bound-then-has-2.ensures c.formula-then-has-2.ensures.wrote)))

pub ar-formula-requires-2 : goal.ar-formula-requires-2
ar-formula-requires-2 t c =
    let run = c.args.self.now in
    let e = c.args.course.now.entry in
    let env = c.args.course.now.env in
    let a = c.requires in
    let h = a.hand in
    let f = fields run h.holding refl in
    let rule = rule-of run h in
    let b_here = ar-here (run-readable run) (run-a run e env).holds (run-b run e env).holds _
    a.below a.holds in (
      omega (arith, c.decreases, f.b, rule.b),
      under run h.holding f.b rule.b f.y (omega (arith, rule.y)) a.below c.bound-2.ensures b_here,
    )

pub ar-loop-t-init : goal.ar-loop-t-init
ar-loop-t-init t c =
    let run = c.args.self.now in
    let a = c.requires in
    let h = a.hand in (
      each_start (run-row run) a.below _ _ _ _ (wrote-place c.formula-2.ensures.wrote) (number_lt _ _ c.load-there.type_inv) (walk-begins c.into_iter-t-iterator.ensures.into_iter_gives c.stages-t-items.ensures)
          (next-all run a.below c.load-there.ensures),
      refl,
    )

pub ar-ar-requires : goal.ar-ar-requires
ar-ar-requires t c =
    let run = c.args.self.now in
    let e = c.args.course.now.entry in
    let env = c.args.course.now.env in
    let a = c.requires in
    let h = a.hand in
    let row = run-row run in
    let on = stop-lacks a.stops a.below c.has-2.ensures c.if-has-2.false in
    let turn = c.in-Some.ensures.steps in
    let edge = each-edge row a.below _ _ _ _ c.loop-t.invariant.0 turn in (
      omega (arith, c.decreases, c.if-left-eq0.false),
      record {
        hand = h;
        stops = a.stops;
        below = each-stage row a.below _ _ _ _ c.loop-t.invariant.0 turn;
        holds = ar-there (run-readable run) (run-a run e env).holds (run-b run e env).holds _ a.below
            a.holds on _ edge;
        fuel = omega (arith, a.fuel);
      },
    )

pub ar-loop-t-preserved : goal.ar-loop-t-preserved
ar-loop-t-preserved t c =
    let run = c.args.self.now in
    let a = c.requires in
    let h = a.hand in
    let row = run-row run in
    let turn = c.in-Some.ensures.steps in
    (turns-on row a.below _ _ _ _ c.loop-t.invariant.0 turn c.ar.ensures.wrote, c.ar.ensures.same ∙ c.loop-t.invariant.1)

pub ar-returns-clause-wrote : goal.ar-returns-clause-wrote
ar-returns-clause-wrote t c =
    let run = c.args.self.now in
    let more : c.args.left ≡ suc (c.args.left - 1) = omega (arith, c.if-left-eq0.false) in
    let e = c.args.course.now.entry in
    let env = c.args.course.now.env in
    let a = c.requires in
    let h = a.hand in
    let f = fields run h.holding refl in
    let rule = rule-of run h in
    let row = run-row run in
    let on = stop-lacks a.stops a.below c.has-2.ensures c.if-has-2.false in
    wrote-same (ar-goes run e env _ _ more (omega (arith, a.below, row.room)) (walk-lacks _ _ c.has.ensures
    c.if-has.false) c.with-longer.ensures on)
    (wrote-both c.rule-2.ensures.wrote
    (wrote-both (operand-wrote run f.b f.y (omega (arith, rule.y)) c.bound-2.ensures c.formula-2.ensures.wrote)
    (each-end row a.below _ _ _ _ c.loop-t.invariant.0 c.in-None.ensures.steps.0)))

-- ---- `eg` and `eu`: walks that go on at a chosen successor, in a loop

pub eg-eg-requires : goal.eg-eg-requires
eg-eg-requires t c =
    let run = c.args.self.now in
    let h = c.requires.0 in
    let f = fields run h.holding refl in
    (ready_of run h.holding f.a (rule-of run h).a, run.setup.row.room)

pub eg-invariant_of-a : goal.eg-invariant_of-a
eg-invariant_of-a t c =
    let run = c.args.self.now in
    let h = c.requires.0 in
    let f = fields run h.holding refl in
    omega (arith, f.x, (rule-of run h).x)

pub eg-loop-init : goal.eg-loop-init
eg-loop-init t c =
    let run = c.args.self.now in
    let h = c.requires.0 in
    let f = fields run h.holding refl in
    let rule = rule-of run h in
    let s-is = start_is run h.holding f c.stage_of-s.ensures in
    let below = start-below run h.holding rule.t in (
      record {
        going = going_start (eg-begins run h (omega (arith, run-stages run)) c.empty-walk.ensures s-is) (omega (arith, c.requires.1));
        below = omega (arith, s-is, below);
        holds = subst (λ (s : ℕ). T (Test.eg (graph_of run.setup.image.now) (run-a run c.args.e c.args.env).holds s)) (sym s-is)
            (eg-from run h);
      },
      refl,
    )

pub eg-returns-then-has-clause-wrote : goal.eg-returns-then-has-clause-wrote
eg-returns-then-has-clause-wrote t c =
    let run = c.args.self.now in
    let more : run.setup.stages + 1 - c.loop.counter ≡ suc (run.setup.stages + 1 - (c.loop.counter + 1)) = omega (arith, c.loop-test.true) in
    going_end c.loop.invariant.0.going (wrote-same (eg-merges run c.args.e c.args.env _ _ more
    (walk-has _ _ c.has.ensures c.if-has.true))
    c.rule.ensures.wrote)

pub eg-formula-requires : goal.eg-formula-requires
eg-formula-requires t c =
    let run = c.args.self.now in
    let env = c.args.env in
    let h = c.requires.0 in
    let f = fields run h.holding refl in
    let rule = rule-of run h in
    let c-is = leads-of run env f.a f.x c.loop.invariant.0.below c.eg.ensures in
    let on = eg-holds (run-readable run)
    (run-a run c.args.e env).holds _ c.loop.invariant.0.below c-is c.loop.invariant.0.holds in (
      omega (arith, c.decreases, f.a, rule.a),
      under run h.holding f.a rule.a f.x (omega (arith, rule.x)) c.loop.invariant.0.below c.bound.ensures on.0,
    )

pub eg-loop-preserved : goal.eg-loop-preserved
eg-loop-preserved t c =
    let run = c.args.self.now in
    let more : run.setup.stages + 1 - c.loop.counter ≡ suc (run.setup.stages + 1 - (c.loop.counter + 1)) = omega (arith, c.loop-test.true) in
    let e = c.args.e in
    let env = c.args.env in
    let h = c.requires.0 in
    let f = fields run h.holding refl in
    let rule = rule-of run h in
    let c-is = leads-of run env f.a f.x c.loop.invariant.0.below c.eg.ensures in
    let on = eg-holds (run-readable run) (run-a run e env).holds _ c.loop.invariant.0.below c-is c.loop.invariant.0.holds in (
      record {
        going = going_more c.loop.invariant.0.going
            (eg-goes run e env _ _ more (omega (arith, c.loop.invariant.0.below, (run-row run).room))
            (walk-lacks _ _
            c.has.ensures c.if-has.false) c.with-walk.ensures c-is)
            (wrote-both c.rule-in-loop.ensures.wrote
            (wrote-both c.put.ensures.wrote (operand-wrote run f.a f.x (omega (arith, rule.x)) c.bound.ensures c.formula.ensures.wrote)));
        below = on.1.0;
        holds = on.1.1;
      },
      c.formula.ensures.same ∙ c.put.ensures.same ∙ c.rule-in-loop.ensures.same ∙ c.loop.invariant.1,
    )

pub eg-returns-clause-wrote : goal.eg-returns-clause-wrote
eg-returns-clause-wrote t c =
    let run = c.args.self.now in
    going_done c.loop.invariant.0.going (one-ends run.setup.image.now run.setup.table.now run.side c.args.e c.args.env Kind.EG _ _ (omega
    (arith, c.loop-test.false)))

pub eu-eu-now-requires : goal.eu-eu-now-requires
eu-eu-now-requires t c =
    let run = c.args.self.now in
    let h = c.requires.0 in
    let f = fields run h.holding refl in
    let rule = rule-of run h in
    (ready_of run h.holding f.a rule.a, ready_of run h.holding f.b rule.b, run.setup.row.room, cleared-new run.setup.row.room)

pub eu-loop-init : goal.eu-loop-init
eu-loop-init t c =
    let run = c.args.self.now in
    let e = c.args.e in
    let env = c.args.env in
    let h = c.requires.0 in
    let f = fields run h.holding refl in
    let rule = rule-of run h in
    let s-is = start_is run h.holding f c.stage_of-s.ensures in
    let below = start-below run h.holding rule.t in (
      record {
        walk = empty;
        going = going_start (eu-begins run h (omega (arith, run-stages run)) s-is) (omega (arith, c.requires.1));
        below = omega (arith, s-is, below);
        holds = subst (λ (s : ℕ). T (Test.eu (graph_of run.setup.image.now) (run-a run e env).holds (run-b run e env).holds s))
            (sym s-is) (eu-from run h);
      },
      refl,
    )

pub eu-formula-requires : goal.eu-formula-requires
eu-formula-requires t c =
    let run = c.args.self.now in
    let h = c.requires.0 in
    let f = fields run h.holding refl in
    let rule = rule-of run h in
    let nows = collects-of run c.args.env f.b f.y c.eu-now.ensures.nows in (
      omega (arith, c.decreases, f.b, rule.b),
      under run h.holding f.b rule.b f.y (omega (arith, rule.y)) c.loop.invariant.0.below c.bound.ensures
          (stop-has nows c.loop.invariant.0.below c.has.ensures c.if-has.true),
    )

pub eu-returns-then-has-clause-wrote : goal.eu-returns-then-has-clause-wrote
eu-returns-then-has-clause-wrote t c =
    let run = c.args.self.now in
    let more : run.setup.stages + 1 - c.loop.counter ≡ suc (run.setup.stages + 1 - (c.loop.counter + 1)) = omega (arith, c.loop-test.true) in
    let env = c.args.env in
    let h = c.requires.0 in
    let f = fields run h.holding refl in
    let rule = rule-of run h in
    let nows = collects-of run env f.b f.y c.eu-now.ensures.nows in
    going_end c.loop.invariant.0.going (wrote-same (eu-stops run c.args.e env _ more c.loop.invariant.0.walk
    (stop-has nows c.loop.invariant.0.below c.has.ensures c.if-has.true))
    (wrote-both c.rule.ensures.wrote
    (operand-wrote run f.b f.y (omega (arith, rule.y)) c.bound.ensures c.formula.ensures.wrote)))

pub eu-formula-requires-in-loop : goal.eu-formula-requires-in-loop
eu-formula-requires-in-loop t c =
    let run = c.args.self.now in
    let e = c.args.e in
    let env = c.args.env in
    let h = c.requires.0 in
    let f = fields run h.holding refl in
    let rule = rule-of run h in
    let nows = collects-of run env f.b f.y c.eu-now.ensures.nows in
    let f-not = stop-lacks nows c.loop.invariant.0.below c.has.ensures c.if-has.false in
    let c-is = nearest-of run env f.a f.x f.b f.y c.loop.invariant.0.below c.eu-now.ensures.leads in
    let on = eu-holds (run-readable run) (run-a run e env).holds (run-b run e env).holds _
    c.loop.invariant.0.below c-is c.loop.invariant.0.holds f-not in (
      omega (arith, c.decreases, f.a, rule.a),
      under run h.holding f.a rule.a f.x (omega (arith, rule.x)) c.loop.invariant.0.below c.bound-in-loop.ensures on.0,
    )

pub eu-loop-preserved : goal.eu-loop-preserved
eu-loop-preserved t c =
    let run = c.args.self.now in
    let more : run.setup.stages + 1 - c.loop.counter ≡ suc (run.setup.stages + 1 - (c.loop.counter + 1)) = omega (arith, c.loop-test.true) in
    let e = c.args.e in
    let env = c.args.env in
    let h = c.requires.0 in
    let f = fields run h.holding refl in
    let rule = rule-of run h in
    let nows = collects-of run env f.b f.y c.eu-now.ensures.nows in
    let f-not = stop-lacks nows c.loop.invariant.0.below c.has.ensures c.if-has.false in
    let c-is = nearest-of run env f.a f.x f.b f.y c.loop.invariant.0.below c.eu-now.ensures.leads in
    let on = eu-holds (run-readable run) (run-a run e env).holds (run-b run e env).holds _
    c.loop.invariant.0.below c-is c.loop.invariant.0.holds f-not in (
      record {
        walk = also c.loop.invariant.0.walk c.loop.s;
        going = going_more c.loop.invariant.0.going (eu-goes run e env _ more c.loop.invariant.0.walk f-not c-is)
            (wrote-both c.rule-in-loop.ensures.wrote
            (wrote-both c.put.ensures.wrote (operand-wrote run f.a f.x (omega (arith, rule.x)) c.bound-in-loop.ensures
            c.formula-in-loop.ensures.wrote)));
        below = on.1.0;
        holds = on.1.1;
      },
      c.formula-in-loop.ensures.same ∙ c.put.ensures.same ∙ c.rule-in-loop.ensures.same ∙ c.loop.invariant.1,
    )

pub eu-returns-clause-wrote : goal.eu-returns-clause-wrote
eu-returns-clause-wrote t c =
    let run = c.args.self.now in
    going_done c.loop.invariant.0.going (two_ends run.setup.image.now run.setup.table.now run.side c.args.e c.args.env Kind.EU _ _ (omega
    (arith, c.loop-test.false)))

-- ---- `formula` and `or`: by the kind, and left or right

pub formula-returns-then-sheet-clause-wrote : goal.formula-returns-then-sheet-clause-wrote
formula-returns-then-sheet-clause-wrote t c = wrote-past _ _ _ _ c.if-sheet.true

pub formula-formula-requires : goal.formula-formula-requires
formula-formula-requires t c =
    let run = c.args.self.now in
    let f = fields run c.requires refl in
    let h : InHand _ _ _ _ _ K.And = in_arm run c.requires refl c.kind_of.ensures c.in-And.is in
    (omega (arith, c.decreases, f.a, (rule-of run h).a), same-env run c.requires f.a (rule-of run h).a (and_both run h).0)

pub formula-formula-requires-in-And : goal.formula-formula-requires-in-And
formula-formula-requires-in-And t c =
    let run = c.args.self.now in
    let f = fields run c.requires refl in
    let h : InHand _ _ _ _ _ K.And = in_arm run c.requires refl c.kind_of.ensures c.in-And.is in
    (omega (arith, c.decreases, f.b, (rule-of run h).b), same-env run c.requires f.b (rule-of run h).b (and_both run h).1)

pub formula-or-requires : goal.formula-or-requires
formula-or-requires t c =
    let run = c.args.self.now in
    (omega (arith, c.decreases), in_arm run c.requires refl c.kind_of.ensures c.in-Or.is)

pub formula-ax-requires : goal.formula-ax-requires
formula-ax-requires t c =
    let run = c.args.self.now in
    (omega (arith, c.decreases), in_arm run c.requires refl c.kind_of.ensures c.in-AX.is)

pub formula-ex-requires : goal.formula-ex-requires
formula-ex-requires t c =
    let run = c.args.self.now in
    (omega (arith, c.decreases), in_arm run c.requires refl c.kind_of.ensures c.in-EX.is)

pub formula-af_from-requires : goal.formula-af_from-requires
formula-af_from-requires t c =
    let run = c.args.self.now in
    (omega (arith, c.decreases), in_arm run c.requires refl c.kind_of.ensures c.in-AF.is)

pub formula-eg-requires : goal.formula-eg-requires
formula-eg-requires t c =
    let run = c.args.self.now in
    (omega (arith, c.decreases), (in_arm run c.requires refl c.kind_of.ensures c.in-EG.is, c.if-sheet.false))

pub formula-ar_from-requires : goal.formula-ar_from-requires
formula-ar_from-requires t c =
    let run = c.args.self.now in
    (omega (arith, c.decreases), in_arm run c.requires refl c.kind_of.ensures c.in-AR.is)

pub formula-eu-requires : goal.formula-eu-requires
formula-eu-requires t c =
    let run = c.args.self.now in
    (omega (arith, c.decreases), (in_arm run c.requires refl c.kind_of.ensures c.in-EU.is, c.if-sheet.false))

pub formula-returns-in-True-clause-wrote : goal.formula-returns-in-True-clause-wrote
formula-returns-in-True-clause-wrote t c =
    let run = c.args.self.now in
    let h : InHand _ _ _ _ _ K.True = in_arm run c.requires refl c.kind_of.ensures c.in-True.is in
    wrote-same (true-steps run h) c.rule.ensures.wrote

pub formula-returns-in-False-clause-wrote : goal.formula-returns-in-False-clause-wrote
formula-returns-in-False-clause-wrote t c =
    let run = c.args.self.now in
    absurd (false-never run (in_arm run c.requires refl c.kind_of.ensures c.in-False.is))

pub formula-returns-in-Is-clause-wrote : goal.formula-returns-in-Is-clause-wrote
formula-returns-in-Is-clause-wrote t c =
    let run = c.args.self.now in
    let h : InHand _ _ _ _ _ K.Is = in_arm run c.requires refl c.kind_of.ensures c.in-Is.is in
    wrote-same (is-steps run h) c.rule-in-Is.ensures.wrote

pub formula-returns-in-IsNot-clause-wrote : goal.formula-returns-in-IsNot-clause-wrote
formula-returns-in-IsNot-clause-wrote t c =
    let run = c.args.self.now in
    let h : InHand _ _ _ _ _ K.IsNot = in_arm run c.requires refl c.kind_of.ensures c.in-IsNot.is in
    wrote-same (is-not-steps run h) c.rule-in-IsNot.ensures.wrote

pub formula-returns-in-And-clause-wrote : goal.formula-returns-in-And-clause-wrote
formula-returns-in-And-clause-wrote t c =
    let run = c.args.self.now in
    let f = fields run c.requires refl in
    let h : InHand _ _ _ _ _ K.And = in_arm run c.requires refl c.kind_of.ensures c.in-And.is in
    wrote-same (and-steps run h)
    (wrote-both c.rule-in-And.ensures.wrote
    (wrote-both (plain-wrote run f.a _ c.formula.ensures.wrote) (plain-wrote run f.b _ c.formula-in-And.ensures.wrote)))

pub or-holds_on-requires : goal.or-holds_on-requires
or-holds_on-requires t c =
    let run = c.args.self.now in
    let h = c.requires in
    let f = fields run h.holding refl in
    let rule = rule-of run h in
    ready_of run h.holding f.a rule.a

pub or-formula-requires : goal.or-formula-requires
or-formula-requires t c =
    let run = c.args.self.now in
    let h = c.requires in
    let f = fields run h.holding refl in
    let rule = rule-of run h in (
      omega (arith, c.decreases, f.a, rule.a),
      same-env run h.holding f.a rule.a (told-true run
          c.args.env f.a c.holds_on.ensures c.if-holds_on.true),
    )

pub or-returns-then-holds_on-clause-wrote : goal.or-returns-then-holds_on-clause-wrote
or-returns-then-holds_on-clause-wrote t c =
    let run = c.args.self.now in
    let h = c.requires in
    let f = fields run h.holding refl in
    wrote-same (left-steps run h (told-true run c.args.env f.a c.holds_on.ensures c.if-holds_on.true))
    (wrote-both c.rule.ensures.wrote (plain-wrote run f.a _ c.formula.ensures.wrote))

pub or-formula-requires-else-holds_on : goal.or-formula-requires-else-holds_on
or-formula-requires-else-holds_on t c =
    let run = c.args.self.now in
    let h = c.requires in
    let f = fields run h.holding refl in
    let rule = rule-of run h in (
      omega (arith, c.decreases, f.b, rule.b),
      same-env run h.holding f.b rule.b (or_right run h (told-false run c.args.env f.a
          c.holds_on.ensures c.if-holds_on.false)),
    )

pub or-returns-else-holds_on-clause-wrote : goal.or-returns-else-holds_on-clause-wrote
or-returns-else-holds_on-clause-wrote t c =
    let run = c.args.self.now in
    let h = c.requires in
    let f = fields run h.holding refl in
    wrote-same (right-steps run h (told-false run c.args.env f.a c.holds_on.ensures c.if-holds_on.false))
    (wrote-both c.rule-else-holds_on.ensures.wrote (plain-wrote run f.b _
    c.formula-else-holds_on.ensures.wrote))

-- ---- `ax` and `ex`: at each successor, and at a chosen one

pub ax-loop-t-init : goal.ax-loop-t-init
ax-loop-t-init t c =
    let run = c.args.self.now in
    let h = c.requires in
    let f = fields run h.holding refl in
    let rule = rule-of run h in
    let row = run-row run in
    let below = start-below run h.holding rule.t in (
      each_start row below _ _ _ _ (wrote-place c.rule.ensures.wrote) (number_lt _ _ c.load-there.type_inv) (walk-begins c.into_iter-t-iterator.ensures.into_iter_gives c.stages-t-items.ensures)
          (next-all run below (c.load-there.ensures ∙ ap (held run.setup.next.now) (start_is run h.holding f c.stage_of.ensures))),
      refl,
    )

pub ax-formula-requires : goal.ax-formula-requires
ax-formula-requires t c =
    let run = c.args.self.now in
    let h = c.requires in
    let f = fields run h.holding refl in
    let rule = rule-of run h in
    let row = run-row run in
    let below = start-below run h.holding rule.t in
    let turn = c.in-Some.ensures.steps in
    let edge = each-edge row below _ _ _ _ c.loop-t.invariant.0 turn in (
      omega (arith, c.decreases, f.a, rule.a),
      under run h.holding f.a rule.a f.x (omega (arith, rule.x)) (each-stage row below _ _ _ _ c.loop-t.invariant.0 turn) c.bound.ensures
          ((each_next_lem (run-readable run) _ _).0 (ax-each run h) _ edge),
    )

pub ax-loop-t-preserved : goal.ax-loop-t-preserved
ax-loop-t-preserved t c =
    let run = c.args.self.now in
    let h = c.requires in
    let f = fields run h.holding refl in
    let rule = rule-of run h in
    let row = run-row run in
    let below = start-below run h.holding rule.t in
    let turn = c.in-Some.ensures.steps in (
      turns-on row below _ _ _ _ c.loop-t.invariant.0 turn (operand-wrote run f.a f.x (omega (arith, rule.x))
          c.bound.ensures c.formula.ensures.wrote),
      c.formula.ensures.same ∙ c.loop-t.invariant.1,
    )

pub ax-returns-clause-wrote : goal.ax-returns-clause-wrote
ax-returns-clause-wrote t c =
    let run = c.args.self.now in
    let h = c.requires in
    let rule = rule-of run h in
    let row = run-row run in
    let below = start-below run h.holding rule.t in
    wrote-same (ax-steps run h)
    (wrote-both c.rule.ensures.wrote
    (each-end row below _ _ _ _ c.loop-t.invariant.0 c.in-None.ensures.steps.0))

pub ex-ex-c-requires : goal.ex-ex-c-requires
ex-ex-c-requires t c =
    let run = c.args.self.now in
    let h = c.requires in
    let f = fields run h.holding refl in
    let rule = rule-of run h in
    let s-is = start_is run h.holding f c.stage_of.ensures in
    let below = start-below run h.holding rule.t in
    (ready_of run h.holding f.a rule.a, omega (arith, s-is, below, run-stages run))

pub ex-formula-requires : goal.ex-formula-requires
ex-formula-requires t c =
    let run = c.args.self.now in
    let env = c.args.env in
    let h = c.requires in
    let f = fields run h.holding refl in
    let rule = rule-of run h in
    let s-is = start_is run h.holding f c.stage_of.ensures in
    let below = start-below run h.holding rule.t in
    let chosen = choice-of run env f.a f.x s-is c.ex-c.ensures in
    let at = ex-holds (run-readable run) (run-a run c.args.e env).holds _ below chosen (ex-some run h) in (
      omega (arith, c.decreases, f.a, rule.a),
      under run h.holding f.a rule.a f.x (omega (arith, rule.x)) at.0 c.bound.ensures at.1,
    )

pub ex-returns-clause-wrote : goal.ex-returns-clause-wrote
ex-returns-clause-wrote t c =
    let run = c.args.self.now in
    let env = c.args.env in
    let h = c.requires in
    let f = fields run h.holding refl in
    let rule = rule-of run h in
    let s-is = start_is run h.holding f c.stage_of.ensures in
    let chosen = choice-of run env f.a f.x s-is c.ex-c.ensures in
    wrote-same (ex-steps run h _ chosen)
    (wrote-both c.rule.ensures.wrote
    (wrote-both c.put.ensures.wrote (operand-wrote run f.a f.x (omega (arith, rule.x)) c.bound.ensures
    c.formula.ensures.wrote)))

pub af_from-invariant_of-a : goal.af_from-invariant_of-a
af_from-invariant_of-a t c =
    let run = c.args.self.now in
    let h = c.requires in
    let f = fields run h.holding refl in
    omega (arith, f.x, (rule-of run h).x)

pub ar_from-invariant_of-a : goal.ar_from-invariant_of-a
ar_from-invariant_of-a t c =
    let run = c.args.self.now in
    let h = c.requires in
    let f = fields run h.holding refl in
    omega (arith, f.x, (rule-of run h).x)

pub eu-invariant_of-a : goal.eu-invariant_of-a
eu-invariant_of-a t c =
    let run = c.args.self.now in
    let h = c.requires.0 in
    let f = fields run h.holding refl in
    omega (arith, f.x, (rule-of run h).x)

pub eu-invariant_of-b : goal.eu-invariant_of-b
eu-invariant_of-b t c =
    let run = c.args.self.now in
    let h = c.requires.0 in
    let f = fields run h.holding refl in
    omega (arith, f.y, (rule-of run h).y)

pub ex-invariant_of-a : goal.ex-invariant_of-a
ex-invariant_of-a t c =
    let run = c.args.self.now in
    let h = c.requires in
    let f = fields run h.holding refl in
    omega (arith, f.x, (rule-of run h).x)
