-- The writers of steps, `pen::run::Run`: the measure of each, and what holds at each turn of their loops. The measure counts the entry, and along a walk the
-- fuel; the small constants order the writers of one step.
use mathlib.Core.Path.{◌≡◌}
use Rattle.sets.specs.Number.{number}
use Rattle.format.specs.Image.{stages_of, graph_of}
use Rattle.hand.specs.Environment.{env_of}
use Rattle.pen.proofs.EachLaws.{Turns}
use Rattle.pen.specs.Steps.{a_of, af_steps, Noted, two_steps, start_of}
use Prim.Native.Nat.{◌-◌, ◌+◌, ◌*◌}
use Rattle.rules.specs.Kind.{Kind}
use Rattle.checker.specs.Reading.{walk_of}
use Rattle.pen.proofs.StepLaws.{EgGoing, EuGoing}
use Rattle.pen.proofs.run.Run.+af_af_from_af_step_ar_ar_from_ax_eg_eu_ex_formula_or.Given as goal

abbrev pub invariant-af_step-loop-t : goal.invariant-af_step-loop-t
invariant-af_step-loop-t l =
    Turns (stages_of l.self.setup.image.now) ((graph_of l.self.setup.image.now).next l.s)
    (af_steps l.self.setup.image.now l.self.setup.table.now l.self.side l.course.entry (env_of l.course.env)) l.self.writing l.initial.sheet.at l.initial.sheet.out.now
    (number l.t-iterator.left) l.sheet.out.now l.sheet.at
    × Noted l.self.setup.image.now l.self.setup.table.now l.self.side l.course.entry (env_of l.course.env) l.lens
    × (l.sheet.out.ghost_name ≡ l.initial.sheet.out.ghost_name)

abbrev pub invariant-ar-loop-t : goal.invariant-ar-loop-t
invariant-ar-loop-t l =
    Turns (stages_of l.self.setup.image.now) ((graph_of l.self.setup.image.now).next l.s)
    (two_steps l.self.setup.image.now l.self.setup.table.now l.self.side Kind.AR l.course.entry (env_of l.course.env) (l.left - 1) (walk_of (number l.longer))) l.self.writing l.initial.sheet.at l.initial.sheet.out.now
    (number l.t-iterator.left) l.sheet.out.now l.sheet.at
    × (l.sheet.out.ghost_name ≡ l.initial.sheet.out.ghost_name)

abbrev pub invariant-eg-loop : goal.invariant-eg-loop
invariant-eg-loop l =
    EgGoing l.self.setup.image.now l.self.setup.table.now l.self.side l.e l.env l.self.writing l.initial.sheet.at l.initial.sheet.out.now (number l.walk) l.s (l.self.setup.stages + 1 - l.counter) l.sheet.out.now l.sheet.at
    × (l.sheet.out.ghost_name ≡ l.initial.sheet.out.ghost_name)

abbrev pub invariant-eu-loop : goal.invariant-eu-loop
invariant-eu-loop l =
    EuGoing l.self.setup.image.now l.self.setup.table.now l.self.side l.e l.env l.self.writing l.initial.sheet.at l.initial.sheet.out.now l.s (l.self.setup.stages + 1 - l.counter) l.sheet.out.now l.sheet.at
    × (l.sheet.out.ghost_name ≡ l.initial.sheet.out.ghost_name)

abbrev pub decreases-af : goal.decreases-af
decreases-af l = 400 * l.course.now.entry + 4 * l.left + 2

abbrev pub decreases-af_from : goal.decreases-af_from
decreases-af_from l = 400 * l.e + 380

abbrev pub decreases-af_step : goal.decreases-af_step
decreases-af_step l = 400 * l.course.now.entry + 4 * l.left + 1

abbrev pub decreases-ar : goal.decreases-ar
decreases-ar l = 400 * l.course.now.entry + 4 * l.left + 1

abbrev pub decreases-ar_from : goal.decreases-ar_from
decreases-ar_from l = 400 * l.e + 380

abbrev pub decreases-ax : goal.decreases-ax
decreases-ax l = 400 * l.e + 380

abbrev pub decreases-eg : goal.decreases-eg
decreases-eg l = 400 * l.e + 380

abbrev pub decreases-eu : goal.decreases-eu
decreases-eu l = 400 * l.e + 380

abbrev pub decreases-ex : goal.decreases-ex
decreases-ex l = 400 * l.e + 380

abbrev pub decreases-formula : goal.decreases-formula
decreases-formula l = 400 * l.e + 390

abbrev pub decreases-or : goal.decreases-or
decreases-or l = 400 * l.e + 380

abbrev pub invariant-ax-loop-t : goal.invariant-ax-loop-t
invariant-ax-loop-t l =
    Turns (stages_of l.self.setup.image.now) ((graph_of l.self.setup.image.now).next (start_of l.self.setup.image.now l.self.setup.table.now l.self.side l.e (env_of l.env)))
    (a_of l.self.setup.image.now l.self.setup.table.now l.self.side l.e (env_of l.env)).steps l.self.writing l.initial.sheet.at l.initial.sheet.out.now
    (number l.t-iterator.left) l.sheet.out.now l.sheet.at
    × (l.sheet.out.ghost_name ≡ l.initial.sheet.out.ghost_name)
