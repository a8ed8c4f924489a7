-- `format::question::read` meets its contract: at each `return` the tests before it say that no earlier condition holds.
-- Assumes nothing.
use mathlib.Core.Path.{refl}
use mathlib.Core.Logic.{inl, inr}
use native.Mathlib.Omega.{arith}
use Rattle.std.proofs.lemmas.Result.{err_from_is_err_and}
use Rattle.model.specs.Decides.{decided}
use Rattle.format.specs.Question.{setup_conditions, goal_conditions}
use Rattle.format.specs.declared.Refusal.TheVariants as R
use Rattle.format.proofs.RefusalLaws.{given-first, given-later}
use Rattle.format.proofs.ReadingLaws.{shape-entries, shape-stages}
use Rattle.format.proofs.question.read.Goals as goal

pub returns-in_err-shape : goal.returns-in_err-shape
returns-in_err-shape c =
    let image = c.args.image.now in
    let table = c.args.table.now in
    let p = err_from_is_err_and c.from_residual.result c.from_residual.ensures.1 in
    rw (p.1, p.2) (given-first (setup_conditions image table) (goal_conditions image table c.args.goal c.args.start) _ c.in_err-shape.ensures)

pub returns-then-shape-goal : goal.returns-then-shape-goal
returns-then-shape-goal c =
    let image = c.args.image.now in
    let table = c.args.table.now in
    given-later (setup_conditions image table) (goal_conditions image table c.args.goal c.args.start) R.NoSuchGoal c.in_ok-shape.ensures.clear
    (inl (refl, omega (arith, c.if-shape-goal.true, shape-entries c.in_ok-shape.ensures)))

pub returns-then-shape-start : goal.returns-then-shape-start
returns-then-shape-start c =
    let image = c.args.image.now in
    let table = c.args.table.now in
    given-later (setup_conditions image table) (goal_conditions image table c.args.goal c.args.start) R.NoSuchStart c.in_ok-shape.ensures.clear
    (inr (
      λ h. omega (arith, h, c.if-shape-goal.false, shape-entries c.in_ok-shape.ensures),
      inl (refl, omega (arith, c.if-shape-start.true, shape-stages c.in_ok-shape.ensures)),
    ))

pub returns-then-other_free : goal.returns-then-other_free
returns-then-other_free c =
    let image = c.args.image.now in
    let table = c.args.table.now in
    given-later (setup_conditions image table) (goal_conditions image table c.args.goal c.args.start) R.FreeVariable c.in_ok-shape.ensures.clear
    (inr (
      λ h. omega (arith, h, c.if-shape-goal.false, shape-entries c.in_ok-shape.ensures),
      inr (
        λ h. omega (arith, h, c.if-shape-start.false, shape-stages c.in_ok-shape.ensures),
        inl (refl, decided _ c.other_free.ensures c.if-other_free.true),
      ),
    ))
