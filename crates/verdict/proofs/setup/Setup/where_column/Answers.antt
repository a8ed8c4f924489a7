-- `verdict::setup::Setup::where_column` meets its contract. The loop's invariant: the stages found are those below s with P(s, b).
use mathlib.Core.Path.{◌∙◌, sym, ap}
use native.Mathlib.Omega.{arith}
use borrow.Author.Rules.{rules}
use Rattle.sets.specs.Number.{number}
use Rattle.verdict.proofs.AtomLaws.{column-turn}
use Rattle.verdict.proofs.CollectLaws.{collects-take, collects-skip}
use Rattle.verdict.proofs.setup.Setup.where_column.Goals as goal
use Rattle.verdict.proofs.setup.Setup.where_column.Goals.{then-has, else-has}

pub loop-s-preserved : goal.loop-s-preserved
loop-s-preserved c =
    let inv = c.loop-s.invariant in
    let own = column-turn c.args.self.now.image.now c.args.first c.args.b c.args.env c.args.x c.loop-s.s c.requires.1 c.bound.ensures c.stage_of-c.ensures
    c.set.ensures c.has.ensures in (
      search rules,
      elim c.if-has.branch [
        | then-has w ↦ collects-take inv.1 (omega (arith, c.args.self.now.row.room)) (sym own ∙ w.if-has.true) (ap number w.found-is ∙ w.with-found.ensures)
        | else-has w ↦ collects-skip inv.1 (sym own ∙ w.if-has.false) (ap number w.found-is)
      ],
    )
