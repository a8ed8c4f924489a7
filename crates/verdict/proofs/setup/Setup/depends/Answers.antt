-- `verdict::setup::Setup::depends` meets its contract: what the row of the entry's kind says of its operands.
use mathlib.Core.Path.{refl}
use Rattle.model.specs.Decides.{refuted}
use Rattle.format.proofs.TreeLaws.{row}
use Rattle.verdict.proofs.EvaluationLaws.{entry-ruled}
use Rattle.verdict.proofs.EntryLaws.{inner-decides, inner-none, first-decides, second-decides}
use Rattle.verdict.proofs.setup.Setup.depends.Goals as goal

pub returns-in-Unary : goal.returns-in-Unary
returns-in-Unary c =
    inner-decides c.args.self.now.image.now (row c.entry-r.ensures c.kind_of.ensures c.sort_of.ensures c.in-Unary.is) (entry-ruled c.args.self.now c.requires.0) c.args.x
    c.free_under.result c.free_under.ensures

pub returns-then-free_under : goal.returns-then-free_under
returns-then-free_under c =
    first-decides c.args.self.now.image.now (row c.entry-r.ensures c.kind_of.ensures c.sort_of.ensures c.in-Binary.is) (entry-ruled c.args.self.now c.requires.0) c.args.x
    c.if-free_under.true c.free_under-in-Binary.ensures

pub returns-else-free_under : goal.returns-else-free_under
returns-else-free_under c =
    second-decides c.args.self.now.image.now (row c.entry-r.ensures c.kind_of.ensures c.sort_of.ensures c.in-Binary.is) (entry-ruled c.args.self.now c.requires.0) c.args.x
    c.free_under-else-free_under.result
    (refuted _ c.free_under-in-Binary.ensures c.if-free_under.false) c.free_under-else-free_under.ensures

pub returns-in-Constant : goal.returns-in-Constant
returns-in-Constant c =
    inner-none c.args.self.now.image.now (row c.entry-r.ensures c.kind_of.ensures c.sort_of.ensures refl) (entry-ruled c.args.self.now c.requires.0) c.in-Constant.is c.args.x
