-- `format::table::read` meets its contract: the image's refusals come first, and the flags are those of the table.
-- Assumes nothing.
use Rattle.std.proofs.lemmas.Result.{err_from_is_err_and}
use Rattle.model.specs.Decides.{decided, refuted}
use Rattle.format.specs.Image.{image_conditions}
use Rattle.format.specs.Table.{table_conditions}
use Rattle.format.proofs.RefusalLaws.{given-first}
use Rattle.format.proofs.RootLaws.{roots-of}
use Rattle.format.proofs.table.read.Goals as goal

pub returns-in_err-shape : goal.returns-in_err-shape
returns-in_err-shape c =
    let p = err_from_is_err_and c.from_residual.result c.from_residual.ensures.1 in
    rw (p.1, p.2) (given-first (image_conditions c.args.image.now) (table_conditions c.args.image.now c.args.table.now) _ c.in_err-shape.ensures)

pub nested_too_deep-requires : goal.nested_too_deep-requires
nested_too_deep-requires c =
    roots-of c.args.image.now c.args.table.now (decided _ c.entries_fit.ensures c.if-not-entries_fit.false)
    (refuted _ c.bad_record.ensures c.if-bad_record.false) c.in_ok-seen.ensures
