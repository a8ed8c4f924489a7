-- `deadends::report` meets its contract: the refusal of the image, or 15, or what `listed` ensures.
use Rattle.std.proofs.lemmas.Result.{err_from_is_err_and}
use Rattle.format.specs.Image.{image_conditions}
use Rattle.format.proofs.RefusalLaws.{given-first}
use Rattle.deadends.specs.DeadEnd.{fired_conditions}
use Rattle.deadends.proofs.report.Goals as goal

pub returns-in_err-shape : goal.returns-in_err-shape
returns-in_err-shape c =
    let p = err_from_is_err_and c.from_residual.result c.from_residual.ensures.1 in
    rw (p.1, p.2) (given-first (image_conditions c.args.image.now) (fired_conditions c.args.image.now) _ c.in_err-shape.ensures)
