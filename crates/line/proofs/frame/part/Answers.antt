-- `line::frame::part` meets its contract: the bytes begin with a part where they are as long as the length before it says.
-- Assumes nothing.
use Rattle.std.proofs.Common.{rules, arith}
use Rattle.line.proofs.FramingLaws.{part-found}
use Rattle.line.proofs.frame.part.Goals as goal

pub returns : goal.returns
returns c =
    part-found c.args.bytes.now c.in_ok-size.rest.now _ _ (λ i. (c.type_inv.bytes i).fits) (omega (arith, c.in_ok-size.ensures.cases.2)) (search rules)
    (search rules) c.split_at_checked.ensures.cases
