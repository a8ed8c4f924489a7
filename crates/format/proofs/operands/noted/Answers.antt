-- `format::operands::noted` meets its contract: the operand gets its flag where it has none.
-- Assumes nothing.
use Rattle.format.proofs.OperandLaws.{flag-new}
use Rattle.format.proofs.operands.noted.Goals as goal

pub returns : goal.returns
returns c = λ row was. flag-new _ _ c.requires row was c.if-seen-o.false
