-- `format::variables::variable_in` meets its contract: a stage names no variable, and a variable itself.
-- Assumes nothing.
use Rattle.format.proofs.VariableLaws.{named-variable}
use Rattle.format.proofs.variables.variable_in.Goals as goal

pub returns-else-t-lt64 : goal.returns-else-t-lt64
returns-else-t-lt64 c = named-variable c.if-t-lt64.false c.only.ensures
