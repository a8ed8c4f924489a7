-- `format::variables::free_in_atom` meets its contract: the arity says how many terms the atom has.
-- Assumes nothing.
use Rattle.format.proofs.VariableLaws.{named-two}
use Rattle.format.proofs.variables.free_in_atom.Goals as goal

pub returns-then-byte-eq2 : goal.returns-then-byte-eq2
returns-then-byte-eq2 c =
    named-two c.args.image.now c.args.r _ _ c.byte.ensures c.if-byte-eq2.true
    c.union.ensures c.variable_in.ensures c.variable_in-then-byte-eq2.ensures
