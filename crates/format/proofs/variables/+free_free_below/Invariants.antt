-- `format::variables::free` and `free_below` meet their contracts. An operand is looked at only where its number is lower: the
-- measure is twice the entry's number, and one more where the entry itself is looked at.
-- Assumes nothing.
use Prim.Native.Nat.{◌+◌, ◌*◌}
use Rattle.format.proofs.variables.+free_free_below.Given as goal

abbrev pub decreases-free : goal.decreases-free
decreases-free l = 2 * l.e + 1

abbrev pub decreases-free_below : goal.decreases-free_below
decreases-free_below l = 2 * l.e
