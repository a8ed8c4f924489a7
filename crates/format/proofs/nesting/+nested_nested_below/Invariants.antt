-- `format::nesting::nested` and `nested_below` meet their contracts. An operand is looked at only where its number is lower: the
-- measure is twice the entry's number, and one more where the entry itself is looked at.
-- Assumes nothing.
use Prim.Native.Nat.{◌+◌, ◌*◌}
use Rattle.format.proofs.nesting.+nested_nested_below.Given as goal

abbrev pub decreases-nested : goal.decreases-nested
decreases-nested l = 2 * l.e + 1

abbrev pub decreases-nested_below : goal.decreases-nested_below
decreases-nested_below l = 2 * l.e
