-- `format::operands::noted_all` meets its contract: the loop has noted the operands of the first e entries.
-- Assumes nothing.
use Prim.Native.Nat.{◌≤◌}
use Rattle.format.specs.Table.{operands}
use Rattle.format.specs.Reading.{Flagged}
use Rattle.format.proofs.operands.noted_all.Given as goal

abbrev pub invariant-loop-e : goal.invariant-loop-e
invariant-loop-e l = (l.e ≤ l.m) × Flagged (operands l.table l.e) l.seen
