-- `format::operands::noted_all` meets its contract: the loop has noted the operands of the first e entries.
-- Assumes nothing.
use native.Mathlib.Omega.{arith}
use borrow.Author.Rules.{rules}
use Rattle.std.proofs.lemmas.Result.{err_from_is_err_and}
use Rattle.format.specs.Table.{operands}
use Rattle.format.proofs.OperandLaws.{flagged-none, flagged-entry, twice-entry}
use Rattle.format.proofs.operands.noted_all.Goals as goal

pub loop-e-init : goal.loop-e-init
unfolding operands
loop-e-init c = (search rules, flagged-none)

pub returns-in_err-noted_operands : goal.returns-in_err-noted_operands
returns-in_err-noted_operands c =
    let p = err_from_is_err_and c.from_residual.result c.from_residual.ensures.1 in
    let found = c.in_err-noted_operands.ensures in
    rw (p.1, p.2) (found.0, twice-entry _ _ _ c.entry.ensures (omega (arith, c.byte-m.ensures)) (found.1 _ c.loop-e.invariant.1))

pub loop-e-preserved : goal.loop-e-preserved
loop-e-preserved c = (omega arith, flagged-entry _ _ c.entry.ensures c.in_ok-noted_operands.ensures c.loop-e.invariant.1)
