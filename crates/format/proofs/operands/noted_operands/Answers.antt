-- `format::operands::noted_operands` meets its contract: two operands are noted one after the other.
-- Assumes nothing.
use mathlib.Core.Path.{◌≡◌}
use mathlib.Core.List.{[], ◌∷◌}
use mathlib.Core.Logic.{inl, inr}
use Rattle.std.proofs.lemmas.Result.{err_from_is_err_and}
use Rattle.format.specs.Table.{operands_in}
use Rattle.format.specs.declared.record.Sort.TheVariants as S
use Rattle.format.proofs.OperandLaws.{operands-by, noted-two, noted-once}
use Rattle.format.proofs.operands.noted_operands.Goals as goal
use Rattle.format.proofs.operands.noted_operands.Goals.{In-Junction}

-- Both rows of kinds have the operands a and b.
both : (c : In-Junction) → operands_in c.args.r ≡ c.args.r.a ∷ c.args.r.b ∷ []
both c = elim c.in-Junction.is [
  | inl e ↦ operands-by S.Junction c.args.r _ _ c.kind_of.ensures c.sort_of.ensures e
  | inr e ↦ operands-by S.Binary c.args.r _ _ c.kind_of.ensures c.sort_of.ensures e
]

pub returns-in_err-noted-in-Junction : goal.returns-in_err-noted-in-Junction
returns-in_err-noted-in-Junction c =
    let p = err_from_is_err_and c.from_residual.result c.from_residual.ensures.1 in
    rw (p.1, p.2, both (goal.at.returns-in_err-noted-in-Junction c).In-Junction) (noted-once _ c.noted-in-Junction.new.seen _ _ _ c.in_err-noted-in-Junction.ensures)

pub returns-in_ok-noted-in-Junction : goal.returns-in_ok-noted-in-Junction
returns-in_ok-noted-in-Junction c =
    rw (both (goal.at.returns-in_ok-noted-in-Junction c).In-Junction) (noted-two _ _ _ _ _ c.noted-in-Junction-2.result c.in_ok-noted-in-Junction.ensures c.noted-in-Junction-2.ensures)
