-- `Set::is_empty` meets its contract: only the number 0 has no digit.
use Rattle.sets.specs.Number.{number}
use Rattle.sets.proofs.LawsMember.{by_eqb, empty-zero}
use Rattle.sets.proofs.Set.is_empty.Goals as goal

pub returns : goal.returns
unfolding number
returns c = let e = empty-zero c.args.self.bits in by_eqb _ 0 (e.1, e.0)
