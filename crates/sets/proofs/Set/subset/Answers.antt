-- `Set::subset` meets its contract: what is common to both is all of the first.
use Rattle.sets.specs.Number.{number}
use Rattle.sets.proofs.LawsMember.{by_eqb, within-and}
use Rattle.sets.proofs.Set.subset.Goals as goal

pub returns : goal.returns
unfolding number
returns c =
    let e = within-and c.args.self.bits c.args.other.bits in
    by_eqb _ _ (e.1, e.0)
