-- `verdict::kinds::joined` meets its contract: what is common to the sets, or their union.
use Rattle.verdict.proofs.kinds.joined.Goals as goal

pub returns-else-first : goal.returns-else-first
returns-else-first c = rw c.if-first.false c.union.ensures
