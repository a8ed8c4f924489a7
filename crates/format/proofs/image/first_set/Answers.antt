-- `format::image::first_set` meets its contract. The loop has passed i predicates, and `first` is the number of the next one's first set.
-- Assumes nothing.
use native.Mathlib.Omega.{arith}
use Rattle.format.proofs.ImageLaws.{first-none, first_more, sets-for-le}
use borrow.Author.Rules.{rules}
use Rattle.format.proofs.image.first_set.Goals as goal

pub loop-i-init : goal.loop-i-init
loop-i-init c = (search rules, first-none _ c.byte-n.ensures, omega (arith, c.byte-n.type_inv))

pub loop-i-preserved : goal.loop-i-preserved
loop-i-preserved c = (
  omega arith,
  first_more _ _ c.byte-n.ensures c.loop-i.invariant.1 cc,
  omega (arith, sets-for-le c.byte-n.result c.byte.result (omega (arith, c.byte-n.type_inv)), c.sets_for-first.ensures),
)
