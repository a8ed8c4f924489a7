-- `format::image::first_set` meets its contract. The loop has passed i predicates, and `first` is the number of the next one's first set.
-- Assumes nothing.
use Prim.Native.Nat.{◌≤◌, ◌+◌, ◌*◌}
use mathlib.Core.Path.{◌≡◌}
use Rattle.format.specs.Image.{first_set}
use Rattle.format.proofs.image.first_set.Given as goal

abbrev pub invariant-loop-i : goal.invariant-loop-i
invariant-loop-i l = (l.i ≤ l.q) × (l.first ≡ first_set l.image l.i) × (l.first ≤ 255 + 256 * l.i)
