-- `format::image::plain_sets` meets its contract: the loop has found the first i successor sets to have a stage each and none at n or above.
-- Assumes nothing.
use Prim.Native.Nat.{ℕ, ◌≤◌, ◌<◌}
use Rattle.sets.specs.Member.{Empty}
use Rattle.format.specs.Image.{set_of, HighBitIn}
use Rattle.format.proofs.image.plain_sets.Given as goal

abbrev pub invariant-loop-i : goal.invariant-loop-i
invariant-loop-i l = (l.i ≤ l.n) × ((k : ℕ) → k < l.i → HighBitIn l.image k → ⊥) × ((k : ℕ) → k < l.i → Empty (set_of l.image k) → ⊥)
