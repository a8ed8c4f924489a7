-- `verdict::setup::Setup::where_holds`, `where_modal`, `where_each` and `modal_set` meet their contracts. The measure is four times the entry's
-- number, and as much more as each of them stands above `modal_set`, which goes on to lower entries.
use Prim.Native.Nat.{◌+◌, ◌*◌, ◌≤◌}
use Rattle.sets.specs.Number.{number}
use Rattle.verdict.specs.Evaluation.{Collects, modal_at}
use Rattle.verdict.proofs.setup.Setup.+modal_set_where_each_where_holds_where_modal.Given as goal

abbrev pub decreases-modal_set : goal.decreases-modal_set
decreases-modal_set l = 4 * l.e

abbrev pub decreases-where_each : goal.decreases-where_each
decreases-where_each l = 4 * l.e + 1

abbrev pub decreases-where_holds : goal.decreases-where_holds
decreases-where_holds l = 4 * l.e + 3

abbrev pub decreases-where_modal : goal.decreases-where_modal
decreases-where_modal l = 4 * l.e + 2

abbrev pub invariant-where_each-loop-s : goal.invariant-where_each-loop-s
invariant-where_each-loop-s l = (l.s ≤ l.self.stages) × Collects l.s (modal_at l.self.image.now l.self.table.now l.e l.env l.x) (number l.found)
