-- `verdict::setup::Setup::where_column` meets its contract. The loop's invariant: the stages found are those below s with P(s, b).
use Prim.Native.Nat.{◌≤◌}
use Rattle.sets.specs.Number.{number}
use Rattle.verdict.specs.Evaluation.{Collects, column}
use Rattle.verdict.proofs.setup.Setup.where_column.Given as goal

abbrev pub invariant-loop-s : goal.invariant-loop-s
invariant-loop-s l = (l.s ≤ l.self.stages) × Collects l.s (column l.self.image.now l.first l.b l.env l.x) (number l.found)
