-- The readers of steps, `checker::steps`: the measure of each, and what holds at each turn of their loops. The measure counts the entry, and along a walk
-- the stages that are not on it; the small constants order the readers of one step.
use Prim.Native.Nat.{ℕ, ◌+◌, ◌*◌, ◌-◌}
use lib.Count.{ones}
use Rattle.sets.specs.Number.{number, width}
use Rattle.hand.specs.Environment.{env_of}
use Rattle.std.specs.Prelude.{Ok}
use Rattle.format.specs.Image.{stages_of, graph_of}
use Rattle.format.specs.Table.{record_at}
use Rattle.checker.specs.Reading.{read_a, read_on}
use Rattle.checker.proofs.EachLaws.{Turns}
use Rattle.checker.proofs.steps.Steps.+formula_walk.Given as goal

-- How deep the reading of entry e along a walk may go.
abbrev pub deep : ℕ → ℕ → ℕ
deep e set = 200 * e + 2 * (width - ones set)

abbrev pub decreases-at_each : goal.decreases-at_each
decreases-at_each l = 200 * l.e

abbrev pub decreases-on_at_each : goal.decreases-on_at_each
decreases-on_at_each l = deep l.e (number l.met) + 1

abbrev pub decreases-walk : goal.decreases-walk
decreases-walk l = deep l.e (number l.met) + 2

abbrev pub decreases-formula : goal.decreases-formula
decreases-formula l = 200 * l.e + 131

abbrev pub invariant-at_each-loop-t : goal.invariant-at_each-loop-t
invariant-at_each-loop-t l =
    Turns (stages_of l.self.image.now) ((graph_of l.self.image.now).next l.s)
    (λ t. read_a l.self.image.now l.self.table.now l.self.bytes.now l.self.side l.e (record_at l.self.table.now l.e) (env_of l.env) t)
    (Ok l.fn.at) (number l.t-iterator.left) (Ok l.at)

abbrev pub invariant-on_at_each-loop-t : goal.invariant-on_at_each-loop-t
invariant-on_at_each-loop-t l =
    Turns (stages_of l.self.image.now) ((graph_of l.self.image.now).next l.s)
    (λ t. read_on l.self.image.now l.self.table.now l.self.bytes.now l.self.side l.e (env_of l.env) (number l.fn.met) l.s t)
    (Ok l.fn.at) (number l.t-iterator.left) (Ok l.at)
