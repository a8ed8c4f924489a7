-- What is known of a run over a certificate: its row holds the successor sets of a readable graph, and the records of its table keep their rules.
--
--     run-readable             the graph is readable: of one that is known to be, the successors are found by a search
--     run-row, run-ruled, run-stages
--                              the row by the image's own number of stages; the rules; the number that the setup has
--     run-a, run-b             the operands of an entry
--
-- Assumes nothing.
use Prim.Native.Nat.{ℕ, ◌<◌}
use mathlib.Core.Path.{◌≡◌, sym, subst}
use Rattle.std.proofs.Math.Dec.{T_prop}
use Rattle.std.proofs.Math.Logic.{∥∥₁_elim}
use Rattle.std.specs.Coded.{×_prop, le_prop}
use lib.Dec.{T}
use Rattle.model.specs.Graph.{Graph, Readable}
use Rattle.logic.specs.Test.{any_below}
use Rattle.logic.proofs.Booleans.{any_below_lem}
use Rattle.modal.specs.Row.{Row}
use Rattle.format.specs.Image.{stages_of, graph_of}
use Rattle.format.specs.Table.{entries_of, record_at, Ruled}
use Rattle.format.proofs.ReadingLaws.{all-ruled}
use Rattle.hand.specs.Environment.{env_of}
use Rattle.hand.specs.declared.env.Env.{Env as Slots}
use Rattle.written.specs.Written.{Entry}
use Rattle.pen.specs.Steps.{a_of, b_of}
use Rattle.pen.specs.declared.run.Run.{Run}

-- Of a graph that is known to be readable, a successor of a stage is found below the number of stages.
readable-of : (G : Graph) → ∥ Readable G ∥₁ → Readable G
readable-of G known = record {
  inside = λ s t e. ∥∥₁_elim known (×_prop le_prop le_prop) (λ r. r.inside s t e);
  total = λ s h.
      let found : T (any_below G.stages (G.next s)) = ∥∥₁_elim known (T_prop _)
      (λ r. (any_below_lem G.stages (G.next s)).1 ((r.total s h).0, (r.inside s (r.total s h).0 (r.total s h).1).1, (r.total s h).1)) in
      let at = (any_below_lem G.stages (G.next s)).0 found in
      (at.0, at.2);
}

module _ (run : Run) where
  pub run-readable : Readable (graph_of run.setup.image.now)
  run-readable = readable-of (graph_of run.setup.image.now) run.readable

  pub run-row : Row run.setup.next.now (stages_of run.setup.image.now) (graph_of run.setup.image.now)
  run-row = subst (λ (k : ℕ). Row run.setup.next.now k (graph_of run.setup.image.now)) (sym run.setup.row.stages) run.setup.row

  pub run-ruled : (i : ℕ) → i < entries_of run.setup.table.now → Ruled run.setup.image.now i (record_at run.setup.table.now i)
  run-ruled = all-ruled run.setup.image.now run.setup.table.now run.setup.ruled

  pub run-stages : run.setup.stages ≡ stages_of run.setup.image.now
  run-stages = sym run.setup.row.stages

  -- The a and the b of an entry of the run's table.
  abbrev pub run-a : ℕ → Slots → Entry
  run-a e env = a_of run.setup.image.now run.setup.table.now run.side e (env_of env)

  abbrev pub run-b : ℕ → Slots → Entry
  run-b e env = b_of run.setup.image.now run.setup.table.now run.side e (env_of env)
