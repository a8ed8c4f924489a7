-- The successor sets of an image in a row are the graph that it holds.
--
--     decoded-row                                 where there is room, the row holds the image's graph
--
-- Assumes nothing.
use Prim.Native.Nat.{ℕ, ◌≤◌}
use native.Mathlib.Omega.{arith}
use mathlib.Core.Path.{◌≡◌, sym, ap, ◌∙◌}
use mathlib.Core.Bool.{Bool, ◌&&◌}
use mathlib.Core.List.{List}
use lib.ListN.{length}
use borrow.Author.Tests.{lt-ltb}
use Rattle.sets.specs.declared.Set.{Set}
use Rattle.sets.specs.Number.{width}
use Rattle.sets.proofs.LawsRow.{room-enough}
use Rattle.modal.specs.Row.{member, Row}
use Rattle.format.specs.Image.{stages_of, set_of, graph_of}
use Rattle.hand.specs.Setup.{Decoded}

-- A row with room for as many stages as a set has then holds the image's graph.
pub decoded-row : {image : List ℕ} {before row : List Set} {n : ℕ} → n ≡ stages_of image → n ≤ width → width ≤ length before → Decoded image n before row
    → Row row n (graph_of image)
decoded-row {image} {before} {row} {n} e w long d = record {
  room = w;
  stages = sym e;
  edges = λ s t h i.
      ap (λ (b : Bool). b && member (set_of image s) t) (lt-ltb s (stages_of image) (omega arith))
      ∙ ap (λ (x : ℕ). member x t) (sym (d.sets s h (room-enough before s (omega arith))));
}
