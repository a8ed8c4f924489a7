-- `format::image::read` meets its contract: where not all successor sets are plain and no bit is too high, a stage has none.
-- Assumes nothing.
use mathlib.Core.Path.{refl}
use mathlib.Core.Logic.{inl, inr}
use native.Mathlib.Omega.{arith}
use Rattle.model.specs.Decides.{decided, refuted}
use Rattle.format.proofs.ImageLaws.{plain-stop}
use Rattle.format.proofs.RefusalLaws.{passed}
use Rattle.format.proofs.image.read.Goals as goal

pub returns-then-plain-n : goal.returns-then-plain-n
returns-then-plain-n c =
    let low = refuted _ c.high_bit.ensures c.if-high_bit.false in
    inr (
      passed (decided _ c.begins.ensures c.if-not-begins.false),
      inr (
        passed (decided _ c.sizes_fit.ensures c.if-not-sizes_fit.false),
        inr (
          passed (decided _ c.length_fits.ensures c.if-not-length_fits.false),
          inr (low, inl (refl, plain-stop _ _ c.plain_sets-plain.ensures low (omega (arith, c.byte-n.ensures, c.if-plain-n.true)))),
        ),
      ),
    )
