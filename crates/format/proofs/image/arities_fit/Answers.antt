-- `format::image::arities_fit` meets its contract: each arity byte is asked whether it is 1 or 2.
-- Assumes nothing.
use native.Mathlib.Omega.{arith}
use borrow.Author.Rules.{rules}
use borrow.Author.Tests.{tests}
use Rattle.format.specs.Image.{ArityFits}
use Rattle.format.proofs.ImageLaws.{arity-fits, arity-breaks}
use Rattle.format.proofs.RangeLaws.{all-range}
use Rattle.format.proofs.image.arities_fit.Goals as goal

pub returns : goal.returns
returns c =
    let image = c.args.image.now in
    all-range _ _ _ (ArityFits image) (λ q. ArityFits image q → ⊥) c.all.ensures.ran
    (λ q g k. search (rules, tests, arity-fits)) (λ q g k. search (rules, tests, arity-breaks))
    (λ each q h. each q (omega arith) (omega (arith, c.byte-p.ensures)))
    (λ q from to breaks fits. breaks (fits q (omega (arith, c.byte-p.ensures))))
