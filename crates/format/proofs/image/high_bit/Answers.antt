-- `format::image::high_bit` meets its contract: the plain sets have no high bit, and the rest is looked at.
-- Assumes nothing.
use native.Mathlib.Omega.{arith}
use mathlib.Core.Logic.{⊎_elim}
use borrow.Author.Rules.{rules}
use borrow.Author.Tests.{tests}
use Rattle.sets.proofs.LawsMember.{side?}
use Rattle.format.specs.Image.{HighBitIn}
use Rattle.format.proofs.ImageLaws.{has_all, count-is, some-high, none-high}
use Rattle.format.proofs.RangeLaws.{any-range}
use Rattle.format.proofs.image.high_bit.Goals as goal

pub returns : goal.returns
returns c =
    let image = c.args.image.now in
    let all = has_all image _ _ c.byte.ensures c.requires.0.stages c.below-all.ensures in
    let count = count-is image _ _ c.first_set-count.ensures.is c.byte-2.ensures in
    any-range _ _ _ (HighBitIn image) (λ i. HighBitIn image i → ⊥) c.any.ensures.ran (λ i q k. search (rules, tests, some-high))
    (λ i q k. search (rules, tests, none-high))
    (λ i low below high. record { set = i; one_of = omega (arith, count); at = high })
    (λ none h. ⊎_elim (λ before. c.requires.1.low h.set before h.at) (λ after. none h.set after (omega (arith, count, h.one_of)) h.at) (side? h.set c.args.plain))
