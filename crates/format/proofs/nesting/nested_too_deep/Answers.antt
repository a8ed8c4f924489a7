-- `format::nesting::nested_too_deep` meets its contract: no entry of the table is operand of none and nests too deep.
-- Assumes nothing.
use native.Mathlib.Omega.{arith}
use borrow.Author.Rules.{rules}
use borrow.Author.Tests.{tests}
use Rattle.format.specs.Reading.{DeepRoot}
use Rattle.format.proofs.RangeLaws.{any-range}
use Rattle.format.proofs.RootLaws.{none_deep, deep-root, flag-no-root, flat-no-root}
use Rattle.format.proofs.nesting.nested_too_deep.Goals as goal

pub returns : goal.returns
returns c =
    let image = c.args.image.now in
    let table = c.args.table.now in
    any-range _ _ _ (DeepRoot c.args.image.now c.args.table.now c.args.seen.now) (λ e. DeepRoot c.args.image.now c.args.table.now c.args.seen.now e → ⊥) c.any.ensures.ran
    (λ e q k. search (rules, tests, deep-root)) (λ e q k. search (rules, tests, flag-no-root, flat-no-root))
    (λ e from to root. record { entry = e; below = omega (arith, c.byte-m.ensures); deep = root.deep })
    (λ none. none_deep image table c.args.seen.now c.requires (λ e h. none e (omega arith) (omega (arith, c.byte-m.ensures))))
