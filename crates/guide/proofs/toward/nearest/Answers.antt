-- `guide::toward::nearest` meets its contract. The loop's invariant: so many rounds have been gone, whatever graph the row holds.
use mathlib.Core.Path.{◌∙◌}
use native.Mathlib.Omega.{arith}
use borrow.Author.Rules.{rules}
use Rattle.model.specs.Decides.{decided}
use Rattle.guide.proofs.NearestLaws.{nearing-start, nearing-more, nearing-rest, nearing-end}
use Rattle.guide.proofs.toward.nearest.Goals as goal

pub loop-init : goal.loop-init
loop-init c =
    (search rules, λ G R. nearing-start R _ _ c.below-away.ensures c.requires.1)

pub returns-then-is_empty : goal.returns-then-is_empty
returns-then-is_empty c =
    λ G R. nearing-rest R _ _ _ (c.loop.invariant.1 G R) c.some_next_among-new.ensures (decided _ c.is_empty.ensures c.if-is_empty.true)

pub settle-requires : goal.settle-requires
settle-requires c =
    (omega (arith, c.loop.invariant.0, c.requires.0), c.some_next_among-new.ensures.inside)

pub loop-preserved : goal.loop-preserved
loop-preserved c =
    let inv = c.loop.invariant in
    let settle = c.settle in (
      settle.ensures.size ∙ inv.0,
      λ G R. nearing-more R _ _ _ (inv.1 G R) c.some_next_among-new.ensures c.loop-test.true settle.ensures c.minus-away.ensures
          c.common.ensures c.union-near.ensures,
    )

pub returns : goal.returns
returns c = λ G R. nearing-end R _ _ c.loop-test.false (c.loop.invariant.1 G R)
