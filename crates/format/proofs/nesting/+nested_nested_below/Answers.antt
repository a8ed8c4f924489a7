-- `format::nesting::nested` and `nested_below` meet their contracts. An operand is looked at only where its number is lower: the
-- measure is twice the entry's number, and one more where the entry itself is looked at.
-- Assumes nothing.
use mathlib.Core.Path.{refl}
use mathlib.Core.Logic.{inl, inr}
use native.Mathlib.Omega.{arith}
use Rattle.format.proofs.TreeLaws.{row, nested-row, nested-lower, nested-past}
use Rattle.format.proofs.nesting.+nested_nested_below.Goals as goal

pub nested-returns-in-Constant : goal.nested-returns-in-Constant
nested-returns-in-Constant t c =
    elim c.in-Constant.is [
      | inl e ↦ nested-row (row c.entry-r.ensures c.kind_of.ensures c.sort_of.ensures e) (λ image. refl) (omega arith)
      | inr e ↦ nested-row (row c.entry-r.ensures c.kind_of.ensures c.sort_of.ensures e) (λ image. refl) (omega arith)
    ]

pub nested-returns-in-Junction : goal.nested-returns-in-Junction
nested-returns-in-Junction t c =
    nested-row (row c.entry-r.ensures c.kind_of.ensures c.sort_of.ensures c.in-Junction.is)
    (λ image. omega (arith, c.nested_below.ensures.is image, c.nested_below-in-Junction.ensures.is image))
    (omega arith)

pub nested-returns-in-Unary : goal.nested-returns-in-Unary
nested-returns-in-Unary t c =
    nested-row (row c.entry-r.ensures c.kind_of.ensures c.sort_of.ensures c.in-Unary.is)
    (λ image. omega (arith, c.nested_below-in-Unary.ensures.is image))
    (omega arith)

pub nested-returns-in-Binary : goal.nested-returns-in-Binary
nested-returns-in-Binary t c =
    nested-row (row c.entry-r.ensures c.kind_of.ensures c.sort_of.ensures c.in-Binary.is)
    (λ image. omega (arith, c.nested_below-in-Binary.ensures.is image, c.nested_below-in-Binary-2.ensures.is image))
    (omega arith)

pub nested_below-returns-then-o-e : goal.nested_below-returns-then-o-e
nested_below-returns-then-o-e t c = nested-lower c.if-o-e.true c.nested.ensures

pub nested_below-returns-else-o-e : goal.nested_below-returns-else-o-e
nested_below-returns-else-o-e t c = nested-past c.if-o-e.false
