-- `format::variables::free` and `free_below` meet their contracts. An operand is looked at only where its number is lower: the
-- measure is twice the entry's number, and one more where the entry itself is looked at.
-- Assumes nothing.
use Rattle.format.proofs.TreeLaws.{row}
use Rattle.format.proofs.VariableLaws.{members-none, members-union, members-without, free-row, free-lower, free-past}
use Rattle.format.proofs.variables.+free_free_below.Goals as goal

pub free-returns-in-Constant : goal.free-returns-in-Constant
free-returns-in-Constant t c = free-row _ _ (row c.entry-r.ensures c.kind_of.ensures c.sort_of.ensures c.in-Constant.is) (members-none c.empty.ensures)

pub free-returns-in-Atom : goal.free-returns-in-Atom
free-returns-in-Atom t c = free-row _ _ (row c.entry-r.ensures c.kind_of.ensures c.sort_of.ensures c.in-Atom.is) c.free_in_atom.ensures

pub free-returns-in-Junction : goal.free-returns-in-Junction
free-returns-in-Junction t c =
    free-row _ _ (row c.entry-r.ensures c.kind_of.ensures c.sort_of.ensures c.in-Junction.is)
    (members-union _ _ c.union.ensures c.free_below.ensures c.free_below-in-Junction.ensures)

pub free-returns-in-Unary : goal.free-returns-in-Unary
free-returns-in-Unary t c =
    free-row _ _ (row c.entry-r.ensures c.kind_of.ensures c.sort_of.ensures c.in-Unary.is)
    (members-union _ _ c.union-in-Unary.ensures c.variable_in.ensures
    (members-without _ _ c.without.ensures c.free_below-in-Unary.ensures))

pub free-returns-in-Binary : goal.free-returns-in-Binary
free-returns-in-Binary t c =
    free-row _ _ (row c.entry-r.ensures c.kind_of.ensures c.sort_of.ensures c.in-Binary.is)
    (members-union _ _ c.union-in-Binary-2.ensures c.variable_in-in-Binary.ensures
    (members-union _ _ c.union-in-Binary.ensures
    (members-without _ _ c.without-in-Binary.ensures c.free_below-in-Binary.ensures)
    (members-without _ _ c.without-in-Binary-2.ensures c.free_below-in-Binary-2.ensures)))

pub free_below-returns-then-o-e : goal.free_below-returns-then-o-e
free_below-returns-then-o-e t c = free-lower _ _ _ _ _ c.if-o-e.true c.free.ensures

pub free_below-returns-else-o-e : goal.free_below-returns-else-o-e
free_below-returns-else-o-e t c = free-past _ _ _ _ c.if-o-e.false c.empty.ensures
