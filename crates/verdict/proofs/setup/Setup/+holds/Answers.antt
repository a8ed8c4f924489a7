-- `verdict::setup::Setup::holds` meets its contract: what the row of the entry's kind says of its operands. The measure is the entry's number.
use mathlib.Core.Path.{refl, ap, ◌∙◌}
use native.Mathlib.Omega.{arith}
use Rattle.format.proofs.TreeLaws.{row}
use Rattle.verdict.specs.Kinds.{is_first}
use Rattle.verdict.proofs.EvaluationLaws.{junction-first, junction-second}
use Rattle.verdict.proofs.TruthLaws.{constant-truth, literal-truth, settled-truth, second-truth, modal-truth}
use Rattle.verdict.proofs.setup.Setup.+holds.Goals as goal

pub holds-a-requires : goal.holds-a-requires
holds-a-requires t c =
    let o = junction-first c.args.self.now c.requires (row c.entry-r.ensures c.kind_of-kind.ensures c.sort_of.ensures c.in-Junction.is) in
    (omega (arith, c.decreases, o.0), o.1)

pub holds-requires : goal.holds-requires
holds-requires t c =
    let o = junction-second c.args.self.now c.requires (row c.entry-r.ensures c.kind_of-kind.ensures c.sort_of.ensures c.in-Junction.is) in
    (omega (arith, c.decreases, o.0), o.1)

pub returns-in-Constant : goal.returns-in-Constant
returns-in-Constant t c =
    constant-truth c.args.self.now c.requires (row c.entry-r.ensures c.kind_of-kind.ensures c.sort_of.ensures c.in-Constant.is)
    (c.is_first-first.ensures ∙ ap is_first c.kind_of-kind.ensures)

pub returns-in-Atom : goal.returns-in-Atom
returns-in-Atom t c =
    literal-truth c.args.self.now c.requires (row c.entry-r.ensures c.kind_of-kind.ensures c.sort_of.ensures c.in-Atom.is)
    (c.is_first-first.ensures ∙ ap is_first c.kind_of-kind.ensures) c.atom_holds.ensures

pub returns-then-a-first : goal.returns-then-a-first
returns-then-a-first t c =
    second-truth c.args.self.now c.requires (row c.entry-r.ensures c.kind_of-kind.ensures c.sort_of.ensures c.in-Junction.is)
    (c.is_first-first.ensures ∙ ap is_first c.kind_of-kind.ensures)
    c.holds-a.ensures c.if-a-first.true c.holds.ensures

pub returns-else-a-first : goal.returns-else-a-first
returns-else-a-first t c =
    settled-truth c.args.self.now c.requires (row c.entry-r.ensures c.kind_of-kind.ensures c.sort_of.ensures c.in-Junction.is)
    (c.is_first-first.ensures ∙ ap is_first c.kind_of-kind.ensures)
    c.holds-a.ensures c.if-a-first.false

pub returns-in-Unary : goal.returns-in-Unary
returns-in-Unary t c =
    modal-truth c.args.self.now c.requires (row c.entry-r.ensures c.kind_of-kind.ensures c.sort_of.ensures refl) c.in-Unary.is c.holds_from.ensures
