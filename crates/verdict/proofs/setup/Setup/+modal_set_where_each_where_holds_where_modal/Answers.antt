-- `verdict::setup::Setup::where_holds`, `where_modal`, `where_each` and `modal_set` meet their contracts. The measure is four times the entry's
-- number, and as much more as each of them stands above `modal_set`, which goes on to lower entries.
use mathlib.Core.Path.{refl, sym, ap, ◌∙◌}
use native.Mathlib.Omega.{arith}
use borrow.Author.Rules.{rules}
use Rattle.model.specs.Decides.{refuted}
use Rattle.sets.specs.Number.{number}
use Rattle.format.proofs.TreeLaws.{row}
use Rattle.verdict.specs.Kinds.{is_first}
use Rattle.verdict.proofs.CollectLaws.{collects-take, collects-skip}
use Rattle.verdict.proofs.EvaluationLaws.{constant-arm, literal-arm, junction-arm, settled-arm, modal-arm, unary-set, binary-set, no-set}
use Rattle.verdict.proofs.EvaluationLaws.{each_turn, once-arm, unary-operand, binary-first, binary-second, junction-first}
use Rattle.verdict.proofs.EvaluationLaws.{junction-second}
use Rattle.verdict.proofs.setup.Setup.+modal_set_where_each_where_holds_where_modal.Goals as goal
use Rattle.verdict.proofs.setup.Setup.+modal_set_where_each_where_holds_where_modal.Goals.{where_each-then-has, where_each-else-has}

pub modal_set-where_holds-a-requires : goal.modal_set-where_holds-a-requires
modal_set-where_holds-a-requires t c =
    let o = unary-operand c.args.self.now c.requires (row c.entry-r.ensures c.kind_of-kind.ensures c.sort_of.ensures c.in-Unary.is) in
    (omega (arith, c.decreases, o.0), o.1)

pub modal_set-where_holds-a-requires-in-Binary : goal.modal_set-where_holds-a-requires-in-Binary
modal_set-where_holds-a-requires-in-Binary t c =
    let o = binary-first c.args.self.now c.requires (row c.entry-r.ensures c.kind_of-kind.ensures c.sort_of.ensures c.in-Binary.is) in
    (omega (arith, c.decreases, o.0), o.1)

pub modal_set-where_holds-b-requires : goal.modal_set-where_holds-b-requires
modal_set-where_holds-b-requires t c =
    let o = binary-second c.args.self.now c.requires (row c.entry-r.ensures c.kind_of-kind.ensures c.sort_of.ensures c.in-Binary.is) in
    (omega (arith, c.decreases, o.0), o.1)

pub modal_set-returns-in-Unary : goal.modal_set-returns-in-Unary
modal_set-returns-in-Unary t c =
    unary-set c.args.self.now c.requires c.entry-r.result _ _ (row c.entry-r.ensures c.kind_of-kind.ensures c.sort_of.ensures c.in-Unary.is) c.kind_of-kind.ensures
    c.where_holds-a.ensures c.modal_of.ensures

pub modal_set-returns-in-Binary : goal.modal_set-returns-in-Binary
modal_set-returns-in-Binary t c =
    binary-set c.args.self.now c.requires c.entry-r.result _ _ _ (row c.entry-r.ensures c.kind_of-kind.ensures c.sort_of.ensures c.in-Binary.is) c.kind_of-kind.ensures
    c.where_holds-a-in-Binary.ensures c.where_holds-b.ensures c.modal_of-in-Binary.ensures

pub modal_set-returns-in-Constant : goal.modal_set-returns-in-Constant
modal_set-returns-in-Constant t c =
    no-set c.args.self.now c.requires _ (row c.entry-r.ensures c.kind_of-kind.ensures c.sort_of.ensures refl) c.in-Constant.is c.empty.ensures

pub where_each-loop-s-preserved : goal.where_each-loop-s-preserved
where_each-loop-s-preserved t c =
    let inv = c.loop-s.invariant in
    let ready = c.requires.0 in
    let own = each_turn c.args.self.now ready c.requires.1 c.loop-s-test.true c.entry-r.ensures c.bound-here.ensures c.modal_set-from.ensures c.stage_of.ensures
    c.has.ensures in (
      search rules,
      elim c.if-has.branch [
        | where_each-then-has w ↦ collects-take inv.1 (omega (arith, c.args.self.now.row.room)) (sym own ∙ w.if-has.true) (ap number w.found-is ∙ w.with-found.ensures)
        | where_each-else-has w ↦ collects-skip inv.1 (sym own ∙ w.if-has.false) (ap number w.found-is)
      ],
    )

pub where_holds-where_holds-a-requires : goal.where_holds-where_holds-a-requires
where_holds-where_holds-a-requires t c =
    let o = junction-first c.args.self.now c.requires.0 (row c.entry-r.ensures c.kind_of-kind.ensures c.sort_of.ensures c.in-Junction.is) in
    (omega (arith, c.decreases, o.0), (o.1, c.requires.1))

pub where_holds-where_holds-requires : goal.where_holds-where_holds-requires
where_holds-where_holds-requires t c =
    let o = junction-second c.args.self.now c.requires.0 (row c.entry-r.ensures c.kind_of-kind.ensures c.sort_of.ensures c.in-Junction.is) in
    (omega (arith, c.decreases, o.0), (o.1, c.requires.1))

pub where_holds-returns-in-Constant : goal.where_holds-returns-in-Constant
where_holds-returns-in-Constant t c =
    constant-arm c.args.self.now c.requires.0 _ (row c.entry-r.ensures c.kind_of-kind.ensures c.sort_of.ensures c.in-Constant.is)
    (c.is_first-first.ensures ∙ ap is_first c.kind_of-kind.ensures)
    c.all_or_none.ensures

pub where_holds-returns-in-Atom : goal.where_holds-returns-in-Atom
where_holds-returns-in-Atom t c =
    literal-arm c.args.self.now c.requires.0 _ (row c.entry-r.ensures c.kind_of-kind.ensures c.sort_of.ensures c.in-Atom.is)
    (c.is_first-first.ensures ∙ ap is_first c.kind_of-kind.ensures)
    c.where_literal.ensures

pub where_holds-returns-then-settled : goal.where_holds-returns-then-settled
where_holds-returns-then-settled t c =
    settled-arm c.args.self.now c.requires.0 _ _ _ _ (row c.entry-r.ensures c.kind_of-kind.ensures c.sort_of.ensures c.in-Junction.is)
    (c.is_first-first.ensures ∙ ap is_first c.kind_of-kind.ensures)
    c.where_holds-a.ensures c.if-settled.true c.settled.ensures

pub where_holds-returns-else-settled : goal.where_holds-returns-else-settled
where_holds-returns-else-settled t c =
    junction-arm c.args.self.now c.requires.0 _ _ _ _ _ (row c.entry-r.ensures c.kind_of-kind.ensures c.sort_of.ensures c.in-Junction.is)
    (c.is_first-first.ensures ∙ ap is_first c.kind_of-kind.ensures)
    c.where_holds-a.ensures c.where_holds.ensures c.joined.ensures

pub where_holds-returns-in-Unary : goal.where_holds-returns-in-Unary
where_holds-returns-in-Unary t c =
    modal-arm c.args.self.now c.requires.0 _ (row c.entry-r.ensures c.kind_of-kind.ensures c.sort_of.ensures refl) c.in-Unary.is c.where_modal.ensures

pub where_modal-depends-requires : goal.where_modal-depends-requires
where_modal-depends-requires t c = (c.requires.0.entry, c.requires.1)

pub where_modal-returns-else-depends : goal.where_modal-returns-else-depends
where_modal-returns-else-depends t c =
    once-arm c.args.self.now c.requires.0 c.requires.1 (refuted _ c.depends.ensures c.if-depends.false) c.entry-r.ensures c.modal_set.ensures c.where_in.ensures
