-- `writer::answered` meets its contract: the row is decoded, the side that holds is found, the entries are prepared for it, and its certificate is
-- counted and then written.
use mathlib.Core.Path.{refl}
use lib.Dec.{lit≤}
use Rattle.verdict.proofs.AnswerLaws.{asked-readable, asked-ruled, question-ready, question-row}
use Rattle.writer.proofs.AnswerLaws.{question-sets, question-most, question-prepared, question-holding, no_room, with-room}
use Rattle.writer.proofs.answered.Goals as goal

pub invariant_of-setup : goal.invariant_of-setup
invariant_of-setup c =
    record { row = question-row c.requires (lit≤ tt) c.decode.ensures; ruled = asked-ruled c.requires.clear }

pub side_of-side-requires : goal.side_of-side-requires
side_of-side-requires c =
    question-ready c.requires.clear (question-row c.requires (lit≤ tt) c.decode.ensures)

pub invariant_of-run : goal.invariant_of-run
invariant_of-run c = record {
  sets = question-sets c.requires (lit≤ tt) c.decode.ensures;
  readable = ∣ asked-readable c.requires.clear ∣₁;
  most = question-most c.requires;
  prepared = question-prepared c.requires refl c.prepare.ensures;
}

pub whole-length-requires : goal.whole-length-requires
whole-length-requires c = question-holding c.requires (lit≤ tt) c.decode.ensures c.side_of-side.ensures

pub returns-then-buffer-length : goal.returns-then-buffer-length
returns-then-buffer-length c =
    no_room c.args.image.now c.args.table.now c.args.q.goal c.args.q.start c.requires.clear c.side_of-side.ensures c.whole-length.ensures
    c.if-buffer-length.true

pub whole-requires : goal.whole-requires
whole-requires c = question-holding c.requires (lit≤ tt) c.decode.ensures c.side_of-side.ensures

pub returns : goal.returns
returns c =
    with-room c.args.image.now c.args.table.now c.args.q.goal c.args.q.start c.requires.clear c.side_of-side.ensures c.whole-length.ensures
    c.if-buffer-length.false
    c.whole.ensures
