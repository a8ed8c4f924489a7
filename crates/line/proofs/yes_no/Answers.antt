-- `line::yes_no` meets its contract: the line piece by piece; or nothing, where it has no room.
-- Assumes nothing.
use Rattle.std.proofs.Common.{rules, arith, refl, ap, length}
use Rattle.line.proofs.LineLaws.{line-length, line-end, printed-nothing, certificate-line}
use Rattle.line.proofs.yes_no.Goals as goal

pub returns-then-out-n : goal.returns-then-out-n
returns-then-out-n c = printed-nothing _ _ (omega (arith, line-length c.args.side c.args.certificate.now))

pub returns-then-out-word : goal.returns-then-out-word
returns-then-out-word c =
    printed-nothing _ _ (omega (arith, line-length c.args.side c.args.certificate.now, ap length c.side_word-word.ensures))

pub byte-requires-3 : goal.byte-requires-3
byte-requires-3 c =
    line-end c.args.side c.args.certificate.now (ap length c.side_word-word.ensures) refl
    (omega (arith, line-length c.args.side c.args.certificate.now, ap length c.side_word-word.ensures))
    c.word.ensures
    c.byte.ensures
    c.decimal.ensures
    c.byte-2.ensures
    c.hex.ensures

pub returns : goal.returns
returns c =
    let line =
    certificate-line c.args.side c.args.certificate.now c.side_word-word.ensures refl c.word.ensures c.byte.ensures c.decimal.ensures c.byte-2.ensures
    c.hex.ensures
    c.byte-3.ensures in
    search (rules, line)
