-- `hand::setup::prepare` meets its contract. The loop's invariant: the first e entries are prepared.
use native.Mathlib.Omega.{arith}
use mathlib.Core.Path.{ap, ◌∙◌}
use Rattle.hand.specs.Setup.{entry_of}
use Rattle.hand.proofs.EntryLaws.{prepared-start, prepared-more, prepared-end, prepared-other}
use Rattle.hand.proofs.setup.prepare.Goals as goal

pub returns-then-entries-ne-ENTRIES : goal.returns-then-entries-ne-ENTRIES
returns-then-entries-ne-ENTRIES c = prepared-other _ _ _ _ _ c.if-entries-ne-ENTRIES.true

pub loop-e-init : goal.loop-e-init
loop-e-init c = prepared-start _ _ _ _ c.if-entries-ne-ENTRIES.false

pub bounds-entries-e : goal.bounds-entries-e
bounds-entries-e c = omega (arith, c.loop-e-test.true, c.min-e-end.ensures, c.loop-e.invariant.size, c.if-entries-ne-ENTRIES.false)

pub loop-e-preserved : goal.loop-e-preserved
loop-e-preserved c =
    let is = c.made.ensures ∙ ap (entry_of c.args.image.now c.args.side) c.entry.ensures in
    prepared-more c.if-entries-ne-ENTRIES.false (omega (arith, c.loop-e-test.true, c.min-e-end.ensures)) c.loop-e.invariant is

pub returns : goal.returns
returns c = prepared-end (omega (arith, c.loop-e.auto.e-end, c.min-e-end.ensures)) (omega (arith, c.loop-e-test.false, c.min-e-end.ensures)) c.loop-e.invariant c.if-entries-ne-ENTRIES.false
