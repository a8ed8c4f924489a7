-- `hand::atom_holds` meets its contract: the tests that led there say which of its predicate's sets is asked.
use mathlib.Core.Path.{sym, ◌∙◌}
use Rattle.hand.specs.Environment.{env_of}
use Rattle.hand.proofs.HandLaws.{atom-two-is, atom-one-is}
use Rattle.hand.proofs.atom_holds.Goals as goal

pub returns-then-byte-eq2 : goal.returns-then-byte-eq2
returns-then-byte-eq2 c =
    atom-two-is c.args.image.now c.args.r (env_of c.args.env) c.first_set-first.ensures.is (sym c.byte.ensures ∙ c.if-byte-eq2.true) c.stage_of-t.ensures
    c.stage_of-b.ensures c.set.ensures c.has.ensures

pub returns-else-byte-eq2 : goal.returns-else-byte-eq2
returns-else-byte-eq2 c =
    atom-one-is c.args.image.now c.args.r (env_of c.args.env) c.first_set-first.ensures.is (λ e. c.if-byte-eq2.false (c.byte.ensures ∙ e)) c.stage_of-t.ensures
    c.set-else-byte-eq2.ensures c.has-else-byte-eq2.ensures
