-- `checker::steps::Steps::allows` meets its contract: the test of an atom is the record's.
use Rattle.checker.proofs.ConditionLaws.{holds-allowed, not-allowed}
use Rattle.checker.proofs.steps.Steps.allows.Goals as goal

pub returns-in-Holds : goal.returns-in-Holds
returns-in-Holds c = holds-allowed c.args.self.now.lent c.requires.0.hand c.atom.ensures c.requires.1 _ _ c.in-Holds.is

pub returns-in-HoldsNot : goal.returns-in-HoldsNot
returns-in-HoldsNot c = not-allowed c.args.self.now.lent c.requires.0.hand c.atom-in-HoldsNot.ensures c.requires.1 _ _ c.in-HoldsNot.is
