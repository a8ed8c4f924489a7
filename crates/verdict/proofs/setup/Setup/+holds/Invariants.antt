-- `verdict::setup::Setup::holds` meets its contract: what the row of the entry's kind says of its operands. The measure is the entry's number.
use Rattle.verdict.proofs.setup.Setup.+holds.Given as goal

abbrev pub decreases-holds : goal.decreases-holds
decreases-holds l = l.e
