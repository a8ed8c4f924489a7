-- `hand::env::Env::stage` meets its contract: what the slot of a variable holds, and 0 where there is no slot.
use borrow.Author.Rules.{rules}
use Rattle.hand.specs.Environment.{env_of}
use Rattle.hand.proofs.env.Env.stage.Goals as goal

pub returns : goal.returns
unfolding env_of
returns c = search rules
