-- `modal::af` meets its contract.
use Rattle.std.proofs.Common.{rules}
use Rattle.logic.specs.Test.{af_round}
use Rattle.modal.proofs.LawsRounds.{af-turned, all-rounds}
use Rattle.modal.proofs.af.Goals as goal

pub returns : goal.returns
returns c = all-rounds _ _ (c.rounds.ensures c.args.next.now af_round (λ x y p. search (rules, af-turned)))
