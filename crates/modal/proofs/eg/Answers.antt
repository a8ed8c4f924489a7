-- `modal::eg` meets its contract.
use Rattle.std.proofs.Common.{rules}
use Rattle.logic.specs.Test.{eg_round}
use Rattle.modal.proofs.LawsRounds.{eg-turned, all-rounds}
use Rattle.modal.proofs.eg.Goals as goal

pub returns : goal.returns
returns c = all-rounds _ _ (c.rounds.ensures c.args.next.now eg_round (λ x y p. search (rules, eg-turned)))
