-- `modal::eu` meets its contract.
use Rattle.std.proofs.Common.{rules}
use Rattle.logic.specs.Test.{eu_round}
use Rattle.modal.specs.Row.{member}
use Rattle.sets.specs.Number.{number}
use Rattle.modal.proofs.LawsRounds.{eu-turned, all-rounds}
use Rattle.modal.proofs.eu.Goals as goal

pub returns : goal.returns
returns c =
    let a = number c.args.a in
    all-rounds _ _ (c.rounds.ensures c.args.next.now (λ G. eu_round G (member a)) (λ x y p. search (rules, eu-turned a)))
