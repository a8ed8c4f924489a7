-- `modal::ar` meets its contract.
use Rattle.std.proofs.Common.{rules}
use Rattle.logic.specs.Test.{ar_round}
use Rattle.modal.specs.Row.{member}
use Rattle.sets.specs.Number.{number}
use Rattle.modal.proofs.LawsRounds.{ar-turned, all-rounds}
use Rattle.modal.proofs.ar.Goals as goal

pub returns : goal.returns
returns c =
    let a = number c.args.a in
    all-rounds _ _ (c.rounds.ensures c.args.next.now (λ G. ar_round G (member a)) (λ x y p. search (rules, ar-turned a)))
