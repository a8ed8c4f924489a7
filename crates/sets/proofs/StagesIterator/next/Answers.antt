-- `Stages::next` meets its contract: what is left loses the stage that comes next.
use Rattle.std.proofs.Common.{rules}
use Rattle.model.specs.Decides.{refuted}
use Rattle.sets.proofs.LawsWalk.{walk-falls}
use Rattle.sets.proofs.StagesIterator.next.Goals as goal

pub returns-clause-goes : goal.returns-clause-goes
returns-clause-goes c =
    let falls = walk-falls (record { some = refuted _ c.is_empty.ensures c.if-is_empty.false; lowest = c.lowest-k.ensures; others = c.rest-self.ensures }) in
    search (rules, falls) parts 8
