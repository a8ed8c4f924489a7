-- `modal::each_next_among` meets its contract: what is left of the stages asked where the walk found those with a successor outside x.
use Rattle.std.proofs.Common.{rules}
use Rattle.modal.proofs.LawsNext.{ready-each}
use Rattle.modal.proofs.each_next_among.Goals as goal

pub returns : goal.returns
returns c = search (rules, ready-each)
