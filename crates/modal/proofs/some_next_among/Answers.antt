-- `modal::some_next_among` meets its contract: the walk over the stages asked.
use Rattle.std.proofs.Common.{rules}
use Rattle.modal.proofs.LawsNext.{ready-some}
use Rattle.modal.proofs.some_next_among.Goals as goal

pub returns : goal.returns
returns c = search (rules, ready-some)
