-- `modal::some_next` meets its contract: every stage is asked.
use Rattle.std.proofs.Common.{rules}
use Rattle.modal.proofs.LawsNext.{asked-all}
use Rattle.modal.proofs.some_next.Goals as goal

pub returns : goal.returns
returns c = search (rules, asked-all)
