-- `Set::read_nth` meets its contract: the number in the set's eight bytes where they are all there, and 0 elsewhere.
use Rattle.std.proofs.Common.{rules}
use mathlib.Core.Path.{sym, ◌∙◌}
use Rattle.sets.specs.Number.{number}
use Rattle.sets.proofs.LawsBytes.{piece-stored, piece-none, stored-out}
use Rattle.sets.proofs.Set.read_nth.Goals as goal

pub returns-in_default : goal.returns-in_default
returns-in_default c = c.empty.ensures ∙ sym (stored-out _ _ (search rules))

pub returns-in-Some-get : goal.returns-in-Some-get
unfolding number
returns-in-Some-get c = search (rules, piece-stored)

pub returns-in-None : goal.returns-in-None
returns-in-None c = search (rules, piece-none)
