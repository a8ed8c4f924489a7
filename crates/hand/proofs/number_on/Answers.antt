-- `hand::number_on` meets its contract: it is the number of the kind in hand.
use mathlib.Core.Path.{ap, ◌∙◌}
use Rattle.hand.specs.Side.{number_of}
use Rattle.hand.proofs.number_on.Goals as goal

pub returns : goal.returns
returns c = c.number_of.ensures ∙ ap number_of c.kind_on.ensures
