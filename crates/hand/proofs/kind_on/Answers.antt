-- `hand::kind_on` meets its contract: on a side that is not 0 the kind is the dual's.
use mathlib.Core.Path.{ap, ◌∙◌}
use Rattle.hand.specs.Side.{dual_kind}
use Rattle.hand.proofs.HandLaws.{other-side}
use Rattle.hand.proofs.kind_on.Goals as goal

pub returns-else-side-eq0 : goal.returns-else-side-eq0
returns-else-side-eq0 c = c.dual_of.ensures ∙ ap dual_kind c.kind_of-k.ensures ∙ other-side _ _ c.if-side-eq0.false
