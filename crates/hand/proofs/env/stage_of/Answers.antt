-- `hand::env::stage_of` meets its contract: a stage is its own value, and the value of a variable is where it stands.
use mathlib.Core.Path.{◌∙◌}
use Rattle.hand.proofs.EnvironmentLaws.{stage-value, variable-value}
use Rattle.hand.proofs.env.stage_of.Goals as goal

pub returns-then-t-lt64 : goal.returns-then-t-lt64
returns-then-t-lt64 c = stage-value _ _ c.if-t-lt64.true

pub returns-else-t-lt64 : goal.returns-else-t-lt64
returns-else-t-lt64 c = c.stage.ensures ∙ variable-value _ _ c.if-t-lt64.false
