-- `hand::env::names` meets its contract: a stage names no variable, and a variable itself.
use mathlib.Core.Bool.{Bool}
use mathlib.Core.Path.{subst}
use borrow.Author.Tests.{lt-false}
use Rattle.model.specs.Decides.{Decides}
use Rattle.model.specs.Formula.{Names}
use Rattle.format.specs.Table.{term_of}
use Rattle.hand.proofs.EnvironmentLaws.{stage-names}
use Rattle.hand.proofs.env.names.Goals as goal

pub returns-else-t-ge64 : goal.returns-else-t-ge64
returns-else-t-ge64 c = subst (λ (b : Bool). Decides b (Names c.args.x (term_of c.args.t))) (lt-false 64 c.args.t c.if-t-ge64.false)
    (stage-names _ _ c.if-t-ge64.false)
