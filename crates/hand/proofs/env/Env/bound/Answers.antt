-- `hand::env::Env::bound` meets its contract: a store to the variable's slot is a binding, and no store is none.
use mathlib.Core.Path.{◌≡◌}
use borrow.Author.Rules.{rules}
use lib.ListN.{length}
use Rattle.hand.proofs.EnvironmentLaws.{bound-in, bound-out}
use Rattle.hand.proofs.env.Env.bound.Goals as goal

pub returns-then-x-lt4 : goal.returns-then-x-lt4
returns-then-x-lt4 c =
    let long : length c.args.self.slots ≡ 4 = search rules in
    bound-in c.args.self _ _ long c.if-x-lt4.true

pub returns-else-x-lt4 : goal.returns-else-x-lt4
returns-else-x-lt4 c = bound-out c.args.self _ _ c.if-x-lt4.false
