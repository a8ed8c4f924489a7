-- Document 01, "The four variables' present stages travel together as one value": that value of the code, read as the model's environment.
use Rattle.std.specs.Prelude.{ℕ, ◌≤◌, ◌<◌, ◌≡◌, eqb, get_or}
use Rattle.model.specs.Formula.{bind, pick}
use Rattle.model.specs.Formula.{Env as Environment}
use Rattle.hand.specs.declared.env.Env.{Env}

-- The stage of each variable; of what is none of the four, 0.
unfoldable pub env_of : Env → Environment
env_of env = λ v. get_or env.slots v 0

-- `after` is `before` with variable x at s; a binding of what is none of the four variables changes nothing.
pub record Bound (before : Env) (x s : ℕ) (after : Env) : Type 0 where
  pub here : x < 4 → env_of after ≡ bind (env_of before) x s
  pub none : 4 ≤ x → after ≡ before

-- Document 01, "Goal": variable 0 stands at the start; the others, which may not be free in a goal, at stage 0.
abbrev pub started : ℕ → Environment
started start = λ v. pick (eqb v 0) start 0
