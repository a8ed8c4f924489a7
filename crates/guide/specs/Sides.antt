-- An entry's formula on a side: whether it holds, and the stages at which it does so with variable x there.
use Rattle.std.specs.Prelude.{ℕ, Bool, List}
use Rattle.model.specs.Formula.{bind}
use Rattle.logic.specs.Test.{Stages, test}
use Rattle.format.specs.Image.{graph_of}
use Rattle.format.specs.Table.{tree_of}
use Rattle.hand.specs.Environment.{env_of}
use Rattle.hand.specs.Side.{sided}
use Rattle.hand.specs.declared.env.Env.{Env}

abbrev pub truth_on : List ℕ → List ℕ → ℕ → ℕ → Env → Bool
truth_on image table side e env = test (graph_of image) (sided side (tree_of image table e)) (env_of env)

abbrev pub held_on : List ℕ → List ℕ → ℕ → ℕ → Env → ℕ → Stages
held_on image table side e env x = λ s. test (graph_of image) (sided side (tree_of image table e)) (bind (env_of env) x s)
