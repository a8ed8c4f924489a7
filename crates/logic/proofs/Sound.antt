-- Soundness: what the rules derive holds.
use Rattle.model.specs.Graph.{Graph, Readable}
use Rattle.model.specs.Formula.{Formula, Env, Below}
use Rattle.logic.specs.Test.{Stand}
use Rattle.logic.specs.Meaning.{Holds}
use Rattle.logic.specs.Rules.{Derived}
use Rattle.logic.proofs.TestMeaning.{test-holds}
use Rattle.logic.proofs.TestRules.{test-derived}

pub sound : {G : Graph} → Readable G → (f : Formula) (e : Env) → Below G.stages f → Stand G.stages e → Derived G f e → Holds G f e
sound R f e b d u = (test-holds R f e b d).0 ((test-derived R f e b d).1 u)
