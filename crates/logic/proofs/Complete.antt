-- Completeness: what holds has a derivation by the rules.
use Rattle.model.specs.Graph.{Graph, Readable}
use Rattle.model.specs.Formula.{Formula, Env, Below}
use Rattle.logic.specs.Test.{Stand}
use Rattle.logic.specs.Meaning.{Holds}
use Rattle.logic.specs.Rules.{Derived}
use Rattle.logic.proofs.TestMeaning.{test-holds}
use Rattle.logic.proofs.TestRules.{test-derived}

pub complete : {G : Graph} → Readable G → (f : Formula) (e : Env) → Below G.stages f → Stand G.stages e → Holds G f e → Derived G f e
complete R f e b d u = (test-derived R f e b d).0 ((test-holds R f e b d).1 u)
