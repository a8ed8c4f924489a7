-- Of a formula and its dual the rules derive exactly one.
use mathlib.Core.Logic.{◌⊎◌, ⊎_map}
use Rattle.model.specs.Graph.{Graph, Readable}
use Rattle.model.specs.Formula.{Formula, Env, dual, Below}
use Rattle.logic.specs.Test.{Stand}
use Rattle.logic.specs.Meaning.{Holds}
use Rattle.logic.specs.Rules.{Derived}
use Rattle.logic.proofs.Duality.{dual-below, dual-holds, holds-or-dual}
use Rattle.logic.proofs.Sound.{sound}
use Rattle.logic.proofs.Complete.{complete}

module _ {G : Graph} (R : Readable G) (f : Formula) (e : Env) (b : Below G.stages f) (d : Stand G.stages e) where
  -- One of them is derived.
  pub one_side : Derived G f e ⊎ Derived G (dual f) e
  one_side = ⊎_map (complete R f e b d) (complete R (dual f) e (dual-below G.stages f b) d) (holds-or-dual R f e b d)

  -- A derivation of the dual says that the formula does not hold:
  pub refutes : Derived G (dual f) e → Holds G f e → ⊥
  refutes v = (dual-holds R f e b d).0 (sound R (dual f) e (dual-below G.stages f b) d v)

  -- so not both are derived.
  pub not_both : Derived G f e → Derived G (dual f) e → ⊥
  not_both u v = refutes v (sound R f e b d u)
