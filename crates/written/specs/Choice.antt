-- Document 01, "The certificate we write": which rule is taken, clause by clause. It is asked of a formula that holds, at a stage of its walk. What
-- holds is decided by the test of the crate `logic`, which says the same as the meaning over paths (`test-holds` there).
use Rattle.std.specs.Prelude.{ℕ, zero, suc, Bool, true, false, ◌&&◌}
use Rattle.model.specs.Graph.{Graph}
use Rattle.model.specs.Formula.{pick}
use Rattle.logic.specs.Rules.{Walk, on}
use Rattle.logic.specs.Test.{Stages, iter, some_next, eu_round, eg, any_below}
use Rattle.rules.specs.Kind.{Kind}
use Rattle.rules.specs.declared.Rule.{Rule}

-- The lowest number below n that passes a test; 0 where none does.
abbrev pub lowest : ℕ → (ℕ → Bool) → ℕ
lowest zero p = 0
lowest (suc n) p = pick (any_below n p) (lowest n p) (pick (p n) n 0)

-- One rule where a test passes, else another.
abbrev pub if_so : Bool → Rule → Rule → Rule
if_so true r q = r
if_so false r q = q

module _ (G : Graph) where
  -- The lowest successor of s in a set.
  abbrev pub lowest_next : Stages → ℕ → ℕ
  lowest_next x s = lowest G.stages (λ t. G.next s t && x t)

  -- The stages from which a "now" is at most k steps away along stages with a: a now is where b holds.
  abbrev pub within : Stages → Stages → ℕ → Stages
  within a b k = iter (eu_round G a) k b

  -- How many steps the nearest of the successors of s is from a now.
  abbrev pub fewest : Stages → Stages → ℕ → ℕ
  fewest a b s = lowest G.stages (λ k. some_next G (within a b k) s)

  -- The successor fewest steps from a now, the lowest of equals.
  abbrev pub nearest : Stages → Stages → ℕ → ℕ
  nearest a b s = lowest_next (within a b (fewest a b s)) s

  -- The rule for a formula of a kind whose a and b hold at the stages a and b, at the stage s of the walk w.
  --     Or: left if it holds.
  --     EX: the lowest successor at which a holds.
  --     AF: now if a holds.
  --     AR: merge if on the walk, else release if a holds.
  --     EG: merge if on the walk, else the lowest successor at which EG holds.
  --     EU: now if b holds, else the successor fewest steps from a "now" along stages with a, the lowest of equals.
  -- For the other kinds there is one rule. For false there is none: it does not hold, and what stands for it here is never taken.
  abbrev pub choice : Kind → Stages → Stages → Walk → ℕ → Rule
  choice Kind.True a b w s = Rule.True
  choice Kind.False a b w s = Rule.True
  choice Kind.Is a b w s = Rule.Holds
  choice Kind.IsNot a b w s = Rule.HoldsNot
  choice Kind.And a b w s = Rule.And
  choice Kind.Or a b w s = if_so (a s) Rule.OrLeft Rule.OrRight
  choice Kind.AX a b w s = Rule.Ax
  choice Kind.EX a b w s = Rule.Ex (lowest_next a s)
  choice Kind.AF a b w s = if_so (a s) Rule.AfNow Rule.AfLater
  choice Kind.EG a b w s = if_so (on w s) Rule.EgMerge (Rule.EgOn (lowest_next (eg G a) s))
  choice Kind.AR a b w s = if_so (on w s) Rule.ArMerge (if_so (a s) Rule.ArRelease Rule.ArOn)
  choice Kind.EU a b w s = if_so (b s) Rule.EuNow (Rule.EuLater (nearest a b s))
