-- `format::question::other_free` meets its contract: each of the variables 1 to 3 is looked for.
-- Assumes nothing.
use Prim.Native.Nat.{ℕ}
use native.Mathlib.Omega.{arith}
use borrow.Author.Rules.{rules}
use borrow.Author.Tests.{tests}
use Rattle.sets.specs.Member.{Has}
use Rattle.sets.specs.Number.{number}
use Rattle.format.proofs.RangeLaws.{any-range}
use Rattle.format.proofs.question.other_free.Goals as goal

pub returns : goal.returns
returns c =
    let Named : ℕ → Type 0 = Has (number c.free-free.result) in
    any-range _ _ _ Named (λ v. Named v → ⊥) c.any.ensures.ran (λ v q k. search (rules, tests)) (λ v q k. search (rules, tests))
    (λ v from to h. record { variable = v; from = from; to = omega arith; free = (c.free-free.ensures v (omega arith)).0 h })
    (λ none o. none o.variable o.from (omega (arith, o.to)) ((c.free-free.ensures o.variable (omega (arith, o.to))).1 o.free))
