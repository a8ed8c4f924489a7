-- `format::table::bad_record` meets its contract: `any` of the records breaks its rules.
-- Assumes nothing.
use Prim.Native.Nat.{ℕ}
use native.Mathlib.Omega.{arith}
use borrow.Author.Rules.{rules}
use borrow.Author.Tests.{tests}
use Rattle.format.specs.Table.{Ruled, record_at}
use Rattle.format.proofs.RangeLaws.{any-range}
use Rattle.format.proofs.table.bad_record.Goals as goal

pub returns : goal.returns
returns c =
    let Keeps : ℕ → Type 0 = λ e. Ruled c.args.image.now e (record_at c.args.table.now e) in
    any-range _ _ _ (λ e. Keeps e → ⊥) Keeps c.any.ensures.ran (λ x q k. search (rules, tests)) (λ x q k. search (rules, tests))
    (λ e low high broken. record { entry = e; below = omega (arith, c.byte-m.ensures); broken = broken })
    (λ all bad. bad.broken (all bad.entry (omega arith) (omega (arith, c.byte-m.ensures, bad.below))))
