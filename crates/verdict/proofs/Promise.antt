-- The promise of the verdict, on bytes. An answer r that meets the contract of `verdict` is yes exactly when the goal holds at the start, no
-- exactly when its dual does, which is when the goal does not hold, and a refusal exactly when document 01 gives it; where the variables 1 to
-- 3 stand does not matter. Two answers that meet a contract are one, and so are two answers of one code.
--
--     verdict-once, code-once                  one answer, one number
--     yes-exactly, no-exactly, no-unless, refused-exactly
--     yes-anywhere, no-anywhere                the same with the variables 1 to 3 at any stages
--     coded-injective                          the coding for callers in C
--     set-once                                 one result of the public functions below the verdict
--
-- Assumes nothing.
use Prim.Native.Nat.{ℕ}
use native.Mathlib.Omega.{arith}
use mathlib.Core.Path.{◌≡◌, refl, sym, ap, ◌∙◌, subst}
use mathlib.Core.List.{List}
use mathlib.Core.Logic.Iff
use mathlib.Core.Logic.{◌↔◌}
use Rattle.std.specs.Prelude.{Result, Ok, Err}
use Rattle.model.specs.Formula.{Formula, Env, dual, Free}
use Rattle.logic.specs.Meaning.{Holds}
use Rattle.logic.specs.Test.{Stages}
use Rattle.logic.proofs.Duality.{dual-free, dual-holds}
use Rattle.logic.proofs.Variables.{holds-start}
use Rattle.sets.specs.declared.Set.{Set}
use Rattle.sets.specs.Number.{number}
use Rattle.sets.proofs.LawsRow.{set_same}
use Rattle.format.specs.Refusal.{Given, Clear}
use Rattle.format.specs.Image.{graph_of}
use Rattle.format.specs.Table.{tree_of}
use Rattle.format.specs.Question.{question_conditions}
use Rattle.format.specs.declared.Refusal.{Refusal}
use Rattle.format.proofs.RefusalLaws.{given-one, clear_none}
use Rattle.format.proofs.CodedLaws.{coded_by-told}
use Rattle.format.proofs.ReadableLaws.{only_zero}
use Rattle.hand.specs.Environment.{started}
use Rattle.verdict.specs.Evaluation.{Collects}
use Rattle.verdict.specs.Verdict.{VerdictAnswer, extra_of, coded, CodedAnswer}
use Rattle.verdict.specs.declared.answer.Verdict.{Verdict}
use Rattle.verdict.specs.declared.answer.Verdict.TheVariants as Ve
use Rattle.verdict.proofs.CollectLaws.{collects-once}
use Rattle.verdict.proofs.AnswerLaws.{asked-readable, asked-below, asked-stands}

module _ (image table : List ℕ) (goal start : ℕ) where
  -- Not both the goal and its dual hold.
  opposed : {A : Type 0} → VerdictAnswer image table goal start (Ok Ve.Yes) → VerdictAnswer image table goal start (Ok Ve.No) → A
  opposed p q =
      let clear = p.clear in
      absurd ((dual-holds (asked-readable clear) (tree_of image table goal) (started start) (asked-below clear) (asked-stands clear)).0 q.says p.says)

  -- Two answers to one question are one.
  pub verdict-once : (r s : Result Verdict Refusal) → VerdictAnswer image table goal start r → VerdictAnswer image table goal start s → r ≡ s
  verdict-once (Ok Ve.Yes) (Ok Ve.Yes) p q = refl
  verdict-once (Ok Ve.Yes) (Ok Ve.No) p q = opposed p q
  verdict-once (Ok Ve.Yes) (Err k) p q = absurd (clear_none (question_conditions image table goal start) k p.clear q)
  verdict-once (Ok Ve.No) (Ok Ve.Yes) p q = opposed q p
  verdict-once (Ok Ve.No) (Ok Ve.No) p q = refl
  verdict-once (Ok Ve.No) (Err k) p q = absurd (clear_none (question_conditions image table goal start) k p.clear q)
  verdict-once (Err j) (Ok Ve.Yes) p q = absurd (clear_none (question_conditions image table goal start) j q.clear p)
  verdict-once (Err j) (Ok Ve.No) p q = absurd (clear_none (question_conditions image table goal start) j q.clear p)
  verdict-once (Err j) (Err k) p q = ap Err (given-one (question_conditions image table goal start) j k p q)

  -- An answer is the one whose condition holds.
  is-exactly : (r s : Result Verdict Refusal) → VerdictAnswer image table goal start r → (r ≡ s) ↔ VerdictAnswer image table goal start s
  is-exactly r s p = (λ e. subst (VerdictAnswer image table goal start) e p, λ q. verdict-once r s p q)

  -- A refusal comes exactly when document 01 gives it.
  pub refused-exactly : (r : Result Verdict Refusal) (k : Refusal) → VerdictAnswer image table goal start r
      → (r ≡ Err k) ↔ Given (question_conditions image table goal start) k
  refused-exactly r k p = is-exactly r (Err k) p

  module _ (clear : Clear (question_conditions image table goal start)) (r : Result Verdict Refusal) (p : VerdictAnswer image table goal start r) where
    -- Where nothing is refused: yes exactly when the goal holds,
    pub yes-exactly : (r ≡ Ok Ve.Yes) ↔ Holds (graph_of image) (tree_of image table goal) (started start)
    yes-exactly = (λ e. ((is-exactly r (Ok Ve.Yes) p).0 e).says, λ h. (is-exactly r (Ok Ve.Yes) p).1 (record { clear = clear; says = h }))

    -- no exactly when its dual holds,
    pub no-exactly : (r ≡ Ok Ve.No) ↔ Holds (graph_of image) (dual (tree_of image table goal)) (started start)
    no-exactly = (λ e. ((is-exactly r (Ok Ve.No) p).0 e).says, λ h. (is-exactly r (Ok Ve.No) p).1 (record { clear = clear; says = h }))

    -- and that is exactly when the goal does not hold.
    pub no-unless : (r ≡ Ok Ve.No) ↔ (Holds (graph_of image) (tree_of image table goal) (started start) → ⊥)
    no-unless =
        Iff.trans no-exactly
        (dual-holds (asked-readable clear) (tree_of image table goal) (started start) (asked-below clear) (asked-stands clear))

    -- Wherever the variables but 0 stand the answer is the same: only variable 0 is free in the goal, and in its dual.
    module _ (e : Env) (at-start : e 0 ≡ start) where
      anywhere : (f : Formula) → ((v : ℕ) → Free v f → v ≡ 0) → Holds (graph_of image) f (started start) ↔ Holds (graph_of image) f e
      anywhere f only = holds-start (graph_of image) f only (started start) e (sym at-start)

      pub yes-anywhere : (r ≡ Ok Ve.Yes) ↔ Holds (graph_of image) (tree_of image table goal) e
      yes-anywhere = Iff.trans yes-exactly (anywhere (tree_of image table goal) (only_zero image table goal start clear))

      pub no-anywhere : (r ≡ Ok Ve.No) ↔ Holds (graph_of image) (dual (tree_of image table goal)) e
      no-anywhere =
          Iff.trans no-exactly
          (anywhere (dual (tree_of image table goal))
          (λ v h. only_zero image table goal start clear v ((dual-free v (tree_of image table goal)).0 h)))

-- ---- the coding for callers in C

-- Two answers of one code are one: no refusal has the number 128 or 129.
pub coded-injective : (r s : Result Verdict Refusal) → coded r ≡ coded s → r ≡ s
coded-injective r s = coded_by-told extra_of r s (λ a b p q. own a b)
  where
    own : (a b : Verdict) → extra_of a ≡ extra_of b → a ≡ b
    own Ve.Yes Ve.Yes e = refl
    own Ve.Yes Ve.No e = absurd (omega arith)
    own Ve.No Ve.Yes e = absurd (omega arith)
    own Ve.No Ve.No e = refl

-- Two numbers that meet the contract of the exported function are one.
pub code-once : (image table : List ℕ) (goal start m n : ℕ) → CodedAnswer image table goal start m → CodedAnswer image table goal start n → m ≡ n
code-once image table goal start m n p q =
    p.code ∙ ap coded (verdict-once image table goal start p.verdict q.verdict p.answer q.answer) ∙ sym q.code

-- ---- the public functions below the verdict

-- Two sets that collect one test are one set.
pub set-once : {n : ℕ} {op : Stages} (r s : Set) → Collects n op (number r) → Collects n op (number s) → r ≡ s
set-once r s c d = set_same r s (collects-once (number r) (number s) c d)
