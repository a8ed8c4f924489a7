-- An entry's formula on a side: on side 0 it is the formula itself, on any other its dual, whose test is the negated test.
--
--     truth-side                one truth value
--     where-zero, where-dual    the stages at which it holds
--
-- Assumes nothing.
use Prim.Native.Nat.{ℕ, zero, suc, ◌-◌, ◌≤◌}
use native.Mathlib.Omega.{arith}
use mathlib.Core.Path.{◌≡◌, refl, sym, ap, ◌∙◌, subst}
use mathlib.Core.Bool.{Bool, true, false, not, beq}
use mathlib.Core.List.{List}
use lib.Bits.{bit_and}
use lib.Dec.{eqb}
use borrow.Author.Tests.{ne_eqb}
use Rattle.model.specs.Formula.{bind}
use Rattle.logic.proofs.Duality.{test-dual}
use Rattle.sets.specs.Number.{width}
use Rattle.modal.proofs.LawsMember.{below}
use Rattle.format.specs.Image.{graph_of}
use Rattle.format.specs.Table.{tree_of}
use Rattle.hand.specs.Environment.{env_of}
use Rattle.hand.specs.declared.env.Env.{Env}
use Rattle.verdict.specs.Evaluation.{Collects, truth_of, held_at}
use Rattle.verdict.proofs.CollectLaws.{collects-as, collects-lacks}
use Rattle.guide.specs.Sides.{truth_on, held_on}

module _ (image table : List ℕ) (e : ℕ) (env : Env) where
  -- Whether it holds.
  pub truth-side : (side : ℕ) (b : Bool) → b ≡ truth_of image table e env → beq b (eqb side 0) ≡ truth_on image table side e env
  truth-side zero b h = as_is b ∙ h
    where
      as_is : (b : Bool) → beq b true ≡ b
      as_is true = refl
      as_is false = refl
  truth-side (suc k) b h =
      ap (beq b) (ne_eqb (suc k) 0 (λ e. omega (arith, e))) ∙ turned b ∙ ap not h ∙ sym (test-dual (graph_of image) (tree_of image table e) (env_of env))
    where
      turned : (b : Bool) → beq b false ≡ not b
      turned true = refl
      turned false = refl

  -- Where it holds, with variable x at the stage.
  pub where-zero : (side n x r : ℕ) → side ≡ 0 → Collects n (held_at image table e env x) r → Collects n (held_on image table side e env x) r
  where-zero side n x r z c = subst (λ (k : ℕ). Collects n (held_on image table k e env x) r) (sym z) c

  -- Where its dual holds, with variable x at the stage.
  pub where-dual : (side n x : ℕ) {all held r : ℕ} → (side ≡ 0 → ⊥) → n ≤ width → all ≡ below n → Collects n (held_at image table e env x) held
      → r ≡ all - bit_and all held → Collects n (held_on image table side e env x) r
  where-dual zero n x f w a c m = absurd (f refl)
  where-dual (suc k) n x {held = held} f w a c m =
      collects-as (λ s h. sym (test-dual (graph_of image) (tree_of image table e) (bind (env_of env) x s))) (collects-lacks held w a c m)
