-- The promise of the readers, on bytes: a refusal is given exactly when its condition holds and no earlier one does, a shape exactly when
-- no condition holds; and two answers that meet a reader's contract are one.
use Prim.Native.Nat.{ℕ}
use mathlib.Core.Path.{◌≡◌, sym, ap, ◌∙◌, subst}
use mathlib.Core.Bool.{Bool, true, false}
use mathlib.Core.List.{List}
use mathlib.Core.Logic.{◌↔◌}
use Rattle.std.specs.Prelude.{Result, Ok, Err}
use Rattle.model.specs.Decides.{Decides}
use Rattle.format.specs.Refusal.{Given}
use Rattle.format.specs.Image.{image_conditions}
use Rattle.format.specs.Question.{setup_conditions, question_conditions}
use Rattle.format.specs.Answers.{ImageAnswer, TableAnswer, QuestionAnswer}
use Rattle.format.specs.declared.Refusal.{Refusal}
use Rattle.format.specs.declared.image.Shape.{Shape as ImageShape}
use Rattle.format.specs.declared.table.Shape.{Shape as TableShape}
use Rattle.format.specs.declared.question.Question.{Question}
use Rattle.format.proofs.RefusalLaws.{given-one, clear_none}

-- Two answers of a yes or no that decide one statement are one.
pub decides-once : (r s : Bool) (P : Type 0) → Decides r P → Decides s P → r ≡ s
decides-once true true P p q = λ i. true
decides-once true false P p q = absurd (q p)
decides-once false true P p q = absurd (p q)
decides-once false false P p q = λ i. false

-- Two answers to one image, to one table, to one question.
pub image-once : (image : List ℕ) (r s : Result ImageShape Refusal) → ImageAnswer image r → ImageAnswer image s → r ≡ s
image-once image (Ok a) (Ok b) p q = ap Ok (p.is ∙ sym q.is)
image-once image (Ok a) (Err k) p q = absurd (clear_none (image_conditions image) k p.clear q)
image-once image (Err j) (Ok b) p q = absurd (clear_none (image_conditions image) j q.clear p)
image-once image (Err j) (Err k) p q = ap Err (given-one (image_conditions image) j k p q)

pub table-once : (image table : List ℕ) (r s : Result TableShape Refusal) → TableAnswer image table r → TableAnswer image table s → r ≡ s
table-once image table (Ok a) (Ok b) p q = ap Ok (p.is ∙ sym q.is)
table-once image table (Ok a) (Err k) p q = absurd (clear_none (setup_conditions image table) k p.clear q)
table-once image table (Err j) (Ok b) p q = absurd (clear_none (setup_conditions image table) j q.clear p)
table-once image table (Err j) (Err k) p q = ap Err (given-one (setup_conditions image table) j k p q)

module _ (image table : List ℕ) (goal start : ℕ) where
  pub question-once : (r s : Result Question Refusal) → QuestionAnswer image table goal start r → QuestionAnswer image table goal start s → r ≡ s
  question-once (Ok a) (Ok b) p q = ap Ok (p.is ∙ sym q.is)
  question-once (Ok a) (Err k) p q = absurd (clear_none (question_conditions image table goal start) k p.clear q)
  question-once (Err j) (Ok b) p q = absurd (clear_none (question_conditions image table goal start) j q.clear p)
  question-once (Err j) (Err k) p q = ap Err (given-one (question_conditions image table goal start) j k p q)

-- A refusal comes exactly when document 01 gives it.
pub image-refused : (image : List ℕ) (r : Result ImageShape Refusal) (k : Refusal) → ImageAnswer image r → (r ≡ Err k) ↔ Given (image_conditions image) k
image-refused image r k p = (λ e. subst (ImageAnswer image) e p, λ g. image-once image r (Err k) p g)

pub table-refused : (image table : List ℕ) (r : Result TableShape Refusal) (k : Refusal) → TableAnswer image table r
    → (r ≡ Err k) ↔ Given (setup_conditions image table) k
table-refused image table r k p = (λ e. subst (TableAnswer image table) e p, λ g. table-once image table r (Err k) p g)

pub question-refused : (image table : List ℕ) (goal start : ℕ) (r : Result Question Refusal) (k : Refusal) → QuestionAnswer image table goal start r
    → (r ≡ Err k) ↔ Given (question_conditions image table goal start) k
question-refused image table goal start r k p =
    (λ e. subst (QuestionAnswer image table goal start) e p, λ g. question-once image table goal start r (Err k) p g)
