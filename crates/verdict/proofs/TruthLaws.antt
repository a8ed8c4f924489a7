-- One truth value of an entry: what each arm of the code gives is what the test of the entry's formula says.
--
--     constant-truth, literal-truth, settled-truth, second-truth, modal-truth
--
-- Assumes nothing.
use Prim.Native.Nat.{ℕ}
use mathlib.Core.Path.{◌≡◌, refl, sym, ap, ap₂, ◌∙◌, subst}
use mathlib.Core.Bool.{Bool, true, false, beq}
use mathlib.Core.List.{List}
use mathlib.Core.Logic.{◌⊎◌}
use lib.Dec.{T}
use Rattle.format.specs.Image.{graph_of}
use Rattle.format.specs.Table.{kind_of}
use Rattle.format.specs.declared.record.Record.{Record}
use Rattle.format.specs.declared.record.Sort.{Sort}
use Rattle.format.specs.declared.record.Sort.TheVariants as S
use Rattle.format.proofs.TreeLaws.{Row}
use Rattle.hand.specs.Environment.{env_of}
use Rattle.hand.specs.Hand.{atom_in}
use Rattle.verdict.specs.Kinds.{is_first, literal, joined}
use Rattle.verdict.specs.Evaluation.{Ready, truth_of, modal_over}
use Rattle.verdict.specs.declared.setup.Setup.{Setup}
use Rattle.hand.specs.declared.env.Env.{Env}
use Rattle.verdict.proofs.EntryLaws.{test-row}
use Rattle.verdict.proofs.EvaluationLaws.{ready-rule, modal-here}

-- An atom that is compared with whether it is plain.
compared : (b first : Bool) → beq b first ≡ literal first b
compared true true = refl
compared true false = refl
compared false true = refl
compared false false = refl

-- Where the first operand does not settle "and" or "or", the second does; where it does, that is its value.
second : (first a b : Bool) → beq a first ≡ true → b ≡ joined first a b
second true true b h = refl
second true false b h = absurd (subst T (sym h) tt)
second false true b h = absurd (subst T (sym h) tt)
second false false b h = refl

settled : (first a b : Bool) → beq a first ≡ false → a ≡ joined first a b
settled true true b h = absurd (subst T h tt)
settled true false b h = refl
settled false true b h = refl
settled false false b h = absurd (subst T h tt)

module _ (setup : Setup) {e : ℕ} {env : Env} (ready : Ready setup.table.now setup.stages e env) where
  abbrev image : List ℕ
  image = setup.image.now

  abbrev table : List ℕ
  table = setup.table.now

  module _ {r : Record} where
    pub constant-truth : {first : Bool} → Row table e r S.Constant → first ≡ is_first (kind_of r.kind) → first ≡ truth_of image table e env
    constant-truth row f = f ∙ sym (test-row image row (ready-rule setup ready) (graph_of image) (env_of env))

    pub literal-truth : {first b : Bool} → Row table e r S.Atom → first ≡ is_first (kind_of r.kind) → b ≡ atom_in image r (env_of env)
        → beq b first ≡ truth_of image table e env
    literal-truth {first} {b} row f d = compared b first ∙ ap₂ literal f d ∙ sym (test-row image row (ready-rule setup ready) (graph_of image) (env_of env))

    -- The value of "and" and "or", by those of their operands.
    junction-truth : {first a b : Bool} → Row table e r S.Junction → first ≡ is_first (kind_of r.kind)
        → a ≡ truth_of image table r.a env → b ≡ truth_of image table r.b env → joined first a b ≡ truth_of image table e env
    junction-truth {first} {a} {b} row f c d =
        ap (λ (k : Bool). joined k a b) f ∙ ap₂ (joined (is_first (kind_of r.kind))) c d
        ∙ sym (test-row image row (ready-rule setup ready) (graph_of image) (env_of env))

    pub second-truth : {first a b : Bool} → Row table e r S.Junction → first ≡ is_first (kind_of r.kind)
        → a ≡ truth_of image table r.a env → beq a first ≡ true → b ≡ truth_of image table r.b env → b ≡ truth_of image table e env
    second-truth {first} {a} {b} row f c h d = second first a b h ∙ junction-truth row f c d

    pub settled-truth : {first a : Bool} → Row table e r S.Junction → first ≡ is_first (kind_of r.kind)
        → a ≡ truth_of image table r.a env → beq a first ≡ false → a ≡ truth_of image table e env
    settled-truth {first} {a} row f c h = settled first a (truth_of image table r.b env) h ∙ junction-truth row f c refl

    pub modal-truth : {s : Sort} {b : Bool} → Row table e r s → (s ≡ S.Unary) ⊎ (s ≡ S.Binary) → b ≡ modal_over image table e env → b ≡ truth_of image table e env
    modal-truth row is d = d ∙ modal-here setup ready row is (env_of env)
