-- From what the readers found to what they answer: the rules of a table without a bad record, and that its operands are small; and shapes and
-- refusals of image, table and question together.
use Prim.Native.Nat.{ℕ, zero, suc, ◌%◌, ◌<◌}
use native.Mathlib.Omega.{arith}
use mathlib.Core.Path.{◌≡◌, ap}
use mathlib.Core.List.{List, [], ◌∷◌}
use Rattle.format.specs.Table.{entries_of, record_at, kind_of, sort_of, RuledAs, Ruled, operands_as, EntriesFit, BadRecord}
use Rattle.format.specs.Reading.{OperandsSmall, AllSmall}
use Rattle.format.specs.Image.{stages_of}
use Rattle.format.specs.Answers.{TableRead}
use Rattle.format.specs.declared.record.Record.{Record}
use Rattle.format.specs.declared.record.Sort.{Sort}
use Rattle.format.specs.declared.record.Sort.TheVariants as S
use Rattle.format.specs.declared.table.Shape.{Shape}
use Rattle.format.proofs.Decision.{ruled?, stable}
use Rattle.format.proofs.ReadableLaws.{sizes, entries, of_image, of-table}

-- Where no record is bad, each keeps its rules.
pub all-ruled : (image table : List ℕ) → (BadRecord image table → ⊥) → (e : ℕ) → e < entries_of table → Ruled image e (record_at table e)
all-ruled image table good e h = stable (ruled? image e (record_at table e)) (λ f. good (record { entry = e; below = h; broken = f }))

-- A row of one or two operands is small where each is.
small-none : OperandsSmall []
small-none i h = absurd (omega arith)

small_one : (a : ℕ) → a < 64 → OperandsSmall (a ∷ [])
small_one a p zero h = p
small_one a p (suc i) h = absurd (omega arith)

small-two : (a b : ℕ) → a < 64 → b < 64 → OperandsSmall (a ∷ b ∷ [])
small-two a b p q zero h = p
small-two a b p q (suc zero) h = q
small-two a b p q (suc (suc i)) h = absurd (omega arith)

-- An operand has a lower number than its entry, so it is small where the entry is.
ruled-small : (row : Sort) (image : List ℕ) (e : ℕ) (r : Record) → e < 64 → RuledAs row image e r → OperandsSmall (operands_as row r)
ruled-small S.Constant image e r h rule = small-none
ruled-small S.Atom image e r h rule = small-none
ruled-small S.Junction image e r h rule = small-two r.a r.b (omega (arith, rule.a)) (omega (arith, rule.b))
ruled-small S.Unary image e r h rule = small_one r.a (omega (arith, rule.a))
ruled-small S.Binary image e r h rule = small-two r.a r.b (omega (arith, rule.a)) (omega (arith, rule.b))

-- In a table of at most 64 entries without a bad record every operand is small.
pub all_small : (image table : List ℕ) → EntriesFit table → (BadRecord image table → ⊥) → AllSmall table
all_small image table fits good e h =
    ruled-small (sort_of (kind_of (record_at table e).kind)) image e (record_at table e) (omega (arith, fits.most)) (all-ruled image table good e h).keeps

-- What the shape of a readable image and table says of them.
module _ {image table : List ℕ} {shape : Shape} (was : TableRead image table shape) where
  pub shape-entries : shape.entries ≡ entries_of table
  shape-entries = ap (λ (s : Shape). s.entries) was.is

  pub shape-stages : shape.image.stages ≡ stages_of image
  shape-stages = ap (λ (s : Shape). s.image.stages) was.is

  -- A goal or a start that is below its bound is its own last byte.
  pub goal-byte : (goal : ℕ) → goal < shape.entries → goal % 256 ≡ goal
  goal-byte goal h = omega (arith, shape-entries, (entries image table (of-table image table was.clear)).most)

  pub start-byte : (start : ℕ) → start < shape.image.stages → start % 256 ≡ start
  start-byte start h = omega (arith, shape-stages, (sizes image (of_image image table was.clear)).stages)
