-- A record's formula on a side is the formula of the record with its kind and its operands on that side; and kinds by their numbers.
use Prim.Native.Nat.{ℕ, zero, suc}
use mathlib.Core.Path.{◌≡◌, refl, sym, ap, ◌∙◌}
use mathlib.Core.List.{List}
use Rattle.model.specs.Formula.{Formula}
use Rattle.format.specs.Table.{kind_of, sort_of, record_at, made_as, made, nth, trees, tree_of}
use Rattle.format.specs.declared.record.Record.{Record}
use Rattle.format.specs.declared.record.Kind.{Kind}
use Rattle.format.specs.declared.record.Kind.TheVariants as K
use Rattle.format.proofs.TreeLaws.{tree-made}
use Rattle.hand.specs.Side.{sided, kind_on, number_of}
use Rattle.hand.specs.Hand.{start_as}

module _ (image : List ℕ) (tree : ℕ → Formula) (r : Record) where
  sided-kind : (side : ℕ) (k : Kind) → sided side (made_as k image tree r) ≡ made_as (kind_on side k) image (λ i. sided side (tree i)) r
  sided-kind zero k = refl
  sided-kind (suc n) K.True = refl
  sided-kind (suc n) K.False = refl
  sided-kind (suc n) K.Is = refl
  sided-kind (suc n) K.IsNot = refl
  sided-kind (suc n) K.And = refl
  sided-kind (suc n) K.Or = refl
  sided-kind (suc n) K.AX = refl
  sided-kind (suc n) K.EX = refl
  sided-kind (suc n) K.AF = refl
  sided-kind (suc n) K.EG = refl
  sided-kind (suc n) K.AR = refl
  sided-kind (suc n) K.EU = refl

-- The formula of an entry on a side, from the entry's record.
pub sided-entry : (image table : List ℕ) (side e : ℕ) {r : Record} → r ≡ record_at table e
    → sided side (tree_of image table e) ≡ made_as (kind_on side (kind_of r.kind)) image (λ i. sided side (nth (trees image table e) i)) r
sided-entry image table side e {r} is =
    ap (sided side) (tree-made image table e ∙ ap (made image (λ i. nth (trees image table e) i)) (sym is))
    ∙ sided-kind image (λ i. nth (trees image table e) i) r side (kind_of r.kind)

-- The kinds of a pair stand in one row, so that the stage is the same on both sides.
pub start-side : (side : ℕ) (k : Kind) (s : ℕ) → start_as (sort_of (kind_on side k)) s ≡ start_as (sort_of k) s
start-side zero k s = refl
start-side (suc n) K.True s = refl
start-side (suc n) K.False s = refl
start-side (suc n) K.Is s = refl
start-side (suc n) K.IsNot s = refl
start-side (suc n) K.And s = refl
start-side (suc n) K.Or s = refl
start-side (suc n) K.AX s = refl
start-side (suc n) K.EX s = refl
start-side (suc n) K.AF s = refl
start-side (suc n) K.EG s = refl
start-side (suc n) K.AR s = refl
start-side (suc n) K.EU s = refl

-- A kind is known by its number.
pub of_number : (k : Kind) → k ≡ kind_of (number_of k)
of_number K.True = refl
of_number K.False = refl
of_number K.Is = refl
of_number K.IsNot = refl
of_number K.And = refl
of_number K.Or = refl
of_number K.AX = refl
of_number K.EX = refl
of_number K.AF = refl
of_number K.EG = refl
of_number K.AR = refl
of_number K.EU = refl
