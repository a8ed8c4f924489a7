-- The one rule for "true", for an atom and for its negation, and a rule's own condition, from what the code tests.
--
--     for-true, for-holds, for-holds-not     the rule is known by its kind
--     holds-allowed, not-allowed             the rules for an atom and for its negation
--     and-left, and-right                    of two conditions both hold
--     off-walk                               a stage that is to be off the walk is not on it
use Prim.Native.Nat.{ℕ, zero, suc, ◌/◌, ◌<◌}
use native.Mathlib.Omega.{arith}
use mathlib.Core.Path.{◌≡◌, refl, sym, ap, subst, ◌∙◌}
use mathlib.Core.Bool.{Bool, true, false, not, ◌&&◌}
use mathlib.Core.List.{List}
use lib.Dec.{T}
use borrow.Author.Tests.{eq-eqb}
use Rattle.hand.specs.declared.setup.Entry.{Entry}
use Rattle.sets.specs.declared.Set.{Set}
use Rattle.model.specs.Formula.{Env}
use Rattle.sets.specs.Member.{bit, Has}
use Rattle.format.specs.Image.{member}
use Rattle.format.specs.Table.{record_at}
use Rattle.rules.specs.Table.{kind_for}
use Rattle.rules.specs.declared.Rule.{Rule}
use Rattle.hand.specs.Hand.{atom_in}
use Rattle.hand.specs.Setup.{entry_at, atom_from}
use Rattle.hand.proofs.EntryLaws.{entry-atom}
use Rattle.checker.specs.Reading.{Lent, InHand, allows}
use Rattle.checker.proofs.ArmLaws.{kind-is, entry-is}

-- ---- kinds with one rule

-- The one rule for "true", for an atom and for its negation, by the number of its kind; for "false", 1, which has none, that for "true" stands.
abbrev only : ℕ → Rule
only zero = Rule.True
only (suc zero) = Rule.True
only (suc (suc zero)) = Rule.Holds
only (suc (suc (suc k))) = Rule.HoldsNot

only-rule : (q : Rule) → kind_for q < 4 → q ≡ only (kind_for q)
only-rule Rule.True h = refl
only-rule Rule.Holds h = refl
only-rule Rule.HoldsNot h = refl
only-rule Rule.And h = absurd (omega arith)
only-rule Rule.OrLeft h = absurd (omega arith)
only-rule Rule.OrRight h = absurd (omega arith)
only-rule Rule.Ax h = absurd (omega arith)
only-rule (Rule.Ex c) h = absurd (omega arith)
only-rule Rule.AfNow h = absurd (omega arith)
only-rule Rule.AfLater h = absurd (omega arith)
only-rule (Rule.EgOn c) h = absurd (omega arith)
only-rule Rule.EgMerge h = absurd (omega arith)
only-rule Rule.ArRelease h = absurd (omega arith)
only-rule Rule.ArOn h = absurd (omega arith)
only-rule Rule.ArMerge h = absurd (omega arith)
only-rule Rule.EuNow h = absurd (omega arith)
only-rule (Rule.EuLater c) h = absurd (omega arith)

-- For "true",
pub for-true : (q : Rule) → kind_for q ≡ 0 → q ≡ Rule.True
for-true q e = only-rule q (omega (arith, e)) ∙ ap only e

-- for an atom,
pub for-holds : (q : Rule) → kind_for q ≡ 2 → q ≡ Rule.Holds
for-holds q e = only-rule q (omega (arith, e)) ∙ ap only e

-- and for its negation.
pub for-holds-not : (q : Rule) → kind_for q ≡ 3 → q ≡ Rule.HoldsNot
for-holds-not q e = only-rule q (omega (arith, e)) ∙ ap only e

-- ---- atoms

module _ {image table : List ℕ} {sets : List Set} {entries : List Entry} {side : ℕ} (lent : Lent image table side sets entries) {e : ℕ} {env : Env}
    (hand : InHand image table e env) {b : Bool} (b-is : b ≡ atom_from sets (entry_at entries e) env) where
  -- The test of the atom is the record's.
  atom-is : (entry_at entries e).kind / 2 ≡ 1 → b ≡ atom_in image (record_at table e) env
  atom-is h =
      b-is ∙ entry-atom side (record_at table e) env lent.all (entry-is lent hand) (ap (λ (k : ℕ). k / 2) (sym (kind-is lent hand)) ∙ h)

  module _ {rule : Rule} (k : kind_for rule ≡ (entry_at entries e).kind) (set s : ℕ) where
    pub holds-allowed : rule ≡ Rule.Holds → b ≡ allows image (record_at table e) env set s rule
    holds-allowed f = atom-is (omega (arith, k, ap kind_for f)) ∙ sym (ap (λ (q : Rule). allows image (record_at table e) env set s q) f)

    pub not-allowed : rule ≡ Rule.HoldsNot → not b ≡ allows image (record_at table e) env set s rule
    not-allowed f = ap not (atom-is (omega (arith, k, ap kind_for f))) ∙ sym (ap (λ (q : Rule). allows image (record_at table e) env set s q) f)

-- ---- a condition that passed

pub and-left : (a b : Bool) → (a && b) ≡ true → T a
and-left true b e = tt
and-left false b e = cc

pub and-right : (a b : Bool) → (a && b) ≡ true → b ≡ true
and-right true b e = e
and-right false b e = cc

-- A stage whose test passed is not on the walk.
pub off-walk : (set s : ℕ) → not (member set s) ≡ true → Has set s → ⊥
off-walk set s e h = subst T (sym e ∙ ap not (eq-eqb (bit set s) 1 h)) tt
