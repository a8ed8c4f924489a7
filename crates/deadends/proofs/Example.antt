-- The example of document 01 and small images beside it, on the definitions that the contract of `report` cites. Each answer is computed.
--
--     example      document 01's image: every stage can fire, so nothing is listed; entry 2 of its table is EU(true, fired)
--     stuck        a graph with one dead end
--     refused      15 where predicate 0 is missing or of arity 2, and 5 before it
--
-- Assumes nothing.
use Prim.Native.Nat.{ℕ, ◌^◌, ◌<◌}
use mathlib.Core.Path.{◌≡◌, refl, sym, subst}
use mathlib.Core.Bool.{Bool, true, false, not, beq}
use mathlib.Core.List.{List, [], ◌∷◌, ◌++◌}
use mathlib.Core.Logic.Iff
use mathlib.Core.Logic.{◌↔◌}
use lib.Count.{ones, ones_in}
use lib.Dec.{T, lit<}
use Rattle.logic.proofs.Booleans.{all-below}
use Rattle.logic.specs.Test.{iter, some_next, eu, all_below, any_below}
use Rattle.sets.specs.Member.{Has}
use Rattle.sets.specs.Number.{stored}
use Rattle.sets.proofs.LawsMember.{has-test, below-lt}
use Rattle.format.specs.Refusal.{number, Given, Clear}
use Rattle.format.specs.Image.{member, stages_of, first_set, graph_of, image_conditions}
use Rattle.format.specs.Table.{trees, tree_of}
use Rattle.format.specs.Example.{example_image, example_table}
use Rattle.format.specs.declared.Refusal.{Refusal}
use Rattle.format.specs.declared.Refusal.TheVariants as R
use Rattle.format.proofs.Decision.{Decided, answer, answer-given, answer-clear, image-decided, decided-both, either?, eq?, not?}
use Rattle.format.proofs.ReadableLaws.{readable}
use Rattle.deadends.specs.DeadEnd.{can_fire, fired_conditions, report_conditions}
use Rattle.sets.specs.Stored.{stored_set}
use Rattle.deadends.specs.Report.{Listed}
use Rattle.deadends.proofs.DeadEndLaws.{Able, able-test, dead-unless, clear-image}

-- ---- answers that are computed

-- Every condition of the report is decided.
abbrev report-decided : (image : List ℕ) → Decided (report_conditions image)
report-decided image =
    decided-both (image_conditions image) (fired_conditions image) (image-decided image) (either? (eq? _ 0) (not? (eq? _ 1)), tt)

-- The number of the refusal that an image gets, 0 where nothing is refused.
abbrev asked : List ℕ → ℕ
asked image = answer (report_conditions image) (report-decided image)

refused-with : (image : List ℕ) (k : Refusal) → asked image ≡ number k → Given (report_conditions image) k
refused-with image k e = answer-given (report_conditions image) (report-decided image) k e

-- Whether the rounds of EU(true, fired) come to a stage, and whether a set has exactly the stages below n to which they do not.
abbrev comes_to : List ℕ → ℕ → Bool
comes_to image s = eu (graph_of image) (λ t. true) ((graph_of image).one 0) s

abbrev lists : List ℕ → ℕ → ℕ → Bool
lists image set s = beq (member set s) (not (comes_to image s))

-- A test that is the other's negation says that the other does not pass.
apart : (a b : Bool) → T (beq a (not b)) → T a ↔ (T b → ⊥)
apart true true t = absurd t
apart true false t = (λ u v. v, λ f. tt)
apart false true t = (λ u. absurd u, λ f. f tt)
apart false false t = absurd t

-- A set that passes, on an image that nothing refuses, is the report's.
listed-with : (image : List ℕ) (set count : ℕ) → asked image ≡ 0 → set < 2 ^ stages_of image → all_below (stages_of image) (lists image set) ≡ true
    → count ≡ ones set → Listed image set count
listed-with image set count e small passes many = record { clear = clear; dead = dead-unless (graph_of image) set unless; many = many }
  where
    clear : Clear (report_conditions image)
    clear = answer-clear (report_conditions image) (report-decided image) e

    each : (s : ℕ) → s < stages_of image → Has set s ↔ (T (comes_to image s) → ⊥)
    each s h =
        Iff.trans (Iff.symm (has-test set s))
        (apart (member set s) (comes_to image s) ((all-below (stages_of image) (lists image set)).0 (subst T (sym passes) tt) s h))

    able : (s : ℕ) → s < stages_of image → T (comes_to image s) ↔ Able (graph_of image) s
    able s h = able-test (readable image (clear-image clear)) (λ t. true) ((graph_of image).one 0) (λ t i. tt) (λ t i. Iff.rfl) s h

    unless : (s : ℕ) → Has set s ↔ ((s < stages_of image) × (Able (graph_of image) s → ⊥))
    unless s = (
      λ h. let low = (below-lt set (stages_of image)).1 small s h in (low, λ a. (each s low).0 h ((able s low).1 a)),
      λ u. (each s u.0).1 (λ t. u.1 ((able s u.0).0 t)),
    )

-- ---- the example of document 01

-- Every stage can fire: no stage is listed. EU(true, fired) is entry 2 of the example's table.
pub example : Listed example_image 0 0 × (tree_of example_image example_table 2 ≡ can_fire)
unfolding stored first_set trees iter some_next all_below any_below ones ones_in
example = (listed-with example_image 0 0 refl (lit< tt) refl refl, refl)

-- ---- a dead end

-- An image of three stages with one predicate: its arity, its successor sets, and the sets of the predicate.
abbrev three_stages : ℕ → ℕ → ℕ → ℕ → List ℕ → List ℕ
three_stages arity a b c sets =
    (0x5A ∷ 0x53 ∷ 0x4D ∷ 0 ∷ 1 ∷ 3 ∷ 1 ∷ arity ∷ []) ++ (stored_set a ++ (stored_set b ++ (stored_set c ++ sets)))

-- 0 goes to 1 and 2, 1 only to itself, and 2, which has fired, only to 1. Stage 1 is the one dead end: 0 can fire, though it need not, and 2
-- has fired, though no path from it fires again.
pub stuck : Listed (three_stages 1 6 2 2 (stored_set 4)) 2 1
unfolding stored first_set iter some_next all_below any_below ones ones_in
stuck = listed-with (three_stages 1 6 2 2 (stored_set 4)) 2 1 refl (lit< tt) refl refl

-- ---- refusals

-- The same graph with no predicate, with one of arity 2, and with a stage without successor besides: 15, 15 and 5.
pub refused :
    Given (report_conditions ((0x5A ∷ 0x53 ∷ 0x4D ∷ 0 ∷ 1 ∷ 3 ∷ 0 ∷ []) ++ (stored_set 6 ++ (stored_set 2 ++ stored_set 2)))) R.NothingFires
    × Given (report_conditions (three_stages 2 6 2 2 (stored_set 4 ++ (stored_set 4 ++ stored_set 4)))) R.NothingFires
    × Given (report_conditions (three_stages 2 6 0 2 (stored_set 4 ++ (stored_set 4 ++ stored_set 4)))) R.NoSuccessor
unfolding stored first_set
refused = (refused-with _ R.NothingFires refl, refused-with _ R.NothingFires refl, refused-with _ R.NoSuccessor refl)
