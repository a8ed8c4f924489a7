-- The answer to the steps of a certificate whose question and header are not refused, by how far their reading came, and what that says in the words
-- of the crate `rules`.
--
--     told, told-answer                            the answer, which meets what is said of the check
--     told-refused                                 its number and its place are those that `rules` gives to the reading
--     placed-22, placed-23, placed-24, placed-25   so each refusal is given, with its place, exactly when document 01 says
--     unplaced                                     and without its place
use Prim.Native.Nat.{ℕ, ◌≤◌}
use native.Mathlib.Omega.{arith}
use mathlib.Core.Path.{◌≡◌, refl, ap}
use mathlib.Core.Bool.{Bool, true, false}
use mathlib.Core.List.{List}
use mathlib.Core.Logic.Iff
use mathlib.Core.Logic.{◌↔◌, ◌⊎◌, inl, inr}
use lib.Dec.{eqb}
use lib.ListN.{length}
use borrow.Author.Tests.{eqb-true, eqb-false}
use Rattle.model.specs.Graph.{Readable}
use Rattle.sets.specs.Number.{width}
use Rattle.format.specs.Refusal.{number, Given, Clear}
use Rattle.format.specs.Image.{stages_of, graph_of}
use Rattle.format.specs.Table.{tree_of}
use Rattle.format.specs.Question.{question_conditions}
use Rattle.format.specs.declared.Refusal.{Refusal}
use Rattle.format.specs.declared.Refusal.TheVariants as R
use Rattle.format.proofs.RefusalLaws.{number-injective, given-first}
use Rattle.format.proofs.Decision.{outcome, decided-both, question-decided}
use Rattle.rules.specs.Shape.{Entry}
use Rattle.rules.specs.Refusals.{refused, at_end, answer, Given22, Given23, Given24, Given25}
use Rattle.std.specs.Prelude.{Result, Ok, Err}
use Rattle.rules.specs.Reading.{Progress}
use Rattle.rules.specs.declared.Stop.{Stop}
use Rattle.rules.proofs.Refused as rules
use Rattle.hand.specs.Side.{sided}
use Rattle.checker.specs.Header.{side_of, header_conditions}
use Rattle.hand.specs.Environment.{started}
use Rattle.checker.specs.Check.{reading, outer_conditions, step_conditions, fault_at, CheckAnswer, CheckedAnswer, StepsAnswer}
use Rattle.checker.specs.declared.answer.Fault.{Fault}
use Rattle.checker.proofs.CheckLaws.{missing, wrong, fails, remain, inside-certificate, after-header}
use Rattle.checker.proofs.CertificateLaws.{question-clear, headers-clear, header-does-fit, header-does-name, header-decided, asked-readable, asked-small}

-- At the certificate's end its side is accepted; elsewhere bytes remain.
abbrev ended : Bool → ℕ → ℕ → Result ℕ Fault
ended true side end = Ok side
ended false side end = Err (fault_at R.BytesRemain end)

abbrev pub told : List ℕ → Progress → Result ℕ Fault
told certificate (Ok end) = ended (eqb end (length certificate)) (side_of certificate) end
told certificate (Err Stop.Missing) = Err (fault_at R.ByteMissing (length certificate))
told certificate (Err (Stop.Wrong place)) = Err (fault_at R.WrongCode place)
told certificate (Err (Stop.Fails place)) = Err (fault_at R.ConditionFails place)

-- It is what is said of the steps, where their reading ends within the certificate.
told-steps : (certificate : List ℕ) (p : Progress) → ((end : ℕ) → p ≡ Ok end → end ≤ length certificate)
    → StepsAnswer certificate p (told certificate p)
told-steps certificate (Ok end) inside = go (eqb end (length certificate)) refl
  where
    go : (b : Bool) → eqb end (length certificate) ≡ b → StepsAnswer certificate (Ok end) (ended b (side_of certificate) end)
    go true e = (refl, ap Ok (eqb-true end (length certificate) e))
    go false e = remain certificate refl (omega (arith, inside end refl, eqb-false end (length certificate) e))
told-steps certificate (Err Stop.Missing) inside = missing certificate refl
told-steps certificate (Err (Stop.Wrong place)) inside = wrong certificate refl
told-steps certificate (Err (Stop.Fails place)) inside = fails certificate refl

-- Two refusals with their places are one exactly when their numbers and places are.
numbered : (j k : Refusal) (q place : ℕ)
    → (◌≡◌ {A = Result ℕ Fault} (Err (fault_at j q)) (Err (fault_at k place))) ↔ (refused (number j) q ≡ refused (number k) place)
numbered j k q place = (
  λ e. let same : fault_at j q ≡ fault_at k place = cc in ap (λ (f : Fault). refused (number f.refusal) f.place) same,
  λ e. let f : number j ≡ number k = cc in let g : q ≡ place = cc in λ i. Err (fault_at (number-injective j k f i) (g i)),
)

-- The refusals are those of `rules`, with their places.
told-refused : (certificate : List ℕ) (p : Progress) (k : Refusal) (place : ℕ)
    → (told certificate p ≡ Err (fault_at k place)) ↔ (answer certificate p ≡ refused (number k) place)
told-refused certificate (Ok end) k place = go (eqb end (length certificate))
  where
    go : (b : Bool) → (ended b (side_of certificate) end ≡ Err (fault_at k place)) ↔ (at_end b end ≡ refused (number k) place)
    go true = (λ e. absurd (let z : ◌≡◌ {A = ℕ} 0 1 = cc in omega arith), λ e. absurd (let z : ◌≡◌ {A = ℕ} 0 1 = cc in omega arith))
    go false = numbered R.BytesRemain k end place
told-refused certificate (Err Stop.Missing) k place = numbered R.ByteMissing k (length certificate) place
told-refused certificate (Err (Stop.Wrong q)) k place = numbered R.WrongCode k q place
told-refused certificate (Err (Stop.Fails q)) k place = numbered R.ConditionFails k q place

-- Without its place.
abbrev pub bare : Result ℕ Fault → Result ℕ Refusal
bare (Ok side) = Ok side
bare (Err f) = Err f.refusal

pub bare-answer : (image table certificate : List ℕ) (goal start : ℕ) (c : Result ℕ Fault) → CheckedAnswer image table certificate goal start c
    → CheckAnswer image table certificate goal start (bare c)
bare-answer image table certificate goal start (Ok side) a = a
bare-answer image table certificate goal start (Err f) a = a.given

pub unplaced : (c : Result ℕ Fault) (k : Refusal) → (bare c ≡ Err k) ↔ ((place : ℕ) × (c ≡ Err (fault_at k place)))
unplaced (Ok side) k =
    (λ e. absurd (let z : ◌≡◌ {A = ℕ} 0 1 = cc in omega arith), λ g. let e = g.1 in absurd (let z : ◌≡◌ {A = ℕ} 0 1 = cc in omega arith))
unplaced (Err f) k = (λ e. let same : f.refusal ≡ k = cc in (f.place, ap (λ (i : Refusal). Err (fault_at i f.place)) same), λ g. let e = g.1 in cc)

-- What a certificate is to prove, by the rules: the goal's formula on the side that it names.
abbrev pub proved : List ℕ → List ℕ → List ℕ → ℕ → ℕ → Entry
proved image table certificate goal start = record { formula = sided (side_of certificate) (tree_of image table goal); env = started start }

module _ (image table certificate : List ℕ) (goal start : ℕ) (clear : Clear (outer_conditions image table certificate goal start)) where
  abbrev pub told_here : Result ℕ Fault
  told_here = told certificate (reading image table certificate goal start)

  abbrev goal_here : Entry
  goal_here = proved image table certificate goal start

  graph : Readable (graph_of image)
  graph = asked-readable image table goal start (question-clear image table certificate goal start clear)

  small : stages_of image ≤ width
  small = asked-small image table goal start (question-clear image table certificate goal start clear)

  -- The answer meets what is said of the check.
  pub told-answer : CheckedAnswer image table certificate goal start told_here
  told-answer =
      let question = question-clear image table certificate goal start clear in
      let header = headers-clear image table certificate goal start clear in
      let fits = header-does-fit certificate goal start header in
      after-header image table certificate goal start question fits (header-does-name certificate goal start header) told_here
      (told-steps certificate (reading image table certificate goal start)
      (λ end e. inside-certificate question certificate fits.begins.long e))

  -- When each refusal of the steps is given, and with which place.
  pub placed-22 : (place : ℕ) → (told_here ≡ Err (fault_at R.ByteMissing place)) ↔ Given22 (graph_of image) certificate goal_here 8 place
  unfolding reading
  placed-22 place =
      Iff.trans (told-refused certificate (reading image table certificate goal start) R.ByteMissing place)
      (rules.given-22 graph small certificate goal_here 8 place)

  pub placed-23 : (place : ℕ) → (told_here ≡ Err (fault_at R.WrongCode place)) ↔ Given23 (graph_of image) certificate goal_here 8 place
  unfolding reading
  placed-23 place =
      Iff.trans (told-refused certificate (reading image table certificate goal start) R.WrongCode place)
      (rules.given-23 graph small certificate goal_here 8 place)

  pub placed-24 : (place : ℕ) → (told_here ≡ Err (fault_at R.ConditionFails place)) ↔ Given24 (graph_of image) certificate goal_here 8 place
  unfolding reading
  placed-24 place =
      Iff.trans (told-refused certificate (reading image table certificate goal start) R.ConditionFails place)
      (rules.given-24 graph small certificate goal_here 8 place)

  pub placed-25 : (place : ℕ) → (told_here ≡ Err (fault_at R.BytesRemain place)) ↔ Given25 (graph_of image) certificate goal_here 8 place
  unfolding reading
  placed-25 place =
      Iff.trans (told-refused certificate (reading image table certificate goal start) R.BytesRemain place)
      (rules.given-25 graph small certificate goal_here 8 place)

-- ---- every certificate has an answer

module _ (image table certificate : List ℕ) (goal start : ℕ) where
  -- What comes before the steps: a refusal, or nothing.
  abbrev Before : Type 0
  Before = ((k : Refusal) × Given (outer_conditions image table certificate goal start) k) ⊎ Clear (outer_conditions image table certificate goal start)

  abbrev before : Before
  before =
      outcome (outer_conditions image table certificate goal start)
      (decided-both (question_conditions image table goal start) (header_conditions certificate goal start) (question-decided image table goal start)
      (header-decided certificate goal start))

  -- The refusal, or what the reading of the steps tells.
  abbrev answer_after : Before → Result ℕ Refusal
  answer_after (inl g) = Err g.0
  answer_after (inr clear) = bare (told certificate (reading image table certificate goal start))

  abbrev pub answer_of : Result ℕ Refusal
  answer_of = answer_after before

  pub answer-of : CheckAnswer image table certificate goal start answer_of
  answer-of = go before
    where
      go : (o : Before) → CheckAnswer image table certificate goal start (answer_after o)
      go (inl g) =
          given-first (outer_conditions image table certificate goal start)
          (step_conditions certificate (reading image table certificate goal start)) g.0 g.1
      go (inr clear) =
          bare-answer image table certificate goal start (told certificate (reading image table certificate goal start))
          (told-answer image table certificate goal start clear)
