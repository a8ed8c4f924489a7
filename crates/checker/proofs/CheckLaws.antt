-- What a check answers, from what its parts say.
--
--     small-setup, setup-lent, question-lent, question-hand
--                                      what the readers of steps go by holds of a setup that is not refused
--     own-question, by-given           a question that was read, and its steps, by its own goal and start
--     reading-is, missing, wrong, fails, remain, whole
--                                      the answer to the steps, in each arm of their reader's
--     before-question, no_header, other-question, after-header
--                                      which refusal is given, and its place
use Prim.Native.Nat.{ℕ, ◌+◌, ◌*◌, ◌≤◌, ◌<◌}
use native.Mathlib.Nat.{le_antisymm}
use native.Mathlib.Omega.{arith}
use mathlib.Core.Path.{◌≡◌, refl, sym, ap, ap₂, subst, subst₂, ◌∙◌}
use mathlib.Core.Bool.{Bool, true, false, not, ◌&&◌}
use mathlib.Core.List.{List, [], ◌∷◌}
use mathlib.Core.Logic.{inl, inr, ⊎_elim}
use lib.Dec.{T, eqb, ltb}
use lib.ListN.{length, replicate, length-replicate, get_or-eq_default}
use Rattle.hand.specs.declared.setup.Entry.{Entry}
use Rattle.sets.specs.declared.Set.{Set}
use Rattle.model.specs.Formula.{Env, pick}
use Rattle.sets.specs.Number.{width}
use Rattle.sets.proofs.LawsMember.{side?}
use Rattle.sets.specs.Number.{number as of_set}
use Rattle.format.specs.Bytes.{byte_at}
use Rattle.format.specs.Refusal.{number, Condition, Given, Clear}
use Rattle.format.specs.Image.{stages_of, sets_in, graph_of}
use Rattle.format.specs.Table.{entries_of, record_at, kind_of, sort_of, tree_of, RuledAs}
use Rattle.format.specs.Question.{setup_conditions, question_conditions}
use Rattle.format.specs.Answers.{QuestionRead}
use Rattle.format.specs.declared.Refusal.{Refusal}
use Rattle.format.specs.declared.Refusal.TheVariants as R
use Rattle.format.specs.declared.record.Record.{Record}
use Rattle.format.specs.declared.record.Sort.{Sort}
use Rattle.format.specs.declared.record.Sort.TheVariants as S
use Rattle.format.specs.declared.question.Question.{Question}
use Rattle.format.proofs.RefusalLaws.{given-first, given-later, clear_both}
use Rattle.format.proofs.Decision.{stable, length-fits?}
use Rattle.format.proofs.ReadableLaws as ReadableLaws
use Rattle.format.proofs.ReadableLaws.{of-setup, of_image, of-table, sizes, readable, ruled, goal-below, start-below}
use Rattle.std.specs.Prelude.{Result, Ok, Err}
use Rattle.rules.specs.Reading.{Progress}
use Rattle.rules.specs.declared.Stop.{Stop}
use Rattle.rules.proofs.Accepted.{ends-inside}
use Rattle.hand.specs.Environment.{env_of, started}
use Rattle.hand.specs.Side.{sided}
use Rattle.hand.specs.Setup.{Decoded, Prepared, most_entries}
use Rattle.hand.proofs.SetupLaws.{all-sets}
use Rattle.checker.specs.Reading.{Small, Lent, InHand, read_entry}
use Rattle.checker.specs.Header.{side_of, header_conditions, HeaderFits, NamesQuestion}
use Rattle.checker.specs.Check.{reading, step_conditions, outer_conditions, broke, fault_at, RefusedAt, CheckedAnswer, StepsAnswer}
use Rattle.checker.specs.declared.answer.Fault.{Fault}
use Rattle.hand.proofs.EnvironmentLaws.{start-env}

-- ---- a setup that is not refused

-- x and y of a record that keeps its rules are variables 0 to 3.
ruled-small : (row : Sort) (image : List ℕ) (e : ℕ) (r : Record) → RuledAs row image e r → (r.x < 4) × (r.y < 4)
ruled-small S.Constant image e r h = (omega (arith, h.x), omega (arith, h.y))
ruled-small S.Atom image e r h = (omega (arith, h.x), omega (arith, h.y))
ruled-small S.Junction image e r h = (omega (arith, h.x), omega (arith, h.y))
ruled-small S.Unary image e r h = (omega (arith, h.x), omega (arith, h.y))
ruled-small S.Binary image e r h = (omega (arith, h.x), omega (arith, h.y))

module _ (image table : List ℕ) (clear : Clear (setup_conditions image table)) where
  total : length table ≡ 6 + 6 * entries_of table
  total = (ReadableLaws.entries image table (of-table image table clear)).total

  past : (i : ℕ) → length table ≤ i → byte_at table i < 4
  past i h = omega (arith, get_or-eq_default table 0 h)

  both_small : (e : ℕ) → ((record_at table e).x < 4) × ((record_at table e).y < 4)
  both_small e =
      ⊎_elim
      (λ h. ruled-small (sort_of (kind_of (record_at table e).kind)) image e (record_at table e) (ruled image table clear e h).keeps)
      (λ h. (past (9 + 6 * e) (omega (arith, total, h)), past (10 + 6 * e) (omega (arith, total, h))))
      (side? e (entries_of table))

  pub small-setup : Small image table
  small-setup = record {
    inside = (readable image (of_image image table clear)).inside;
    stages = (sizes image (of_image image table clear)).stages;
    x = λ e. (both_small e).0;
    y = λ e. (both_small e).1;
  }

-- Its sets decoded and its entries prepared are what the readers are lent.
setup-lent : {image table : List ℕ} {sets : List Set} {entries : List Entry} {side count m : ℕ} → Clear (setup_conditions image table) → count ≡ sets_in image
    → m ≡ entries_of table → (empty : Set) → of_set empty ≡ 0 → Decoded image count (replicate 1088 empty) sets
    → (first : Entry) → Prepared image table m side (replicate most_entries first) entries → Lent image table side sets entries
setup-lent {image} {table} {m = m} clear count-is m-is empty none d first p =
    let image-clear = of_image image table clear in
    record {
      small = small-setup image table clear;
      some = (sizes image image-clear).some;
      all = all-sets {n = 1088} empty (sizes image image-clear) (stable (length-fits? image) image-clear.1.1.0) (omega arith) count-is none d;
      few = (ReadableLaws.entries image table (of-table image table clear)).most;
      entry = λ e h. p.entries e (omega arith)
          (omega (arith, (ReadableLaws.entries image table (of-table image table clear)).most)) (length-replicate most_entries first);
      ruled = λ bad. bad.broken (ruled image table clear bad.entry bad.below);
    }

module _ {image table : List ℕ} {q : Question} (read : QuestionRead image table q.goal q.start q) where
  -- So it is for a question that was read.
  pub question-lent : {sets : List Set} {entries : List Entry} {side : ℕ} (empty : Set) → of_set empty ≡ 0
      → Decoded image q.shape.image.sets (replicate 1088 empty) sets
      → (first : Entry) → Prepared image table q.shape.entries side (replicate most_entries first) entries → Lent image table side sets entries
  question-lent empty none d first p =
      setup-lent (of-setup image table q.goal q.start read.clear) (ap (λ (r : Question). r.shape.image.sets) read.is)
      (ap (λ (r : Question). r.shape.entries) read.is) empty none d first p

  -- Its goal is in hand, with variable 0 at the start and the others at stage 0.
  pub question-hand : InHand image table q.goal (env_of (record { slots = q.start ∷ 0 ∷ 0 ∷ 0 ∷ [] }))
  question-hand = record {
    below = goal-below image table q.goal q.start read.clear;
    inside = λ v. subst (λ (c : Env). c v < stages_of image) (sym (start-env q.start)) (picked (eqb v 0));
  }
    where
      picked : (b : Bool) → pick b q.start 0 < stages_of image
      picked true = start-below image table q.goal q.start read.clear
      picked false = omega (arith, (sizes image (of_image image table (of-setup image table q.goal q.start read.clear))).some)

-- A question that was read is one by its own goal and start, which are those that were given.
module _ {image table : List ℕ} {goal start : ℕ} {q : Question} (read : QuestionRead image table goal start q) where
  pub goal_is : q.goal ≡ goal
  goal_is = ap (λ (q : Question). q.goal) read.is

  pub start_is : q.start ≡ start
  start_is = ap (λ (q : Question). q.start) read.is

  pub own-question : QuestionRead image table q.goal q.start q
  own-question =
      subst (λ (g : ℕ). QuestionRead image table g q.start q) (sym goal_is)
      (subst (λ (s : ℕ). QuestionRead image table goal s q) (sym start_is) read)

-- ---- the steps

module _ (certificate : List ℕ) {p : Progress} where
  pub missing : p ≡ Err Stop.Missing → StepsAnswer certificate p (Err (fault_at R.ByteMissing (length certificate)))
  missing e = (inl (refl, e), rw e)

  pub wrong : {place : ℕ} → p ≡ Err (Stop.Wrong place) → StepsAnswer certificate p (Err (fault_at R.WrongCode place))
  wrong {place} e = (inr (λ f. cc, inl (refl, (place, e))), rw e)

  pub fails : {place : ℕ} → p ≡ Err (Stop.Fails place) → StepsAnswer certificate p (Err (fault_at R.ConditionFails place))
  fails {place} e = (inr (λ f. cc, inr (λ f. cc, inl (refl, (place, e)))), rw e)

  module _ {end : ℕ} (e : p ≡ Ok end) where
    not-missing : p ≡ Err Stop.Missing → ⊥
    not-missing f = cc

    not-wrong : (place : ℕ) × (p ≡ Err (Stop.Wrong place)) → ⊥
    not-wrong g = cc

    not-fails : (place : ℕ) × (p ≡ Err (Stop.Fails place)) → ⊥
    not-fails g = cc

    pub remain : end < length certificate → StepsAnswer certificate p (Err (fault_at R.BytesRemain end))
    remain h = (inr (not-missing, inr (not-wrong, inr (not-fails, inl (refl, (end, e, h))))), rw e)

    -- Read to the certificate's end, nothing of the steps is refused.
    pub none-of-steps : end ≡ length certificate → Clear (step_conditions certificate p)
    none-of-steps h = (not-missing, (not-wrong, (not-fails, (λ g. remains g, tt))))
      where
        remains : (end : ℕ) × (p ≡ Ok end) × (end < length certificate) → ⊥
        remains g = let f = g.1 in let same : end ≡ g.0 = cc in omega (arith, g.2)

-- A reading that ends does so within the certificate, so where no byte remains it ends at its end.
module _ {image table : List ℕ} {goal start : ℕ} (clear : Clear (question_conditions image table goal start)) (certificate : List ℕ)
    (long : 8 ≤ length certificate) where
  pub inside-certificate : {end : ℕ} → reading image table certificate goal start ≡ Ok end → end ≤ length certificate
  unfolding reading
  inside-certificate {end} e =
      let image-clear = of_image image table (of-setup image table goal start clear) in
      ends-inside {room = width} {G = graph_of image} (readable image image-clear) (sizes image image-clear).stages
      (sided (side_of certificate) (tree_of image table goal)) (started start) certificate {at = 8} {end = end} long e

  pub whole : {end side : ℕ} → reading image table certificate goal start ≡ Ok end → length certificate ≤ end → side ≡ side_of certificate
      → StepsAnswer certificate (reading image table certificate goal start) (Ok side)
  whole e h f = (f, e ∙ ap Ok (le_antisymm (inside-certificate e) h))

-- What `read` answers, from the place after the header with the variables at the start, is the reading of the steps.
pub reading-is : (image table certificate : List ℕ) (goal start : ℕ) {side : ℕ} {p : Progress} → side ≡ side_of certificate
    → p ≡ read_entry image table certificate side goal (env_of (record { slots = start ∷ 0 ∷ 0 ∷ 0 ∷ [] })) 8
    → reading image table certificate goal start ≡ p
unfolding reading read_entry
reading-is image table certificate goal start side_is p-is =
    sym (p-is ∙ ap₂ (λ (s : ℕ) (c : Env). read_entry image table certificate s goal c 8) side_is (start-env start))

-- ---- the whole check

-- Whether every refusal of some conditions has a number below 22, or none has.
abbrev early : List Condition → Bool
early [] = true
early (c ∷ cs) = ltb (number c.refusal) 22 && early cs

abbrev late : List Condition → Bool
late [] = true
late (c ∷ cs) = not (ltb (number c.refusal) 22) && late cs

first-half : (a b : Bool) → T (a && b) → T a
first-half true b t = tt
first-half false b t = elim t [ ]

second-half : (a b : Bool) → T (a && b) → T b
second-half true b t = t
second-half false b t = elim t [ ]

is_true : (b : Bool) → T b → b ≡ true
is_true true t = refl
is_true false t = elim t [ ]

is_false : (b : Bool) → T (not b) → b ≡ false
is_false false t = refl
is_false true t = elim t [ ]

early-number : (cs : List Condition) (k : Refusal) → T (early cs) → Given cs k → ltb (number k) 22 ≡ true
early-number [] k t g = absurd g
early-number (c ∷ cs) k t (inl g) =
    ap (λ (j : Refusal). ltb (number j) 22) g.0 ∙ is_true (ltb (number c.refusal) 22) (first-half (ltb (number c.refusal) 22) (early cs) t)
early-number (c ∷ cs) k t (inr g) = early-number cs k (second-half (ltb (number c.refusal) 22) (early cs) t) g.1

late-number : (cs : List Condition) (k : Refusal) → T (late cs) → Given cs k → ltb (number k) 22 ≡ false
late-number [] k t g = absurd g
late-number (c ∷ cs) k t (inl g) =
    ap (λ (j : Refusal). ltb (number j) 22) g.0 ∙ is_false (ltb (number c.refusal) 22) (first-half (not (ltb (number c.refusal) 22)) (late cs) t)
late-number (c ∷ cs) k t (inr g) = late-number cs k (second-half (not (ltb (number c.refusal) 22)) (late cs) t) g.1

module _ (image table certificate : List ℕ) (goal start : ℕ) where
  abbrev p : Progress
  p = reading image table certificate goal start

  before-steps : (k : Refusal) → Given (outer_conditions image table certificate goal start) k → RefusedAt image table certificate goal start k 0
  before-steps k g = record {
    given = given-first (outer_conditions image table certificate goal start) (step_conditions certificate p) k g;
    place_is = sym (ap (λ (b : Bool). pick b 0 (broke certificate p)) (early-number (outer_conditions image table certificate goal start) k tt g));
  }

  -- A refusal of the question comes first,
  pub before-question : (k : Refusal) → Given (question_conditions image table goal start) k → RefusedAt image table certificate goal start k 0
  before-question k g = before-steps k (given-first (question_conditions image table goal start) (header_conditions certificate goal start) k g)

  module _ (clear : Clear (question_conditions image table goal start)) where
    before-header : (k : Refusal) → Given (header_conditions certificate goal start) k → RefusedAt image table certificate goal start k 0
    before-header k g =
        before-steps k (given-later (question_conditions image table goal start) (header_conditions certificate goal start) k clear g)

    -- then one of the header, each with place 0,
    pub no_header : (HeaderFits certificate → ⊥) → RefusedAt image table certificate goal start R.CertificateStart 0
    no_header n = before-header R.CertificateStart (inl (refl, n))

    module _ (fits : HeaderFits certificate) where
      pub other-question : (NamesQuestion certificate goal start → ⊥) → RefusedAt image table certificate goal start R.OtherQuestion 0
      other-question n = before-header R.OtherQuestion (inr (λ f. f fits, inl (refl, n)))

      -- then those of the steps, with the place where their reading broke; or nothing is refused.
      module _ (names : NamesQuestion certificate goal start) where
        before-clear : Clear (outer_conditions image table certificate goal start)
        before-clear =
            clear_both (question_conditions image table goal start) (header_conditions certificate goal start) clear
            (λ f. f fits, (λ f. f names, tt))

        pub after-header : (r : Result ℕ Fault) → StepsAnswer certificate p r → CheckedAnswer image table certificate goal start r
        after-header (Ok side) a = record { clear = before-clear; side_is = a.0; steps = a.1 }
        after-header (Err f) a = record {
          given = given-later (outer_conditions image table certificate goal start) (step_conditions certificate p) f.refusal before-clear a.0;
          place_is = a.1 ∙ sym (ap (λ (b : Bool). pick b 0 (broke certificate p)) (late-number (step_conditions certificate p) f.refusal tt a.0));
        }

-- What is said of the steps of a question that was read, by its own goal and start, is said by those that were given.
pub by-given : {image table : List ℕ} {goal start : ℕ} {q : Question} (certificate : List ℕ) (r : Result ℕ Fault) → QuestionRead image table goal start q
    → StepsAnswer certificate (reading image table certificate q.goal q.start) r → StepsAnswer certificate (reading image table certificate goal start) r
by-given {image} {table} certificate r read =
    subst₂ (λ (g s : ℕ). StepsAnswer certificate (reading image table certificate g s) r) (goal_is read) (start_is read)
