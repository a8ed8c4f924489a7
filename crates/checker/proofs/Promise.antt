-- The promise of checking, on bytes: what accepted certificates prove, which certificates are accepted, and when each refusal is given. A question
-- is not refused where `Clear (question_conditions ..)` holds. Answers are those that meet the contracts of `check` (`CheckAnswer`), of the check
-- that also gives the place of the fault (`CheckedAnswer`), and of the exported function (`CodedAnswer`).
--
--     accepted-holds, accepted-anywhere     an accepted side holds over paths, whoever wrote the certificate
--     accepted-exactly, derivation-once     accepted are exactly the certificates of derivations, each that of one
--     one_side, not-both-sides              of the two sides exactly one has a derivation,
--     some-accepted, accepted-one           so bytes are accepted for one side, and never for both
--     check-refused, given-22, given-23, given-24, given-25
--                                           when each refusal is given
--     check-answers, check-once, checked-once, code-once, coded-injective
--                                           an answer, and one only, of one number
--
-- Assumes nothing.
use Prim.Native.Nat.{ℕ, zero, suc, ◌≤◌}
use native.Mathlib.Omega.{arith}
use mathlib.Core.Path.{◌≡◌, refl, sym, ap, ◌∙◌, subst}
use mathlib.Core.List.{List}
use mathlib.Core.Logic.{◌↔◌, ◌⊎◌, ⊎_elim}
use lib.Dec.{ltb, lit≤}
use lib.ListN.{drop}
use Rattle.std.specs.Prelude.{Result, Ok, Err}
use Rattle.model.specs.Formula.{Formula, Env, pick, Free}
use Rattle.logic.specs.Meaning.{Holds}
use Rattle.logic.proofs.Sound.{sound}
use Rattle.logic.proofs.Duality.{dual-free}
use Rattle.logic.proofs.ExactlyOne as exactly
use Rattle.logic.proofs.Variables.{holds-start}
use Rattle.format.specs.Refusal.{number, Given, Clear}
use Rattle.format.specs.Image.{graph_of}
use Rattle.format.specs.Table.{tree_of}
use Rattle.format.specs.Question.{question_conditions}
use Rattle.format.specs.declared.Refusal.{Refusal}
use Rattle.format.specs.declared.Refusal.TheVariants as R
use Rattle.format.proofs.RefusalLaws.{given-one, clear_none, clear_both}
use Rattle.format.proofs.CodedLaws.{coded_by-told}
use Rattle.format.proofs.ReadableLaws.{only_zero}
use Rattle.rules.specs.Shape.{Entry}
use Rattle.rules.specs.Refusals.{Given22, Given23, Given24, Given25}
use Rattle.rules.proofs.Accepted.{steps-differ}
use Rattle.hand.specs.Side.{sided}
use Rattle.hand.specs.Environment.{started}
use Rattle.checker.specs.Check.{reading, outer_conditions, step_conditions, check_conditions, broke, fault_at, Accepted, CheckAnswer, CheckedAnswer}
use Rattle.checker.specs.declared.answer.Fault.{Fault}
use Rattle.checker.specs.Check.{coded, CodedAnswer}
use Rattle.checker.specs.Certificate.{Derivation, certificate_of, Certifies, Bytes}
use Rattle.checker.proofs.CheckLaws.{none-of-steps}
use Rattle.checker.proofs.CertificateLaws.{question-clear, headers-clear, header-does-fit, asked-readable, asked-small, asked-below, asked-stands}
use Rattle.checker.proofs.CertificateLaws.{accepted-certifies, every-certificate, certifies-accepted, certificate-bytes}
use Rattle.checker.proofs.AnswerLaws.{proved, told_here, told-answer, bare, bare-answer, unplaced}
use Rattle.checker.proofs.AnswerLaws.{placed-22, placed-23, placed-24, placed-25, answer_of, answer-of}

-- On either side the same variables are free.
sided-free : (side : ℕ) (f : Formula) → ((v : ℕ) → Free v f → v ≡ 0) → (v : ℕ) → Free v (sided side f) → v ≡ 0
sided-free zero f only v h = only v h
sided-free (suc k) f only v h = only v ((dual-free v f).0 h)

-- ---- one answer

module _ (image table certificate : List ℕ) (goal start : ℕ) where
  -- Where a certificate is accepted, nothing is refused.
  accepted-clear : (side : ℕ) → Accepted image table certificate goal start side → Clear (check_conditions image table certificate goal start)
  accepted-clear side a =
      clear_both (outer_conditions image table certificate goal start) (step_conditions certificate (reading image table certificate goal start)) a.clear
      (none-of-steps certificate a.steps refl)

  never_both : (side : ℕ) (k : Refusal) → Accepted image table certificate goal start side → Given (check_conditions image table certificate goal start) k → ⊥
  never_both side k a g = clear_none (check_conditions image table certificate goal start) k (accepted-clear side a) g

  -- Two answers to one certificate are one.
  pub check-once : (r s : Result ℕ Refusal) → CheckAnswer image table certificate goal start r → CheckAnswer image table certificate goal start s → r ≡ s
  check-once (Ok a) (Ok b) p q = ap Ok (p.side_is ∙ sym q.side_is)
  check-once (Ok a) (Err k) p q = absurd (never_both a k p q)
  check-once (Err j) (Ok b) p q = absurd (never_both b j q p)
  check-once (Err j) (Err k) p q = ap Err (given-one (check_conditions image table certificate goal start) j k p q)

  -- Two answers with a place too.
  pub checked-once : (r s : Result ℕ Fault) → CheckedAnswer image table certificate goal start r → CheckedAnswer image table certificate goal start s → r ≡ s
  checked-once (Ok a) (Ok b) p q = ap Ok (p.side_is ∙ sym q.side_is)
  checked-once (Ok a) (Err f) p q = absurd (never_both a f.refusal p q.given)
  checked-once (Err f) (Ok b) p q = absurd (never_both b f.refusal q p.given)
  checked-once (Err f) (Err g) p q =
      let same = given-one (check_conditions image table certificate goal start) f.refusal g.refusal p.given q.given in
      λ i. Err (fault_at (same i) (placed same i))
    where
      placed : f.refusal ≡ g.refusal → f.place ≡ g.place
      placed same =
          p.place_is
          ∙ ap (λ (i : Refusal). pick (ltb (number i) 22) 0 (broke certificate (reading image table certificate goal start))) same
          ∙ sym q.place_is

  -- Every certificate has an answer, whatever the contents and lengths.
  pub check-answers : (r : Result ℕ Refusal) × CheckAnswer image table certificate goal start r
  check-answers = (answer_of image table certificate goal start, answer-of image table certificate goal start)

  -- An answer is the one of which the contract holds.
  is-exactly : (r s : Result ℕ Refusal) → CheckAnswer image table certificate goal start r → (r ≡ s) ↔ CheckAnswer image table certificate goal start s
  is-exactly r s p = (λ e. subst (CheckAnswer image table certificate goal start) e p, λ q. check-once r s p q)

  -- A refusal comes exactly when document 01 gives it: its condition holds, and no earlier one does.
  pub check-refused : (r : Result ℕ Refusal) (k : Refusal) → CheckAnswer image table certificate goal start r
      → (r ≡ Err k) ↔ Given (check_conditions image table certificate goal start) k
  check-refused r k p = is-exactly r (Err k) p

  -- ---- soundness

  -- An accepted side holds over paths, whoever wrote the certificate,
  pub accepted-holds : (side : ℕ) → CheckAnswer image table certificate goal start (Ok side)
      → Holds (graph_of image) (sided side (tree_of image table goal)) (started start)
  accepted-holds side a =
      let clear = question-clear image table certificate goal start a.clear in
      sound (asked-readable image table goal start clear) (sided side (tree_of image table goal)) (started start)
      (asked-below image table goal start clear side) (asked-stands image table goal start clear)
      (accepted-certifies image table certificate goal start side a).0

  -- wherever the variables 1 to 3 stand.
  pub accepted-anywhere : (side : ℕ) → CheckAnswer image table certificate goal start (Ok side)
      → (e : Env) → e 0 ≡ start → Holds (graph_of image) (sided side (tree_of image table goal)) e
  accepted-anywhere side a e at-start =
      (holds-start (graph_of image) (sided side (tree_of image table goal))
      (sided-free side (tree_of image table goal) (only_zero image table goal start (question-clear image table certificate goal start a.clear)))
      (started start) e (sym at-start)).0 (accepted-holds side a)

  -- ---- acceptance

  -- Where the question is not refused, a side is accepted exactly when the certificate is that of a derivation of it, however long.
  pub accepted-exactly : Clear (question_conditions image table goal start) → (r : Result ℕ Refusal) → CheckAnswer image table certificate goal start r
      → (side : ℕ) → side ≤ 1 → (r ≡ Ok side) ↔ Certifies image table goal start side certificate
  accepted-exactly clear r p side h = (
    λ e. accepted-certifies image table certificate goal start side ((is-exactly r (Ok side) p).0 e),
    λ c. (is-exactly r (Ok side) p).1 (certifies-accepted image table goal start clear side h certificate c),
  )

  -- ---- the refusals of the steps, in the words of document 01

  -- Where neither the question nor the header is refused, 22 to 25 are given exactly when the crate `rules` says of the goal on the certificate's side.
  module _ (clear : Clear (outer_conditions image table certificate goal start)) (r : Result ℕ Refusal)
      (p : CheckAnswer image table certificate goal start r) where
    abbrev goal_here : Entry
    goal_here = proved image table certificate goal start

    abbrev told_of : Result ℕ Fault
    told_of = told_here image table certificate goal start clear

    by_place : {At : ℕ → Type 0} (k : Refusal) → ((place : ℕ) → (told_of ≡ Err (fault_at k place)) ↔ At place) → (r ≡ Err k) ↔ ((place : ℕ) × At place)
    by_place k each = (
      λ e. let g = (unplaced told_of k).0 (sym is ∙ e) in (g.0, (each g.0).0 g.1),
      λ g. is ∙ (unplaced told_of k).1 (g.0, (each g.0).1 g.1),
    )
      where
        is : r ≡ bare told_of
        is = check-once r (bare told_of) p (bare-answer image table certificate goal start told_of (told-answer image table certificate goal start clear))

    -- 22: a code or chosen byte is missing.
    pub given-22 : (r ≡ Err R.ByteMissing) ↔ ((place : ℕ) × Given22 (graph_of image) certificate goal_here 8 place)
    given-22 = by_place R.ByteMissing (placed-22 image table certificate goal start clear)

    -- 23: a code is not one for the formula in hand.
    pub given-23 : (r ≡ Err R.WrongCode) ↔ ((place : ℕ) × Given23 (graph_of image) certificate goal_here 8 place)
    given-23 = by_place R.WrongCode (placed-23 image table certificate goal start clear)

    -- 24: a rule's own condition fails.
    pub given-24 : (r ≡ Err R.ConditionFails) ↔ ((place : ℕ) × Given24 (graph_of image) certificate goal_here 8 place)
    given-24 = by_place R.ConditionFails (placed-24 image table certificate goal start clear)

    -- 25: bytes remain after the last premise.
    pub given-25 : (r ≡ Err R.BytesRemain) ↔ ((place : ℕ) × Given25 (graph_of image) certificate goal_here 8 place)
    given-25 = by_place R.BytesRemain (placed-25 image table certificate goal start clear)

-- ---- exactly one side

module _ (image table : List ℕ) (goal start : ℕ) (clear : Clear (question_conditions image table goal start)) where
  -- One of the two sides of a question that is not refused has a derivation,
  pub one_side : Derivation image table goal start 0 ⊎ Derivation image table goal start 1
  one_side =
      exactly.one_side (asked-readable image table goal start clear) (tree_of image table goal) (started start)
      (asked-below image table goal start clear 0) (asked-stands image table goal start clear)

  -- and not both have.
  pub not-both-sides : Derivation image table goal start 0 → Derivation image table goal start 1 → ⊥
  not-both-sides =
      exactly.not_both (asked-readable image table goal start clear) (tree_of image table goal) (started start)
      (asked-below image table goal start clear 0) (asked-stands image table goal start clear)

  -- So there are bytes that are accepted,
  pub some-accepted : (side : ℕ) × (certificate : List ℕ) × Bytes certificate × CheckAnswer image table certificate goal start (Ok side)
  some-accepted = ⊎_elim (accepted 0 (lit≤ tt)) (accepted 1 (lit≤ tt)) one_side
    where
      accepted : (side : ℕ) → side ≤ 1 → Derivation image table goal start side
          → (side : ℕ) × (certificate : List ℕ) × Bytes certificate × CheckAnswer image table certificate goal start (Ok side)
      accepted side h d = (
        side,
        certificate_of image table goal start side d,
        certificate-bytes image table goal start clear side h d,
        every-certificate image table goal start clear side h d,
      )

  -- and each derivation has a certificate of its own.
  pub derivation-once : (side : ℕ) (d d' : Derivation image table goal start side)
      → certificate_of image table goal start side d ≡ certificate_of image table goal start side d' → d ≡ d'
  derivation-once side d d' e =
      steps-differ (asked-readable image table goal start clear) (asked-small image table goal start clear) (sided side (tree_of image table goal))
      (started start) d d' (ap (drop 8) e)

-- Of all certificates for one question, those that are accepted prove one side: there is never one for the goal and one for its dual.
pub accepted-one : (image table c c' : List ℕ) (goal start side side' : ℕ) → CheckAnswer image table c goal start (Ok side)
    → CheckAnswer image table c' goal start (Ok side') → side ≡ side'
accepted-one image table c c' goal start side side' a b =
    go side side' (small a) (small b) (accepted-certifies image table c goal start side a).0 (accepted-certifies image table c' goal start side' b).0
  where
    clear : Clear (question_conditions image table goal start)
    clear = question-clear image table c goal start a.clear

    small : {l : List ℕ} {s : ℕ} → Accepted image table l goal start s → s ≤ 1
    small {l} a = subst (λ (s : ℕ). s ≤ 1) (sym a.side_is) (header-does-fit l goal start (headers-clear image table l goal start a.clear)).side

    go : (s t : ℕ) → s ≤ 1 → t ≤ 1 → Derivation image table goal start s → Derivation image table goal start t → s ≡ t
    go zero zero h k u v = refl
    go zero (suc zero) h k u v = absurd (not-both-sides image table goal start clear u v)
    go zero (suc (suc t)) h k u v = absurd (omega arith)
    go (suc zero) zero h k u v = absurd (not-both-sides image table goal start clear v u)
    go (suc zero) (suc zero) h k u v = refl
    go (suc zero) (suc (suc t)) h k u v = absurd (omega arith)
    go (suc (suc s)) t h k u v = absurd (omega arith)

-- ---- the coding for callers in C

-- Two answers of one code are one.
pub coded-injective : (r s : Result ℕ Refusal) → coded r ≡ coded s → r ≡ s
coded-injective r s = coded_by-told (λ side. side) r s (λ a b p q e. e)

-- Two numbers that meet the contract of the exported function are one.
pub code-once : (image table certificate : List ℕ) (goal start m n : ℕ) → CodedAnswer image table certificate goal start m
    → CodedAnswer image table certificate goal start n → m ≡ n
code-once image table certificate goal start m n p q =
    p.code ∙ ap coded (check-once image table certificate goal start p.answer q.answer p.says q.says) ∙ sym q.code
