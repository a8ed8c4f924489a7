-- The promise of writing, on bytes: which side and which bytes are written, that the checker accepts them, and when each refusal is given. A question is
-- not refused where `Clear (question_conditions ..)` holds. Answers are those that meet the contract of `write` (`WriteAnswer`), with the buffer before and
-- after, and those of the exported function (`CodedAnswer`).
--
--     side-holds, side-exactly, side-anywhere
--                                           the side that is written is the one that holds over paths, wherever variables 1 to 3 stand,
--     verdict-yes, verdict-no               and the verdict's
--     certificate-derived                   what is written is the certificate of a derivation of that side,
--     certificate-accepted, only-accepted   which the checker accepts, whatever its length,
--     written-accepted                      from the buffer's front, where it was written
--     written-front, written-rest, written-length, refused-kept
--                                           what the buffer holds afterwards
--     write-refused, given-14, written-exactly
--                                           when each refusal is given, and when none is
--     write-answers, write-once             an answer and a buffer, and one only
--     coded-injective, code-once            the coding for callers in C
--
-- Assumes nothing.
use Prim.Native.Nat.{ℕ, zero, suc, ◌≤◌, ◌<◌}
use native.Mathlib.Omega.{arith}
use mathlib.Core.Path.{◌≡◌, refl, sym, ap, ◌∙◌, subst}
use mathlib.Core.Bool.{Bool, true, false, not}
use mathlib.Core.List.{List, [], ◌∷◌, ◌++◌}
use mathlib.Core.Logic.Iff
use mathlib.Core.Logic.{◌↔◌, ◌⊎◌, inl, inr, ⊎_elim}
use lib.Dec.{T}
use lib.ListN.{length, take, drop, length-append, length-drop}
use lib.Seq.{take_at, drop_at}
use Rattle.model.specs.Formula.{Env}
use Rattle.logic.specs.Meaning.{Holds}
use Rattle.logic.specs.Test.{test}
use Rattle.logic.proofs.TestMeaning.{test-holds}
use Rattle.logic.proofs.Duality.{test-dual}
use Rattle.std.specs.Prelude.{Result, Ok, Err}
use Rattle.format.specs.Refusal.{Condition, Given, Clear}
use Rattle.format.specs.Image.{graph_of}
use Rattle.format.specs.Table.{tree_of}
use Rattle.format.specs.Question.{question_conditions}
use Rattle.format.specs.declared.Refusal.{Refusal}
use Rattle.format.specs.declared.Refusal.TheVariants as R
use Rattle.format.proofs.RefusalLaws.{given-one, given-later, clear_none, clear_first, clear_later}
use Rattle.format.proofs.CodedLaws.{coded_by-told}
use Rattle.format.proofs.Decision.{Decided, lt?, outcome, decided-both, question-decided}
use Rattle.hand.specs.Environment.{started}
use Rattle.hand.specs.Side.{sided}
use Rattle.verdict.specs.Verdict.{goal_test, VerdictAnswer}
use Rattle.verdict.specs.declared.answer.Verdict.{Verdict}
use Rattle.verdict.specs.declared.answer.Verdict.TheVariants as Ve
use Rattle.verdict.proofs.Promise.{yes-exactly, no-exactly}
use Rattle.written.proofs.Derivation.{written-derived}
use Rattle.checker.specs.Header.{header_of}
use Rattle.checker.specs.Check.{CheckAnswer}
use Rattle.checker.specs.Certificate.{Certifies}
use Rattle.checker.proofs.CertificateLaws.{asked-readable, asked-below, asked-stands, certifies-accepted}
use Rattle.checker.proofs.Promise.{check-once, accepted-anywhere}
use Rattle.writer.specs.Write.{side_by, side_for, certificate, room_conditions, write_conditions, WriteAnswer, written_as, coded, length_after, CodedAnswer}
use Rattle.writer.specs.declared.answer.Written.{Written}

-- ---- the side and the certificate

side-small : (b : Bool) → side_by b ≤ 1
side-small true = omega arith
side-small false = omega arith

module _ (image table : List ℕ) (goal start : ℕ) (clear : Clear (question_conditions image table goal start)) where
  -- The test of a side passes exactly when it is the side that is written.
  tested : (b : Bool) → goal_test image table goal start ≡ b → T (test (graph_of image) (sided (side_by b) (tree_of image table goal)) (started start))
  tested true e = subst T (sym e) tt
  tested false e = subst T (sym (test-dual (graph_of image) (tree_of image table goal) (started start) ∙ ap not e)) tt

  only-tested : (b : Bool) → goal_test image table goal start ≡ b → (side : ℕ) → side ≤ 1
      → T (test (graph_of image) (sided side (tree_of image table goal)) (started start)) → side ≡ side_by b
  only-tested true e zero h t = refl
  only-tested false e zero h t = absurd (subst T e t)
  only-tested true e (suc zero) h t = absurd (subst T (test-dual (graph_of image) (tree_of image table goal) (started start) ∙ ap not e) t)
  only-tested false e (suc zero) h t = refl
  only-tested b e (suc (suc side)) h t = absurd (omega arith)

  -- The side that is written holds over paths,
  pub side-holds : Holds (graph_of image) (sided (side_for image table goal start) (tree_of image table goal)) (started start)
  side-holds =
      (test-holds (asked-readable image table goal start clear) (sided (side_for image table goal start) (tree_of image table goal)) (started start)
      (asked-below image table goal start clear (side_for image table goal start)) (asked-stands image table goal start clear)).0
      (tested (goal_test image table goal start) refl)

  -- and of the two it is the one that does.
  pub side-exactly : (side : ℕ) → side ≤ 1
      → (side ≡ side_for image table goal start) ↔ Holds (graph_of image) (sided side (tree_of image table goal)) (started start)
  side-exactly side h = (
    λ e. subst (λ (k : ℕ). Holds (graph_of image) (sided k (tree_of image table goal)) (started start)) (sym e) side-holds,
    λ holds. only-tested (goal_test image table goal start) refl side h
        ((test-holds (asked-readable image table goal start clear) (sided side (tree_of image table goal)) (started start)
        (asked-below image table goal start clear side) (asked-stands image table goal start clear)).1 holds),
  )

  -- What is written is the certificate of a derivation of that side,
  pub certificate-derived : Certifies image table goal start (side_for image table goal start) (certificate image table goal start)
  unfolding certificate
  certificate-derived =
      let side = side_for image table goal start in
      let d = written-derived (asked-readable image table goal start clear) (sided side (tree_of image table goal)) (started start)
      (asked-below image table goal start clear side) (asked-stands image table goal start clear) (tested (goal_test image table goal start) refl) in
      (d.0, ap (λ (steps : List ℕ). header_of side goal start ++ steps) (sym d.1))

  -- so the checker accepts it,
  pub certificate-accepted : CheckAnswer image table (certificate image table goal start) goal start (Ok (side_for image table goal start))
  certificate-accepted =
      certifies-accepted image table goal start clear (side_for image table goal start) (side-small (goal_test image table goal start))
      (certificate image table goal start) certificate-derived

  -- and answers nothing else.
  pub only-accepted : (r : Result ℕ Refusal) → CheckAnswer image table (certificate image table goal start) goal start r
      → r ≡ Ok (side_for image table goal start)
  only-accepted r a =
      check-once image table (certificate image table goal start) goal start r (Ok (side_for image table goal start)) a certificate-accepted

  -- The side holds wherever variables 1 to 3 stand,
  pub side-anywhere : (e : Env) → e 0 ≡ start → Holds (graph_of image) (sided (side_for image table goal start) (tree_of image table goal)) e
  side-anywhere =
      accepted-anywhere image table (certificate image table goal start) goal start (side_for image table goal start) certificate-accepted

  -- and is the verdict's: 0 where that is yes, 1 where it is no.
  module _ (v : Result Verdict Refusal) (p : VerdictAnswer image table goal start v) where
    pub verdict-yes : (v ≡ Ok Ve.Yes) ↔ (0 ≡ side_for image table goal start)
    verdict-yes = Iff.trans (yes-exactly image table goal start clear v p) (Iff.symm (side-exactly 0 (omega arith)))

    pub verdict-no : (v ≡ Ok Ve.No) ↔ (1 ≡ side_for image table goal start)
    verdict-no = Iff.trans (no-exactly image table goal start clear v p) (Iff.symm (side-exactly 1 (omega arith)))

-- ---- the buffer

module _ (image table : List ℕ) (goal start : ℕ) (before : List ℕ) where
  question-clear : Clear (write_conditions image table goal start before) → Clear (question_conditions image table goal start)
  question-clear = clear_first (question_conditions image table goal start) (room_conditions image table goal start before)

  module _ (after : List ℕ) where
    abbrev Answers : Result Written Refusal → Type 0
    Answers r = WriteAnswer image table goal start before after r

    module _ {side size : ℕ} (w : Answers (Ok (written_as side size))) where
      -- The certificate fits.
      room : length (certificate image table goal start) ≤ length before
      room =
          let short = (clear_later (question_conditions image table goal start) (room_conditions image table goal start before) w.clear).0 in
          omega (arith, short)

      -- It stands at the buffer's front,
      pub written-front : take size after ≡ certificate image table goal start
      written-front = ap (take size) w.bytes ∙ take_at (certificate image table goal start) (drop size before) size (sym w.size_is)

      -- what comes after it is as it was,
      pub written-rest : drop size after ≡ drop size before
      written-rest = ap (drop size) w.bytes ∙ drop_at (certificate image table goal start) (drop size before) size (sym w.size_is)

      -- and the buffer is as long as it was.
      pub written-length : length after ≡ length before
      written-length =
          ap length w.bytes
          ∙ omega (arith, length-append (certificate image table goal start) (drop size before), length-drop size before, w.size_is, room)

      -- The checker accepts what stands at the front, for the side that is returned.
      pub written-accepted : CheckAnswer image table (take size after) goal start (Ok side)
      written-accepted =
          subst (λ (l : List ℕ). CheckAnswer image table l goal start (Ok side)) (sym written-front)
          (subst (λ (k : ℕ). CheckAnswer image table (certificate image table goal start) goal start (Ok k)) (sym w.side_is)
          (certificate-accepted image table goal start (question-clear w.clear)))

    -- A refusal changes nothing.
    pub refused-kept : {k : Refusal} → Answers (Err k) → after ≡ before
    refused-kept w = w.kept

-- ---- one answer

module _ (image table : List ℕ) (goal start : ℕ) (before : List ℕ) where
  never_both : {after left : List ℕ} {side size : ℕ} {k : Refusal} → WriteAnswer image table goal start before after (Ok (written_as side size))
      → WriteAnswer image table goal start before left (Err k) → ⊥
  never_both {k = k} w r = clear_none (write_conditions image table goal start before) k w.clear r.given

  -- Two answers to one question, with one buffer before, are one, and so are the buffers after.
  pub write-once : (a b : List ℕ) (r s : Result Written Refusal) → WriteAnswer image table goal start before a r → WriteAnswer image table goal start before b s
      → (r ≡ s) × (a ≡ b)
  write-once a b (Ok v) (Ok w) p q =
      let side : v.side ≡ w.side = p.side_is ∙ sym q.side_is in
      let same : v.length ≡ w.length = p.size_is ∙ sym q.size_is in (
        λ i. Ok (written_as (side i) (same i)),
        p.bytes ∙ ap (λ (n : ℕ). certificate image table goal start ++ drop n before) same ∙ sym q.bytes,
      )
  write-once a b (Ok v) (Err k) p q = absurd (never_both p q)
  write-once a b (Err j) (Ok w) p q = absurd (never_both q p)
  write-once a b (Err j) (Err k) p q =
      (ap Err (given-one (write_conditions image table goal start before) j k p.given q.given), p.kept ∙ sym q.kept)

  -- Every question and buffer, whatever the contents and lengths, has one: each condition is decided, and so one refusal is given or none.
  abbrev pub decided : Decided (write_conditions image table goal start before)
  decided =
      decided-both (question_conditions image table goal start) (room_conditions image table goal start before) (question-decided image table goal start)
      (lt? (length before) (length (certificate image table goal start)), tt)

  abbrev pub Decision : Type 0
  Decision = ((k : Refusal) × Given (write_conditions image table goal start before) k) ⊎ Clear (write_conditions image table goal start before)

  abbrev pub answer_of : Decision → Result Written Refusal
  answer_of (inl g) = Err g.0
  answer_of (inr c) = Ok (written_as (side_for image table goal start) (length (certificate image table goal start)))

  abbrev pub buffer_of : Decision → List ℕ
  buffer_of (inl g) = before
  buffer_of (inr c) = certificate image table goal start ++ drop (length (certificate image table goal start)) before

  pub answer-of : (d : Decision) → WriteAnswer image table goal start before (buffer_of d) (answer_of d)
  answer-of (inl g) = record { given = g.1; kept = refl }
  answer-of (inr c) = record { clear = c; side_is = refl; size_is = refl; bytes = refl }

  pub write-answers : (r : Result Written Refusal) × (after : List ℕ) × WriteAnswer image table goal start before after r
  write-answers =
      let d = outcome (write_conditions image table goal start before) decided in
      (answer_of d, buffer_of d, answer-of d)

  -- ---- when each is given

  module _ (after : List ℕ) (r : Result Written Refusal) (p : WriteAnswer image table goal start before after r) where
    -- A refusal comes exactly when document 01 gives it: its condition holds, and no earlier one does.
    pub write-refused : (k : Refusal) → (r ≡ Err k) ↔ Given (write_conditions image table goal start before) k
    write-refused k = (
      λ e. (subst (WriteAnswer image table goal start before after) e p).given,
      λ g. (write-once after before r (Err k) p (record { given = g; kept = refl })).0,
    )

    -- A certificate is written exactly when nothing is refused.
    pub written-exactly : ((side : ℕ) × (size : ℕ) × (r ≡ Ok (written_as side size))) ↔ Clear (write_conditions image table goal start before)
    written-exactly = (
      λ w. (subst (WriteAnswer image table goal start before after) w.2 p).clear,
      λ c. (
        side_for image table goal start,
        length (certificate image table goal start),
        (write-once after (buffer_of (inr c)) r (answer_of (inr c)) p (answer-of (inr c))).0,
      ),
    )

    -- 14 comes exactly when the certificate is longer than the buffer, over all natural lengths.
    pub given-14 : Clear (question_conditions image table goal start)
        → (r ≡ Err R.BufferTooShort) ↔ (length before < length (certificate image table goal start))
    given-14 clear = (
      λ e. ⊎_elim (λ g. g.1) (λ g. absurd g.1)
          (later (question_conditions image table goal start) clear ((write-refused R.BufferTooShort).0 e)),
      λ h. (write-refused R.BufferTooShort).1
          (given-later (question_conditions image table goal start) (room_conditions image table goal start before) R.BufferTooShort clear (inl (refl, h))),
    )
      where
        later : (cs : List Condition) → Clear cs → Given (cs ++ room_conditions image table goal start before) R.BufferTooShort
            → Given (room_conditions image table goal start before) R.BufferTooShort
        later [] c g = g
        later (d ∷ cs) c (inl g) = absurd (c.0 g.1)
        later (d ∷ cs) c (inr g) = later cs c.1 g.1

-- ---- the coding for callers in C

-- Two answers of one code that leave one length are one.
pub coded-injective : (lent : ℕ) (r s : Result Written Refusal) → coded r ≡ coded s → length_after lent r ≡ length_after lent s → r ≡ s
coded-injective lent r s e f = coded_by-told (λ w. w.side) r s own e
  where
    own : (a b : Written) → r ≡ Ok a → s ≡ Ok b → a.side ≡ b.side → a ≡ b
    own a b p q side =
        let size : a.length ≡ b.length = sym (ap (length_after lent) p) ∙ f ∙ ap (length_after lent) q in
        λ i. written_as (side i) (size i)

-- Two results that meet the contract of the exported function are one, with their buffers and lengths.
pub code-once : (image table : List ℕ) (goal start : ℕ) (before a b : List ℕ) (lent l k m n : ℕ) → CodedAnswer image table goal start before a lent l m
    → CodedAnswer image table goal start before b lent k n → (m ≡ n) × (a ≡ b) × (l ≡ k)
code-once image table goal start before a b lent l k m n p q =
    let same = write-once image table goal start before a b p.answer q.answer p.says q.says in (
      p.code ∙ ap coded same.0 ∙ sym q.code,
      same.1,
      p.length_is ∙ ap (length_after lent) same.0 ∙ sym q.length_is,
    )
