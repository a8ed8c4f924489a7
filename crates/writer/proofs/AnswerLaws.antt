-- From the two runs over a certificate to the answer.
--
--     whole-certificate          what a run over the side that holds goes through is the certificate
--     question-sets, question-most, question-prepared, question-holding
--                                what a run asks: the setup, and that the side holds
--     no_room, with-room         the buffer is too short; the certificate was written
--     question-refused, question-answered
--                                a refusal of the question's reader; a question is answered with its own goal and start
use Prim.Native.Nat.{ℕ, ◌+◌, ◌≤◌, ◌<◌}
use native.Mathlib.Omega.{arith}
use native.Mathlib.Nat.{zero-add}
use mathlib.Core.Path.{◌≡◌, refl, sym, ap, ap₂, ◌∙◌, subst, subst₂}
use mathlib.Core.Bool.{Bool, true, false, not}
use mathlib.Core.List.{List, ◌++◌}
use mathlib.Core.Logic.{inl}
use lib.Dec.{T}
use lib.ListN.{length, drop}
use lib.Seq.{sets-eq}
use Rattle.std.specs.Prelude.{Result, Ok, Err}
use Rattle.sets.specs.declared.Set.{Set}
use Rattle.hand.specs.declared.setup.Entry.{Entry}
use Rattle.model.specs.Formula.{Env}
use Rattle.logic.specs.Test.{test}
use Rattle.format.specs.Refusal.{Given, Clear}
use Rattle.logic.proofs.Duality.{test-dual}
use Rattle.sets.specs.Number.{width}
use Rattle.sets.specs.Row.{held}
use Rattle.sets.proofs.LawsRow.{room-enough}
use Rattle.modal.specs.Row.{Row}
use Rattle.format.specs.Image.{stages_of, graph_of}
use Rattle.format.specs.Table.{entries_of, record_at, tree_of}
use Rattle.format.specs.Question.{setup_conditions, question_conditions}
use Rattle.format.specs.Answers.{QuestionRead}
use Rattle.format.specs.declared.Refusal.{Refusal}
use Rattle.format.specs.declared.Refusal.TheVariants as R
use Rattle.format.specs.declared.question.Question.{Question}
use Rattle.format.proofs.RefusalLaws.{given-first, given-later, clear_both}
use Rattle.format.proofs.ReadableLaws
use Rattle.format.proofs.ReadableLaws.{of-setup, of_image, of-table, sizes}
use Rattle.hand.specs.Environment.{env_of}
use Rattle.hand.specs.Hand.{SuccessorsOf}
use Rattle.hand.specs.Setup.{Decoded, Prepared, most_entries, entry_at, entry_of}
use Rattle.hand.specs.declared.env.Env.{Env as Slots}
use Rattle.hand.proofs.HandLaws.{successors-in}
use Rattle.hand.proofs.EnvironmentLaws.{start-env}
use Rattle.verdict.specs.Evaluation.{truth_of}
use Rattle.verdict.proofs.AnswerLaws.{start_env, question-ready, question-row, own-goal, own-start}
use Rattle.guide.specs.Sides.{truth_on}
use Rattle.pen.specs.Wrote.{Wrote}
use Rattle.pen.specs.Steps.{entry_steps, whole_bytes, Holding}
use Rattle.writer.specs.Write.{side_by, side_for, certificate_on, certificate, room_conditions, written_as, WriteAnswer}
use Rattle.writer.specs.declared.answer.Written.{Written}

module _ (image table : List ℕ) (goal start : ℕ) where
  -- What a run goes through, where the variables stand as the code has them at the start.
  abbrev pub run_over : ℕ → List ℕ
  run_over side = whole_bytes image table side goal start (env_of (start_env start))

  -- The side that holds, by the test where the variables stand so.
  side-for : {side : ℕ} → side ≡ side_by (truth_of image table goal (start_env start)) → side ≡ side_for image table goal start
  side-for e = e ∙ ap (λ (c : Env). side_by (test (graph_of image) (tree_of image table goal) c)) (start-env start)

  -- Over that side a run goes through the certificate.
  whole-certificate : {side : ℕ} → side ≡ side_by (truth_of image table goal (start_env start)) → run_over side ≡ certificate image table goal start
  unfolding entry_steps certificate
  whole-certificate {side} e =
      ap (whole_bytes image table side goal start) (start-env start)
      ∙ ap (certificate_on image table goal start) (side-for e)

  -- The first run counts, and leaves the buffer as it is.
  module _ (clear : Clear (question_conditions image table goal start)) {side : ℕ} (side_is : side ≡ side_by (truth_of image table goal (start_env start)))
      {before left : List ℕ} {counted : ℕ} (count : Wrote false (run_over side) 0 before left counted) where
    long : length (run_over side) ≡ length (certificate image table goal start)
    long = ap length (whole-certificate side_is)

    -- Where it comes past the buffer's end the certificate is longer than the buffer,
    pub no_room : length left < counted → WriteAnswer image table goal start before left (Err R.BufferTooShort)
    no_room h = record {
      given =
          given-later (question_conditions image table goal start) (room_conditions image table goal start before) R.BufferTooShort clear
          (inl (refl, omega (arith, count.goes, long, ap length count.leaves)));
      kept = count.leaves;
    }

    -- and else the second run writes it.
    pub with-room : counted ≤ length left → {after : List ℕ} {end : ℕ} → Wrote true (run_over side) 0 left after end
        → WriteAnswer image table goal start before after (Ok (written_as side counted))
    with-room h {after} wrote = record {
      clear =
          clear_both (question_conditions image table goal start) (room_conditions image table goal start before) clear
          (λ g. omega (arith, count.goes, long, ap length count.leaves), tt);
      side_is = side-for side_is;
      size_is = size ∙ long;
      bytes = wrote.leaves ∙ sets-eq (run_over side) left 0 fits
          ∙ ap₂ (λ (l m : List ℕ). l ++ m) (whole-certificate side_is) (ap₂ drop (zero-add (length (run_over side)) ∙ sym size) count.leaves);
    }
      where
        size : counted ≡ length (run_over side)
        size = omega (arith, count.goes, ap length count.leaves)

        fits : 0 + length (run_over side) ≤ length left
        fits = omega (arith, size)

-- ---- what a run asks

-- The side that holds does so.
side-holds : (image table : List ℕ) (e : ℕ) (env : Slots) (b : Bool) → truth_of image table e env ≡ b → T (truth_on image table (side_by b) e env)
side-holds image table e env true t = subst T (sym t) tt
side-holds image table e env false t = subst T (sym (test-dual (graph_of image) (tree_of image table e) (env_of env) ∙ ap not t)) tt

-- A question that was read, its row decoded and its entries prepared.
module _ {image table : List ℕ} {q : Question} (read : QuestionRead image table q.goal q.start q) where
  of : Clear (setup_conditions image table)
  of = of-setup image table q.goal q.start read.clear

  few : stages_of image ≤ width
  few = (sizes image (of_image image table of)).stages

  n-is : q.shape.image.stages ≡ stages_of image
  n-is = ap (λ (k : Question). k.shape.image.stages) read.is

  m-is : q.shape.entries ≡ entries_of table
  m-is = ap (λ (k : Question). k.shape.entries) read.is

  -- Its sets are the successors,
  pub question-sets : {next before : List Set} → width ≤ length before → Decoded image q.shape.image.stages before next
      → (s : ℕ) → s < stages_of image → SuccessorsOf image s (held next s)
  question-sets {before = before} long d s h = successors-in image s h (d.sets s (omega (arith, n-is)) (room-enough before s (omega (arith, few))))

  -- there is room for its entries,
  pub question-most : entries_of table ≤ most_entries
  question-most = (ReadableLaws.entries image table (of-table image table of)).most

  -- which are prepared,
  pub question-prepared : {entries blank : List Entry} {side : ℕ} → length blank ≡ most_entries → Prepared image table q.shape.entries side blank entries
      → (i : ℕ) → i < entries_of table → entry_at entries i ≡ entry_of image side (record_at table i)
  question-prepared wide p i h = p.entries i (omega (arith, m-is)) (omega (arith, question-most)) wide

  -- and its goal holds on the side.
  pub question-holding : {next before : List Set} {side : ℕ} → width ≤ length before → Decoded image q.shape.image.stages before next
      → side ≡ side_by (truth_of image table q.goal (start_env q.start)) → Holding image table side q.goal (start_env q.start)
  question-holding {next} {side = side} long d side_is =
      let row = subst (λ (k : ℕ). Row next k (graph_of image)) n-is (question-row read long d) in
      let ready = question-ready read.clear row in
      record {
        entry = ready.entry;
        stand = ready.stand;
        holds =
            subst (λ (k : ℕ). T (truth_on image table k q.goal (start_env q.start))) (sym side_is)
            (side-holds image table q.goal (start_env q.start) _ refl);
      }

-- ---- the question

-- A refusal of the question comes before 14, and changes nothing.
pub question-refused : (image table : List ℕ) (goal start : ℕ) (buffer : List ℕ) {k : Refusal} → Given (question_conditions image table goal start) k
    → WriteAnswer image table goal start buffer buffer (Err k)
question-refused image table goal start buffer {k} g = record {
  given = given-first (question_conditions image table goal start) (room_conditions image table goal start buffer) k g;
  kept = refl;
}

-- A question is answered with its own goal and start.
pub question-answered : {image table : List ℕ} {goal start : ℕ} {q : Question} → QuestionRead image table goal start q → (before after : List ℕ)
    (r : Result Written Refusal) → WriteAnswer image table q.goal q.start before after r → WriteAnswer image table goal start before after r
question-answered {image} {table} {goal} {start} {q} read before after r w =
    subst₂ (λ (g s : ℕ). WriteAnswer image table g s before after r) (own-goal read) (own-start read) w
