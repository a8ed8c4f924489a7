-- The three demands, stated. Each name below is a definition of some crate's specs/, in the words of document 01:
--
--     graph_of, tree_of, started      the graph of an image, the formula of a table's entry, variable 0 at the start            format, hand
--     Holds, sided                  the meaning over endless paths; a formula on side 0, its dual on side 1                   logic, hand
--     number, Given, Clear          a refusal's number; it is given: its condition holds and no earlier one does; none is     format
--     question_conditions            1 to 13 in their order, each with its condition                                           format
--     write_conditions, report_conditions   these and 14, of a lent buffer; 1 to 5 and 15                                       writer, deadends
--     check_refusals, ProgramGives   1 to 13, 20 to 25; 16, then as writing                                                    Services
--     head_refusals, step_refusals, Apart   of the former 1 to 21, and 22 to 25 by `Given22` to `Given25` of `rules`; no two hold   Services
--     Serves, Left                  some answer, one answer, refused exactly when given; an answer and the buffer after it    Services
--     VerdictAnswer, CheckAnswer, WriteAnswer, ReportAnswer, Answers, Replied
--                                   the contracts: what may be answered                              verdict, checker, writer, deadends, reply
--     coded, CodedAnswer            an answer of checking as a number; the contract of the function that the loader calls     checker
--     refusal_line, Front            a refusal's line; bytes at a buffer's front, the rest kept                                line
--     certificate_buffer, longest, Bytes   the program's two buffers; a row of bytes                                           line, checker
--     Derivation, certificate_of, Certifies   what derives a side by the seventeen rules; its header and steps; that bytes are these   checker
--     Ours                          every rule of a derivation is the one that "The certificate we write" names               written
--     side_for, certificate          what the writer's contract names, which Demand 2 pins down                                writer
--     Written, written_as            what writing answers: the side that the certificate proves, and how many bytes it takes   writer
--     Result, Option                 the library's: `Ok` of what is answered or `Err` of the refusal; `Some` of a length, or none
--
-- The services are functions that are proved to meet these contracts on every input, so that what is said of every answer that meets a contract is said of
-- what they answer.
use Rattle.std.specs.Prelude.{ℕ, ◌≤◌, ◌≡◌, List, ◌++◌, ◌↔◌, ◌⊎◌, length, drop, Option, Some, Result, Ok, Err}
use Rattle.logic.specs.Meaning.{Holds}
use Rattle.format.specs.Refusal.{number, Given, Clear}
use Rattle.format.specs.Image.{graph_of}
use Rattle.format.specs.Table.{tree_of}
use Rattle.format.specs.Question.{question_conditions}
use Rattle.format.specs.declared.Refusal.{Refusal}
use Rattle.hand.specs.Environment.{started}
use Rattle.hand.specs.Side.{sided}
use Rattle.verdict.specs.Verdict.{VerdictAnswer}
use Rattle.verdict.specs.declared.answer.Verdict.{Verdict}
use Rattle.checker.specs.Check.{CheckAnswer, coded, CodedAnswer}
use Rattle.checker.specs.Certificate.{Derivation, certificate_of, Certifies, Bytes}
use Rattle.written.specs.Chosen.{Ours}
use Rattle.writer.specs.Write.{certificate, side_for, write_conditions, WriteAnswer, written_as}
use Rattle.writer.specs.declared.answer.Written.{Written}
use Rattle.deadends.specs.DeadEnd.{report_conditions}
use Rattle.deadends.specs.Report.{ReportAnswer}
use Rattle.line.specs.Front.{Front}
use Rattle.line.specs.Line.{refusal_line, certificate_buffer, longest}
use Rattle.reply.specs.Reply.{Answers, Replied}
use Rattle.demands.specs.Services.{Serves, Left, Apart, head_refusals, step_refusals, check_refusals, ProgramGives}

-- Demand 1. Every image, table and certificate is read to a yes, a no or one numbered refusal, for every content and length; each refusal is given exactly
-- when document 01 says so, those of a certificate's steps in terms of derivations and bytes; and the lent certificate buffer then holds what it held before.
-- So too the dead-end report, and the program, whose input is a row of bytes and which prints its whole line. The loader is given the answer as a number.
pub record Demand1 (image table bytes : List ℕ) (goal start : ℕ) (buffer input : List ℕ) : Type 0 where
  pub numbered : (j k : Refusal) → number j ≡ number k → j ≡ k
  pub verdict : Serves (VerdictAnswer image table goal start) Err (Given (question_conditions image table goal start))
  pub check : Serves (CheckAnswer image table bytes goal start) Err (Given (check_refusals image table bytes goal start))
  pub apart : Clear (head_refusals image table bytes goal start) → Apart (step_refusals image table bytes goal start)
  pub loader : (n : ℕ) → CodedAnswer image table bytes goal start n → (r : Result ℕ Refusal) → (n ≡ coded r) ↔ CheckAnswer image table bytes goal start r
  pub write : Serves (λ (w : Left (Result Written Refusal)). WriteAnswer image table goal start buffer w.buffer w.answer)
      (λ k. record { answer = Err k; buffer = buffer }) (Given (write_conditions image table goal start buffer))
  pub report : Serves (ReportAnswer image) Err (Given (report_conditions image))
  pub program : Bytes input → Serves (λ (w : Left (List ℕ)). Answers input buffer w.buffer w.answer)
      (λ k. record { answer = refusal_line k; buffer = buffer }) (ProgramGives input buffer)
  pub prints : (after out printed : List ℕ) (r : Option ℕ) → Replied input buffer after out printed r → length buffer ≤ certificate_buffer
      → longest ≤ length out → (line : List ℕ) × Answers input buffer after line × (r ≡ Some (length line)) × Front line out printed

module _ (image table : List ℕ) (goal start : ℕ) where
  -- A question that is not refused: the stages and formulas are readable, the goal and start allowed.
  abbrev pub Asked : Type 0
  Asked = Clear (question_conditions image table goal start)

  -- The side holds of the graph: 0 the goal's formula, 1 its dual.
  abbrev pub SideHolds : ℕ → Type 0
  SideHolds side = Holds (graph_of image) (sided side (tree_of image table goal)) (started start)

  -- A derivation of the side that holds, of which every rule is the one that "The certificate we write" names.
  pub record OurProof : Type 0 where
    pub proof : Derivation image table goal start (side_for image table goal start)
    pub chosen : Ours (graph_of image) (sided (side_for image table goal start) (tree_of image table goal)) (started start) proof

  -- Demand 2. The verdict is yes exactly when the formula holds of the graph by the meaning over paths, and no exactly when its negation holds, which is its
  -- dual. The certificate written is, byte for byte, the one that document 01 describes: the header and the steps of our proof, of which there is one and
  -- one row of bytes only, for the side that holds; the buffer has it at its front and is what it was beyond.
  pub record Demand2 : Type 0 where
    pub yes : (r : Result Verdict Refusal) → VerdictAnswer image table goal start r → (r ≡ Ok Verdict.Yes) ↔ SideHolds 0
    pub no : (r : Result Verdict Refusal) → VerdictAnswer image table goal start r → (r ≡ Ok Verdict.No) ↔ SideHolds 1
    pub negation : SideHolds 1 ↔ (SideHolds 0 → ⊥)
    pub side : (side : ℕ) → side ≤ 1 → (side ≡ side_for image table goal start) ↔ SideHolds side
    pub some : OurProof
    pub bytes : (p : OurProof) → certificate image table goal start ≡ certificate_of image table goal start (side_for image table goal start) p.proof
    pub front : (before after : List ℕ) (side size : ℕ) → WriteAnswer image table goal start before after (Ok (written_as side size))
        → (side ≡ side_for image table goal start) × (size ≡ length (certificate image table goal start))
        × (after ≡ certificate image table goal start ++ drop size before)

  -- Demand 3. What the checker accepts, whoever wrote it, holds. Of the two sides exactly one has a proof by document 01's rules, of some length. The checker
  -- accepts exactly the certificates of such proofs, each of which is a row of bytes; and ours is among them.
  pub record Demand3 : Type 0 where
    pub sound : (bytes : List ℕ) (side : ℕ) → CheckAnswer image table bytes goal start (Ok side) → SideHolds side
    pub one : Derivation image table goal start 0 ⊎ Derivation image table goal start 1
    pub not_both : Derivation image table goal start 0 → Derivation image table goal start 1 → ⊥
    pub exactly : (bytes : List ℕ) (side : ℕ) → side ≤ 1
        → CheckAnswer image table bytes goal start (Ok side) ↔ Certifies image table goal start side bytes
    pub storable : (side : ℕ) → side ≤ 1 → (d : Derivation image table goal start side) → Bytes (certificate_of image table goal start side d)
    pub ours : CheckAnswer image table (certificate image table goal start) goal start (Ok (side_for image table goal start))
