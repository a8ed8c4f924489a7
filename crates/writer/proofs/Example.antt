-- Document 01, the marked cases of writing, on its example graph and table, and on the definitions that the contract of `write` cites. One table; one
-- statement, that each case has its answer and leaves its buffer. Answers and buffers are computed.
use Prim.Native.Nat.{ℕ}
use mathlib.Core.Path.{◌≡◌, refl, subst}
use mathlib.Core.List.{List, [], ◌∷◌, ◌++◌, map}
use Rattle.logic.specs.Test.{iter, some_next, each_next, all_below, any_below}
use Rattle.sets.specs.Number.{stored}
use Rattle.format.specs.Image.{first_set}
use Rattle.format.specs.Table.{operands, trees}
use Rattle.format.specs.Example.{example_image, example_table}
use Rattle.format.specs.declared.Refusal.{Refusal}
use Rattle.format.specs.declared.Refusal.TheVariants as R
use Rattle.format.proofs.Decision.{outcome}
use Rattle.checker.specs.Header.{header_of}
use Rattle.std.specs.Prelude.{Result, Ok, Err}
use Rattle.writer.specs.Write.{certificate, write_conditions, written_as, WriteAnswer}
use Rattle.writer.specs.declared.answer.Written.{Written}
use Rattle.writer.proofs.Promise.{decided, Decision, answer_of, buffer_of, answer-of}

-- An answer, and what the buffer holds with it.
pub record Outcome : Type 0 where
  pub answer : Result Written Refusal
  pub buffer : List ℕ

-- A case: the goal and the start that are asked for, the buffer that is lent, and what comes of it.
pub record Case : Type 0 where
  pub goal : ℕ
  pub start : ℕ
  pub buffer : List ℕ
  pub outcome : Outcome

-- The contract of `write` holds of an outcome.
abbrev Writes : Case → Outcome → Type 0
Writes c o = WriteAnswer example_image example_table c.goal c.start c.buffer o.buffer o.answer

-- Of every case of a row.
abbrev pub Each : List Case → Type 0
Each [] = Unit {0}
Each (c ∷ cs) = Writes c c.outcome × Each cs

-- A buffer of 15 bytes, none of them zero.
abbrev lent : List ℕ
lent = 0xAA ∷ 0xAA ∷ 0xAA ∷ 0xAA ∷ 0xAA ∷ 0xAA ∷ 0xAA ∷ 0xAA ∷ 0xAA ∷ 0xAA ∷ 0xAA ∷ 0xAA ∷ 0xAA ∷ 0xAA ∷ 0xAA ∷ []

-- Case 1's certificate, byte by byte.
abbrev case_one : List ℕ
case_one = 0x5A ∷ 0x53 ∷ 0x43 ∷ 0x00 ∷ 0x01 ∷ 0x00 ∷ 0x02 ∷ 0x00 ∷ 0x10 ∷ 0x01 ∷ 0x00 ∷ 0x10 ∷ 0x02 ∷ 0x00 ∷ 0x0F ∷ 0x01 ∷ []

abbrev writes : ℕ → ℕ → List ℕ → ℕ → ℕ → List ℕ → Case
writes goal start buffer side size after =
    record { goal = goal; start = start; buffer = buffer; outcome = record { answer = Ok (written_as side size); buffer = after } }

abbrev refuses : ℕ → ℕ → List ℕ → Refusal → Case
refuses goal start buffer k =
    record { goal = goal; start = start; buffer = buffer; outcome = record { answer = Err k; buffer = buffer } }

unfoldable pub cases : List Case
cases =
    -- 1, and what is left of 20 bytes
    writes 2 0 (lent ++ (0xAA ∷ 0xAA ∷ 0xAA ∷ 0xAA ∷ 0xAA ∷ [])) 0 16 (case_one ++ (0xAA ∷ 0xAA ∷ 0xAA ∷ 0xAA ∷ []))
    -- 2 to 4
    ∷ writes 4 0 lent 1 12 (header_of 1 4 0 ++ (0x0A ∷ 0 ∷ 2 ∷ 0x0B ∷ 0xAA ∷ 0xAA ∷ 0xAA ∷ []))
    ∷ writes 4 2 lent 0 10 (header_of 0 4 2 ++ (8 ∷ 1 ∷ 0xAA ∷ 0xAA ∷ 0xAA ∷ 0xAA ∷ 0xAA ∷ []))
    ∷ writes 1 1 lent 0 9 (header_of 0 1 1 ++ (0 ∷ 0xAA ∷ 0xAA ∷ 0xAA ∷ 0xAA ∷ 0xAA ∷ 0xAA ∷ []))
    -- 5 to 7
    ∷ refuses 0 0 lent R.FreeVariable
    ∷ refuses 5 0 lent R.NoSuchGoal
    ∷ refuses 2 3 lent R.NoSuchStart
    -- 8: case 1 into 15 bytes, and into 16
    ∷ refuses 2 0 lent R.BufferTooShort
    ∷ writes 2 0 (lent ++ (0xAA ∷ [])) 0 16 case_one
    -- nothing is lent
    ∷ refuses 1 1 [] R.BufferTooShort
    ∷ []

-- What the conditions decide, and the outcome that the definitions give for it, computed.
abbrev decision : (c : Case) → Decision example_image example_table c.goal c.start c.buffer
decision c =
    outcome (write_conditions example_image example_table c.goal c.start c.buffer)
    (decided example_image example_table c.goal c.start c.buffer)

abbrev outcome_of : Case → Outcome
outcome_of c =
    let d = decision c in
    record {
      answer = answer_of example_image example_table c.goal c.start c.buffer d;
      buffer = buffer_of example_image example_table c.goal c.start c.buffer d;
    }

computed : map outcome_of cases ≡ map (λ c. c.outcome) cases
unfolding cases certificate stored first_set operands trees iter some_next each_next any_below all_below
computed = refl

-- So each case has its outcome.
each : (cs : List Case) → map outcome_of cs ≡ map (λ c. c.outcome) cs → Each cs
each [] e = tt
each (c ∷ cs) e =
    let head : outcome_of c ≡ c.outcome = cc in
    (subst (Writes c) head (answer-of example_image example_table c.goal c.start c.buffer (decision c)), each cs (cc))

pub marked : Each cases
marked = each cases computed
