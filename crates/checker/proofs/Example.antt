-- Document 01, the marked cases of checking, on its example graph and table, and on the definitions that the contract of `check` cites. One table;
-- one statement, that each case has its answer. The answers are computed.
use Prim.Native.Nat.{ℕ}
use mathlib.Core.Path.{◌≡◌, refl, subst}
use mathlib.Core.List.{List, [], ◌∷◌, ◌++◌, map}
use Rattle.sets.specs.Number.{stored}
use Rattle.format.specs.Image.{first_set}
use Rattle.format.specs.Table.{operands, trees}
use Rattle.format.specs.Example.{example_image, example_table}
use Rattle.format.specs.declared.Refusal.TheVariants as R
use Rattle.rules.specs.Head.{head_of}
use Rattle.checker.specs.Header.{header_of}
use Rattle.std.specs.Prelude.{Result, Ok, Err}
use Rattle.format.specs.declared.Refusal.{Refusal}
use Rattle.checker.specs.Check.{reading, CheckAnswer}
use Rattle.checker.proofs.AnswerLaws.{answer_of, answer-of}

-- A case: a certificate, the goal and the start that are asked for, and the answer.
pub record Case : Type 0 where
  pub certificate : List ℕ
  pub goal : ℕ
  pub start : ℕ
  pub answer : Result ℕ Refusal

-- A certificate that names what is asked for, from its side and its steps.
abbrev case : ℕ → ℕ → ℕ → List ℕ → Result ℕ Refusal → Case
case side goal start steps r = record { certificate = header_of side goal start ++ steps; goal = goal; start = start; answer = r }

-- The contract of `check` holds of the answer.
abbrev Checks : Case → Result ℕ Refusal → Type 0
Checks c r = CheckAnswer example_image example_table c.certificate c.goal c.start r

-- Of every case of a row.
abbrev pub Each : List Case → Type 0
Each [] = Unit {0}
Each (c ∷ cs) = Checks c c.answer × Each cs

-- The certificate of case 1, byte by byte.
abbrev case_one : List ℕ
case_one = 0x5A ∷ 0x53 ∷ 0x43 ∷ 0x00 ∷ 0x01 ∷ 0x00 ∷ 0x02 ∷ 0x00 ∷ 0x10 ∷ 0x01 ∷ 0x00 ∷ 0x10 ∷ 0x02 ∷ 0x00 ∷ 0x0F ∷ 0x01 ∷ []

unfoldable pub cases : List Case
cases =
    -- marked cases 1 to 4
    record { certificate = case_one; goal = 2; start = 0; answer = Ok 0 }
    ∷ case 1 4 0 (0x0A ∷ 0 ∷ 2 ∷ 0x0B ∷ []) (Ok 1)
    ∷ case 0 4 2 (8 ∷ 1 ∷ []) (Ok 0)
    ∷ case 0 1 1 (0 ∷ []) (Ok 0)
    -- 5 to 7: the question is refused before the certificate is looked at
    ∷ case 0 0 0 [] (Err R.FreeVariable)
    ∷ case 0 5 0 [] (Err R.NoSuchGoal)
    ∷ case 0 2 3 [] (Err R.NoSuchStart)
    -- 9: case 1 with the first choice 2, no successor of 0
    ∷ case 0 2 0 (0x10 ∷ 2 ∷ 0 ∷ 0x10 ∷ 2 ∷ 0 ∷ 0x0F ∷ 1 ∷ []) (Err R.ConditionFails)
    -- 10: case 1 one byte short, one byte more
    ∷ case 0 2 0 (0x10 ∷ 1 ∷ 0 ∷ 0x10 ∷ 2 ∷ 0 ∷ 0x0F ∷ []) (Err R.ByteMissing)
    ∷ case 0 2 0 (0x10 ∷ 1 ∷ 0 ∷ 0x10 ∷ 2 ∷ 0 ∷ 0x0F ∷ 1 ∷ 0 ∷ []) (Err R.BytesRemain)
    -- 11: case 2 with a merge alone, and nothing to merge with
    ∷ case 1 4 0 (0x0B ∷ []) (Err R.ConditionFails)
    -- 12: case 1 after a step from 0 to 0, so that 0 is on the walk
    ∷ case 0 2 0 (0x10 ∷ 0 ∷ 0 ∷ 0x10 ∷ 1 ∷ 0 ∷ 0x10 ∷ 2 ∷ 0 ∷ 0x0F ∷ 1 ∷ []) (Err R.ConditionFails)
    -- 13: case 2 for the other side
    ∷ case 0 4 0 (0x0A ∷ 0 ∷ 2 ∷ 0x0B ∷ []) (Err R.WrongCode)
    -- no certificate, a side 2, and case 1 for another start
    ∷ record { certificate = []; goal = 2; start = 0; answer = Err R.CertificateStart }
    ∷ case 2 2 0 (0x10 ∷ 1 ∷ 0 ∷ 0x10 ∷ 2 ∷ 0 ∷ 0x0F ∷ 1 ∷ []) (Err R.CertificateStart)
    ∷ record { certificate = case_one; goal = 2; start = 1; answer = Err R.OtherQuestion }
    ∷ []

-- The answer that the definitions give, computed.
abbrev answered : Case → Result ℕ Refusal
answered c = answer_of example_image example_table c.certificate c.goal c.start

computed : map answered cases ≡ map (λ c. c.answer) cases
unfolding cases reading head_of stored first_set operands trees
computed = refl

-- So each case has its answer.
each : (cs : List Case) → map answered cs ≡ map (λ c. c.answer) cs → Each cs
each [] e = tt
each (c ∷ cs) e =
    let head : answered c ≡ c.answer = cc in
    (subst (Checks c) head (answer-of example_image example_table c.certificate c.goal c.start), each cs (cc))

pub marked : Each cases
marked = each cases computed
