-- Document 01's example as the program answers it, on the definitions that the contract of `reply` cites. One table; one statement, that each input
-- has its line and leaves its certificate. Lines and certificates are computed.
--
--     marked                           the marked cases 1 to 8: goals and starts of the example, and certificate buffers
--     nothing-there, one_more          no bytes at all, and the input of case 1 with one byte more: 16
--     smallest                         six zeros are of the program's shape, with an empty image: 1
--
-- Assumes nothing.
use Prim.Native.Nat.{ℕ, ◌<◌}
use native.Mathlib.Omega.{arith}
use Prim.Native.String.{String}
use mathlib.Core.Path.{◌≡◌, refl, sym, subst}
use mathlib.Core.List.{List, [], ◌∷◌, ◌++◌, map}
use mathlib.Core.Logic.{◌⊎◌, inl, inr}
use lib.Dec.{lit≤}
use lib.ListN.{length, drop}
use Rattle.logic.specs.Test.{iter, some_next, each_next, all_below, any_below}
use Rattle.sets.specs.Number.{stored}
use Rattle.format.specs.Refusal.{Given, Clear}
use Rattle.format.specs.Image.{first_set}
use Rattle.format.specs.Table.{operands, trees}
use Rattle.format.specs.Question.{question_conditions}
use Rattle.format.specs.Example.{example_image, example_table}
use Rattle.format.specs.declared.Refusal.{Refusal}
use Rattle.format.specs.declared.Refusal.TheVariants as R
use Rattle.format.proofs.Decision.{outcome, decided-both, lt?, question-decided}
use Rattle.writer.specs.Write.{side_for, certificate}
use Rattle.line.specs.Framing.{framed, OfShape}
use Rattle.line.specs.Text.{ascii, decimal, decimal_within, hex}
use Rattle.line.specs.Line.{line_of, refusal_line, certificate_buffer}
use Rattle.line.proofs.FramingLaws.{too-long}
use Rattle.reply.specs.Reply.{Answers}
use Rattle.reply.proofs.AnswerLaws.{refusals_in}

-- A case: the goal and the start that are asked for, how many bytes the certificate buffer has, the line, and the certificate that the line shows,
-- none where it is a refusal's.
pub record Case : Type 0 where
  pub goal : ℕ
  pub start : ℕ
  pub room : ℕ
  pub line : List ℕ
  pub shows : List ℕ

-- The input is framed as document 01 says, and whatever the buffer held, it holds the certificate afterwards, the rest kept.
abbrev Prints : Case → Type 0
Prints c =
    (before : List ℕ) → length before ≡ c.room
    → Answers (framed example_image example_table c.goal c.start) before (c.shows ++ drop (length c.shows) before) c.line

-- Of every case of a row.
abbrev pub Each : List Case → Type 0
Each [] = Unit {0}
Each (c ∷ cs) = Prints c × Each cs

abbrev case : ℕ → ℕ → ℕ → String → List ℕ → Case
case goal start room text shows = record { goal = goal; start = start; room = room; line = ascii text; shows = shows }

abbrev case_one : List ℕ
case_one = 0x5A ∷ 0x53 ∷ 0x43 ∷ 0x00 ∷ 0x01 ∷ 0x00 ∷ 0x02 ∷ 0x00 ∷ 0x10 ∷ 0x01 ∷ 0x00 ∷ 0x10 ∷ 0x02 ∷ 0x00 ∷ 0x0F ∷ 0x01 ∷ []

unfoldable pub cases : List Case
cases =
    -- 1 to 4, with the program's certificate buffer
    case 2 0 certificate_buffer "yes 16 5A534300010002001001001002000F01\n" case_one
    ∷ case 4 0 certificate_buffer "no 12 5A534300010104000A00020B\n"
    (0x5A ∷ 0x53 ∷ 0x43 ∷ 0x00 ∷ 0x01 ∷ 0x01 ∷ 0x04 ∷ 0x00 ∷ 0x0A ∷ 0x00 ∷ 0x02 ∷ 0x0B ∷ [])
    ∷ case 4 2 certificate_buffer "yes 10 5A534300010004020801\n" (0x5A ∷ 0x53 ∷ 0x43 ∷ 0x00 ∷ 0x01 ∷ 0x00 ∷ 0x04 ∷ 0x02 ∷ 0x08 ∷ 0x01 ∷ [])
    ∷ case 1 1 certificate_buffer "yes 9 5A5343000100010100\n" (0x5A ∷ 0x53 ∷ 0x43 ∷ 0x00 ∷ 0x01 ∷ 0x00 ∷ 0x01 ∷ 0x01 ∷ 0x00 ∷ [])
    -- 5 to 7
    ∷ case 0 0 certificate_buffer "refused 13\n" []
    ∷ case 5 0 certificate_buffer "refused 11\n" []
    ∷ case 2 3 certificate_buffer "refused 12\n" []
    -- 8
    ∷ case 2 0 15 "refused 14\n" []
    ∷ case 2 0 16 "yes 16 5A534300010002001001001002000F01\n" case_one
    ∷ []

-- ---- computed

-- What writing into so many bytes gives.
module _ (goal start room : ℕ) where
  abbrev Given? : Type 0
  Given? =
      ((k : Refusal) × Given (refusals_in example_image example_table goal start room) k) ⊎ Clear (refusals_in example_image example_table goal start room)

  abbrev given : Given?
  given =
      outcome (refusals_in example_image example_table goal start room)
      (decided-both (question_conditions example_image example_table goal start)
      (record { refusal = R.BufferTooShort; holds = room < length (certificate example_image example_table goal start) } ∷ [])
      (question-decided example_image example_table goal start)
      (lt? room (length (certificate example_image example_table goal start)), tt))

  -- The case that comes of it.
  abbrev case_of : Given? → Case
  case_of (inl g) = record { goal = goal; start = start; room = room; line = refusal_line g.0; shows = [] }
  case_of (inr c) =
      let bytes = certificate example_image example_table goal start in
      record { goal = goal; start = start; room = room; line = line_of (side_for example_image example_table goal start) bytes; shows = bytes }

abbrev asked : Case → Case
asked c = case_of c.goal c.start c.room (given c.goal c.start c.room)

computed : map asked cases ≡ cases
unfolding cases certificate stored first_set operands trees iter some_next each_next any_below all_below decimal decimal_within hex
computed = refl

-- ---- so each case has its line

abbrev shape : (goal start : ℕ) → OfShape (framed example_image example_table goal start)
shape goal start =
    record { image = example_image; table = example_table; goal = goal; start = start; parts = record { is = refl; most = lit≤ tt } }

prints : (goal start room : ℕ) (g : Given? goal start room) → Prints (case_of goal start room g)
prints goal start room (inl g) before size =
    inr
    (inl
    (record {
      parts = shape goal start;
      refusal = g.0;
      given = subst (λ (n : ℕ). Given (refusals_in example_image example_table goal start n) g.0) (sym size) g.1;
      line_is = refl;
      kept = refl;
    }))
prints goal start room (inr c) before size =
    inr
    (inr
    (record {
      parts = shape goal start;
      clear = subst (λ (n : ℕ). Clear (refusals_in example_image example_table goal start n)) (sym size) c;
      line_is = refl;
      front = refl;
    }))

each : (f : Case → Case) → ((c : Case) → Prints (f c)) → (cs : List Case) → map f cs ≡ cs → Each cs
each f p [] e = tt
each f p (c ∷ cs) e =
    let head : f c ≡ c = cc in
    (subst Prints head (p c), each f p cs (cc))

pub marked : Each cases
marked = each asked (λ c. prints c.goal c.start c.room (given c.goal c.start c.room)) cases computed

-- No bytes at all, and one byte more than case 1 has: 16.
pub nothing-there : (before : List ℕ) → Answers [] before before (ascii "refused 16\n")
unfolding decimal decimal_within
nothing-there before =
    inl (record { shapeless = λ o. cc (o.parts.is); line_is = refl; kept = refl })

pub one_more : (before : List ℕ) → Answers (framed example_image example_table 2 0 ++ (0 ∷ [])) before before (ascii "refused 16\n")
unfolding decimal decimal_within
one_more before =
    inl
    (record {
      shapeless = too-long example_image example_table 2 0 0 [];
      line_is = refl;
      kept = refl;
    })

-- Six zeros: of the right shape, and the image has no bytes.
pub smallest : (before : List ℕ) → Answers (framed [] [] 0 0) before before (ascii "refused 1\n")
unfolding decimal decimal_within
smallest before =
    inr
    (inl
    (record {
      parts = record { image = []; table = []; goal = 0; start = 0; parts = record { is = refl; most = lit≤ tt } };
      refusal = R.ImageStart;
      given = inl (refl, λ b. omega (arith, b.long));
      line_is = refl;
      kept = refl;
    }))
