-- The hypotheses of the demands can be met, by document 01's example.
--
--     asked-example, asked-other, demands-apply     questions that are not refused, and Demands 2 and 3 of them
--     both-sides                                    one has a proof of the goal, the other one of its dual, which the checker accepts
--     answers-there                                 yes, no, a certificate that is written, and a number for the loader
--     input-bytes, replied, sizes-fit               an input of the program, and an answer of it, with buffers of the program's sizes
use Prim.Native.Nat.{ℕ, ◌≤◌}
use native.Mathlib.Omega.{arith}
use mathlib.Core.Path.{refl}
use mathlib.Core.List.{List, ◌++◌}
use mathlib.Core.Logic.{⊎_elim}
use lib.Dec.{lit≤}
use lib.ListN.{length, drop, replicate, length-replicate}
use Rattle.std.specs.Prelude.{Option, Some, None, Ok}
use Rattle.sets.proofs.LawsMember.{side?}
use Rattle.format.specs.Example.{example_image, example_table}
use Rattle.format.proofs.Example as format
use Rattle.verdict.specs.Verdict.{VerdictAnswer}
use Rattle.verdict.specs.declared.answer.Verdict.TheVariants as Verdict
use Rattle.verdict.proofs.Example as deciding
use Rattle.checker.specs.Check.{CodedAnswer}
use Rattle.checker.specs.Certificate.{Derivation, Bytes}
use Rattle.checker.proofs.Example as checking
use Rattle.writer.specs.Write.{WriteAnswer, written_as}
use Rattle.writer.proofs.Example as writing
use Rattle.line.specs.Framing.{framed}
use Rattle.line.specs.Line.{certificate_buffer, longest, Printed}
use Rattle.reply.specs.Reply.{Replied}
use Rattle.reply.proofs.Promise.{line-there}
use Rattle.demands.specs.Demands.{Demand2, Demand3, Asked, SideHolds}
use Rattle.demands.proofs.ServiceLaws.{bytes-by, each-byte}
use Rattle.demands.proofs.Promise.{demand-2, demand-3}

-- EU(true, fired) and AF(fired), both asked at stage 0, are not refused,
pub asked-example : Asked example_image example_table 2 0
asked-example = (format.example).0

pub asked-other : Asked example_image example_table 4 0
asked-other = (format.example).1

-- so that Demands 2 and 3 hold of them.
pub demands-apply :
    Demand2 example_image example_table 2 0 × Demand3 example_image example_table 2 0
    × Demand2 example_image example_table 4 0 × Demand3 example_image example_table 4 0
demands-apply = (
  demand-2 example_image example_table 2 0 asked-example,
  demand-3 example_image example_table 2 0 asked-example,
  demand-2 example_image example_table 4 0 asked-other,
  demand-3 example_image example_table 4 0 asked-other,
)

-- The checker accepts a certificate of the goal of the one and of the dual of the other: each side can have a proof, and hold.
pub both-sides :
    Derivation example_image example_table 2 0 0 × SideHolds example_image example_table 2 0 0
    × Derivation example_image example_table 4 0 1 × SideHolds example_image example_table 4 0 1
unfolding checking.cases
both-sides =
    let yes = (checking.marked).0 in
    let no = (checking.marked).1.0 in (
      ((demands-apply.1.exactly _ 0 (lit≤ tt)).0 yes).0,
      demands-apply.1.sound _ 0 yes,
      ((demands-apply.3.exactly _ 1 (lit≤ tt)).0 no).0,
      demands-apply.3.sound _ 1 no,
    )

-- A verdict is yes and one is no, a certificate is written, and the exported function has a number to give.
pub answers-there :
    VerdictAnswer example_image example_table 2 0 (Ok Verdict.Yes) × VerdictAnswer example_image example_table 4 0 (Ok Verdict.No)
    × ((before after : List ℕ) × WriteAnswer example_image example_table 2 0 before after (Ok (written_as 0 16)))
    × ((certificate : List ℕ) × CodedAnswer example_image example_table certificate 2 0 128)
unfolding checking.cases writing.cases
answers-there = (
  (deciding.example).0,
  (deciding.example).1,
  (_, _, (writing.marked).0),
  (_, record { answer = Ok 0; says = (checking.marked).0; code = refl }),
)

-- The program's input for the first question is such a row,
abbrev example_input : List ℕ
example_input = framed example_image example_table 2 0

pub input-bytes : Bytes example_input
input-bytes = bytes-by example_input tt

-- and with buffers of the program's sizes its contract is met.
pub zeros : ℕ → List ℕ
zeros n = replicate n 0

pub replied : (after printed : List ℕ) × (r : Option ℕ) × Replied example_input (zeros certificate_buffer) after (zeros longest) printed r
replied =
    let before = zeros certificate_buffer in
    let out = zeros longest in
    let a = line-there example_input before (each-byte example_input input-bytes) in
    let p = printed-there a.1 out in
    (a.0, p.0, p.1, record { line = a.1; answers = a.2; prints = p.2 })
  where
    printed-there : (line out : List ℕ) → (printed : List ℕ) × (r : Option ℕ) × Printed line out printed r
    printed-there line out =
        ⊎_elim
        (λ h. (out, None, record { whole = λ g. absurd (omega (arith, g, h)); nothing = λ g. (refl, refl) }))
        (λ h. (
          line ++ drop (length line) out,
          Some (length line),
          record { whole = λ g. (refl, refl); nothing = λ g. absurd (omega (arith, g, h)) },
        ))
        (side? (length out) (length line))

pub sizes-fit : (length (zeros certificate_buffer) ≤ certificate_buffer) × (longest ≤ length (zeros longest))
unfolding zeros
sizes-fit = (omega (arith, length-replicate {A = ℕ} certificate_buffer 0), omega (arith, length-replicate {A = ℕ} longest 0))
