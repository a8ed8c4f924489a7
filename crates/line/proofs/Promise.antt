-- The promises of the framing and of the line. Refusal 16 is given exactly when the input is not of the program's shape or over its limit; the
-- parts that are found are the only ones; and of each public function two results that meet its contract are one.
--
--     sixteen-exactly, only-sixteen    16 exactly when there are no parts, and no other refusal
--     parts-found                      whoever has parts of the input finds these
--     over-limit                       an input over the limit is refused, whatever its shape
--     frame-once, printed-once         one answer, one line
--     none-exactly                     None is returned exactly when there is no room
--     line-some, refusal-some          no line is empty
--     line-fits, refusal-fits          a buffer in which every line of the program has room
--
-- Assumes nothing.
use Prim.Native.Nat.{ℕ, ◌≤◌, ◌<◌}
use native.Mathlib.Omega.{arith}
use mathlib.Core.Path.{◌≡◌, sym, ap, ◌∙◌}
use mathlib.Core.List.{List}
use mathlib.Core.Logic.{◌↔◌, inl, inr, ⊎_elim}
use lib.ListN.{length}
use Rattle.std.specs.Prelude.{Option, Some, None, Result, Ok, Err}
use Rattle.sets.proofs.LawsMember.{side?}
use Rattle.format.specs.Refusal.{number}
use Rattle.format.specs.declared.Refusal.{Refusal}
use Rattle.format.specs.declared.Refusal.TheVariants as R
use Rattle.format.proofs.RefusalLaws.{given-one, number_small}
use Rattle.line.specs.declared.frame.Parts.{Parts}
use Rattle.line.specs.Framing.{limit, Framed, OfShape, frame_conditions, FrameAnswer, shown}
use Rattle.line.specs.Line.{line_of, refusal_line, certificate_buffer, longest, Printed}
use Rattle.line.proofs.FrontLaws.{front-once}
use Rattle.line.proofs.TextLaws.{decimal-short}
use Rattle.line.proofs.FramingLaws.{framed-once}
use Rattle.line.proofs.LineLaws.{side-short, line-length, refusal-length}

-- ---- the framing

module _ (input : List ℕ) where
  -- What was found is an input of the program's shape.
  found-shape : (p : Parts) → FrameAnswer input (Ok p) → OfShape input
  found-shape p f = record { image = p.image.now; table = p.table.now; goal = p.goal; start = p.start; parts = f }

  -- Two answers to one input show the same.
  pub frame-once : (r s : Result Parts Refusal) → FrameAnswer input r → FrameAnswer input s → shown r ≡ shown s
  frame-once (Ok p) (Ok q) f g =
      let same = framed-once f g in λ i. Ok (same.0 i, same.1 i, same.2 i, same.3 i)
  frame-once (Ok p) (Err k) f (inl g) = absurd (g.1 (found-shape p f))
  frame-once (Ok p) (Err k) f (inr g) = absurd g.1
  frame-once (Err j) (Ok q) (inl f) g = absurd (f.1 (found-shape q g))
  frame-once (Err j) (Ok q) (inr f) g = absurd f.1
  frame-once (Err j) (Err k) f g = ap Err (given-one (frame_conditions input) j k f g)

  -- 16 comes exactly when the input is not of the program's shape or over its limit,
  pub sixteen-exactly : (r : Result Parts Refusal) → FrameAnswer input r → (r ≡ Err R.NotOfShape) ↔ (OfShape input → ⊥)
  sixteen-exactly (Ok p) f = (λ e. cc, λ none. absurd (none (found-shape p f)))
  sixteen-exactly (Err k) (inl g) = (λ e. g.1, λ none. ap Err g.0)
  sixteen-exactly (Err k) (inr g) = absurd g.1

  -- and no other refusal comes.
  pub only-sixteen : (k : Refusal) → FrameAnswer input (Err k) → k ≡ R.NotOfShape
  only-sixteen k (inl g) = g.0
  only-sixteen k (inr g) = absurd g.1

  -- An input over the limit is refused, whatever its shape.
  pub over-limit : (r : Result Parts Refusal) → FrameAnswer input r → limit < length input → r ≡ Err R.NotOfShape
  over-limit r f h = (sixteen-exactly r f).1 (λ o. omega (arith, h, o.parts.most))

  -- Whoever has parts of the input finds these.
  pub parts-found : (image table : List ℕ) (goal start : ℕ) → Framed image table goal start input → (r : Result Parts Refusal) → FrameAnswer input r
      → shown r ≡ Ok (image, table, goal, start)
  parts-found image table goal start have (Ok p) f =
      let same = framed-once f have in λ i. Ok (same.0 i, same.1 i, same.2 i, same.3 i)
  parts-found image table goal start have (Err k) (inl g) =
      absurd (g.1 (record { image = image; table = table; goal = goal; start = start; parts = have }))
  parts-found image table goal start have (Err k) (inr g) = absurd g.1

-- ---- the line

module _ {line before : List ℕ} where
  -- Two results of a writer of one line are one, and so are the buffers that they leave.
  pub printed-once : (a b : List ℕ) (r s : Option ℕ) → Printed line before a r → Printed line before b s → (r ≡ s) × (a ≡ b)
  printed-once a b r s p q =
      ⊎_elim (λ h. ((p.nothing h).0 ∙ sym (q.nothing h).0, (p.nothing h).1 ∙ sym (q.nothing h).1))
      (λ h. ((p.whole h).0 ∙ sym (q.whole h).0, front-once line before a b (p.whole h).1 (q.whole h).1))
      (side? (length before) (length line))

  -- None is returned exactly when there is no room.
  pub none-exactly : (a : List ℕ) (r : Option ℕ) → Printed line before a r → (r ≡ None) ↔ (length before < length line)
  none-exactly a r p = (
    λ e. ⊎_elim (λ h. h) (λ h. absurd (let some : r ≡ Some (length line) = (p.whole h).0 in cc)) (side? (length before) (length line)),
    λ h. (p.nothing h).0,
  )

-- No line is empty.
pub line-some : (side : ℕ) (certificate : List ℕ) → 0 < length (line_of side certificate)
line-some side certificate = omega (arith, line-length side certificate)

pub refusal-some : (k : Refusal) → 0 < length (refusal_line k)
refusal-some k = omega (arith, refusal-length k)

-- Every line of the program has room in 65,547 bytes, since its certificate buffer is 32,768 bytes; a refusal's number has at most three digits.
pub line-fits : (side : ℕ) (certificate : List ℕ) → length certificate ≤ certificate_buffer → length (line_of side certificate) ≤ longest
line-fits side certificate h =
    omega (arith, line-length side certificate, side-short side, decimal-short 4 (length certificate) (omega arith))

pub refusal-fits : (k : Refusal) → length (refusal_line k) ≤ 12
refusal-fits k = omega (arith, refusal-length k, decimal-short 2 (number k) (omega (arith, number_small k)))
