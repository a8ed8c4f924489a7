-- A certificate that was written lies in its buffer (`written-inside`), and what writing answers to the parts of an input is the answer to the
-- input (`parts-wrote`). Where framing finds no parts the line is that of 16 (`sixteen-reply`). As many bytes as come back stand in the line
-- buffer (`reply-inside`, `reply-taken`).
--
-- Assumes nothing.
use Prim.Native.Nat.{ℕ, ◌≤◌}
use native.Mathlib.Omega.{arith}
use mathlib.Core.Path.{◌≡◌, refl, ap, ap₂, ◌∙◌}
use mathlib.Core.List.{List, ◌++◌}
use mathlib.Core.Logic.{inl, inr, ⊎_elim}
use lib.ListN.{length, take, drop, length-append, length-take}
use Rattle.std.specs.Prelude.{Option, Some, None, Result, Ok, Err}
use Rattle.sets.proofs.LawsMember.{side?}
use Rattle.writer.specs.Write.{certificate, WriteAnswer}
use Rattle.format.specs.declared.Refusal.{Refusal}
use Rattle.writer.specs.declared.answer.Written.{Written}
use Rattle.writer.proofs.Promise.{written-front}
use Rattle.line.specs.Framing.{OfShape, FrameAnswer}
use Rattle.line.specs.Line.{line_of, refusal_line, Printed}
use Rattle.line.specs.declared.frame.Parts.{Parts}
use Rattle.line.proofs.Promise.{only-sixteen, sixteen-exactly}
use Rattle.reply.specs.Reply.{Replied}
use Rattle.reply.specs.Printing.{Inside, Wrote}

-- A certificate that was written lies in its buffer.
pub written-inside : (image table : List ℕ) (goal start : ℕ) (before after : List ℕ) (answer : Result Written Refusal)
    → WriteAnswer image table goal start before after answer → Inside answer after
written-inside image table goal start before after (Ok w) a =
    omega (arith, a.size_is, ap length a.bytes, length-append (certificate image table goal start) (drop w.length before))
written-inside image table goal start before after (Err k) a = tt

-- What writing answers to the parts that were found.
pub parts-wrote : {input before after : List ℕ} (p : Parts) (answer : Result Written Refusal) → FrameAnswer input (Ok p)
    → WriteAnswer p.image.now p.table.now p.goal p.start before after answer → Wrote input before after answer
parts-wrote {input} {before} {after} p answer found = wrote answer
  where
    shape : OfShape input
    shape = record { image = p.image.now; table = p.table.now; goal = p.goal; start = p.start; parts = found }

    wrote : (a : Result Written Refusal) → WriteAnswer p.image.now p.table.now p.goal p.start before after a → Wrote input before after a
    wrote (Ok a) w =
        let bytes = certificate p.image.now p.table.now p.goal p.start in
        record {
          inside = omega (arith, w.size_is, ap length w.bytes, length-append bytes (drop a.length before));
          answers =
              inr
              (inr
              (record {
                parts = shape;
                clear = w.clear;
                line_is = ap₂ line_of w.side_is (written-front p.image.now p.table.now p.goal p.start before after w);
                front = w.bytes ∙ ap (λ (n : ℕ). bytes ++ drop n before) w.size_is;
              }));
        }
    wrote (Err k) w = record {
      inside = tt;
      answers = inr (inl (record { parts = shape; refusal = k; given = w.given; line_is = refl; kept = w.kept }));
    }

-- Where framing finds no parts: the line of 16.
pub sixteen-reply : (input before out printed : List ℕ) (r : Option ℕ) (k : Refusal) → FrameAnswer input (Err k)
    → Printed (refusal_line k) out printed r → Replied input before before out printed r
sixteen-reply input before out printed r k refused prints =
    let sixteen = only-sixteen input k refused in
    record {
      line = refusal_line k;
      answers =
          inl
          (record {
            shapeless = (sixteen-exactly input (Err k) refused).0 (ap Err sixteen);
            line_is = ap refusal_line sixteen;
            kept = refl;
          });
      prints = prints;
    }

-- ---- the caller's side

-- As many bytes as come back stand in the line buffer, so that they can be lent.
pub reply-inside : {input before after out printed : List ℕ} {n : ℕ} → Replied input before after out printed (Some n) → n ≤ length printed
reply-inside {out = out} {printed = printed} {n = n} a =
    ⊎_elim (λ h. absurd (let none : Some n ≡ None = (a.prints.nothing h).0 in cc))
    (λ h.
    let found : Some n ≡ Some (length a.line) = (a.prints.whole h).0 in
    let all : n ≡ length a.line = cc in
    omega (
      arith,
      all,
      ap length (a.prints.whole h).1,
      length-append a.line (drop (length a.line) out),
    ))
    (side? (length out) (length a.line))

-- So they are as many as are taken from its front.
pub reply-taken : {input before after out printed : List ℕ} {n : ℕ} → Replied input before after out printed (Some n) → n ≡ length (take n printed)
reply-taken {printed = printed} {n = n} a = omega (arith, length-take n printed, reply-inside a)
