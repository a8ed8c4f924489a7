-- What the writing of the line shows: what was read is the input, and what was written is its line, which always has room.
--
-- Assumes nothing.
use Rattle.std.proofs.Common.{ℕ, ◌+◌, ◌≤◌, ◌≡◌, List, ◌++◌, length, take, drop, OnOk, Result, Ok, Err, Option, Some, None, arith, ap, ◌∙◌, subst, length-take-le}
use mathlib.Core.Logic.{⊎_map}
use lib.Seq.{take-append_seam}
use Rattle.std.specs.Io.KnownBytes.{Consumes, Appends}
use Rattle.line.specs.Framing.{limit}
use Rattle.line.specs.Line.{certificate_buffer, longest}
use Rattle.reply.specs.Reply.{Replied}
use Rattle.reply.proofs.Promise.{reply-whole}
use Rattle.zseq.specs.Answered.{Answered, ReadWhole}

-- The line is the front of its buffer.
line-printed : {input before after out printed : List ℕ} {size : ℕ} → length before ≤ certificate_buffer → longest ≤ length out
    → (a : Replied input before after out printed (Some size)) → take size printed ≡ a.line
line-printed {input} {before} {after} {out} {printed} {size} h room a =
    let found = reply-whole h room a in
    let all : size ≡ length a.line = cc in
    ap (take size) found.2 ∙ ap (λ (k : ℕ). take k (a.line ++ drop (length a.line) out)) all ∙ take-append_seam a.line (drop (length a.line) out)

-- There is always a line.
pub always-printed : {input before after out printed : List ℕ} → length before ≤ certificate_buffer → longest ≤ length out
    → Replied input before after out printed None → ⊥
always-printed h room a = let whole = (reply-whole h room a).1 in cc

-- Where neither the reading nor the writing fails, what was taken is the whole input, and all of its line was written.
pub written : {T E : Type 0} (r : Result T E) (had left held holds : Option (List ℕ)) (n : ℕ) (buffer : List ℕ) {before after out printed : List ℕ} {size : ℕ}
    → n ≤ length buffer → length buffer ≡ limit + 1 → length before ≡ certificate_buffer → length out ≡ longest
    → Consumes had left (take n buffer) → OnOk r (ReadWhole (length buffer) left n) → Replied (take n buffer) before after out printed (Some size)
    → Appends held holds (take size printed) → OnOk r (Answered had left held holds)
written (Ok v) had left held holds n buffer {before} {after} inside full sized long taken whole replied given = record {
  input = take n buffer;
  taken = taken;
  most = omega (arith, read, full, inside);
  whole = ⊎_map (λ e. read ∙ e ∙ full) (λ l. l) whole;
  before = before;
  sized = sized;
  after = after;
  line = replied.line;
  answers = replied.answers;
  given = subst (Appends held holds) (line-printed (omega (arith, sized)) (omega (arith, long)) replied) given;
}
  where
    read : length (take n buffer) ≡ n
    read = length-take-le n buffer inside
written (Err e) had left held holds n buffer inside full sized long taken whole replied given = tt
