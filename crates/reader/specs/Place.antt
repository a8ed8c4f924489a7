-- Document 01, "The steps of a proof": a reader carries the certificate bytes and its place in them. What it finds at its place is the head of a
-- step, and it then stands after that head's code and chosen byte; where no step for the formula in hand begins, it stays where it is.
use Rattle.std.specs.Prelude.{ℕ, ◌≡◌, List, Ok, Err}
use Rattle.std.specs.Borrow.{Bor}
use Rattle.rules.specs.Head.{Head, head_of}
use Rattle.reader.specs.declared.Reader.{Reader}
use Rattle.reader.specs.declared.Heads.{Heads}

-- The place after what was found at a place.
abbrev pub place_after : Head → ℕ → ℕ
place_after (Ok step) at = step.next
place_after (Err unread) at = at

-- The reader of some bytes that stands at a place.
abbrev pub reader_at : Bor (List ℕ) → ℕ → Reader
reader_at s p = record { bytes = s; place = p }

-- What a reader finds at its place, for a formula of the kind with number k.
abbrev pub found_by : Reader → ℕ → Head
found_by d k = head_of d.bytes.now d.place k

-- The reader of the same bytes that stands after what was found.
abbrev pub moved_on : Reader → Head → Reader
moved_on d h = reader_at d.bytes (place_after h d.place)

-- The reader d finds h, for a formula of the kind with number k, and is the reader e afterwards.
pub record Stepped (d : Reader) (k : ℕ) (h : Head) (e : Reader) : Type 0 where
  pub head : h ≡ found_by d k
  pub reader : e ≡ moved_on d h

-- What stands at a place, for a formula of the kind with number k; what stands after it, for one of the kind with number l; and the place after both.
abbrev pub heads_of : List ℕ → ℕ → ℕ → ℕ → Heads
heads_of bytes at k l =
    let h = head_of bytes at k in
    let i = head_of bytes (place_after h at) l in
    record { first = h; second = i; place = place_after i (place_after h at) }
