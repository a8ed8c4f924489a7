-- What the writers of text and of the line leave in the buffer, piece by piece.
--
--     put_none, put-join, put-room     no byte; a piece and then the next; what is left of the room
--     hex-room, hex-more               room for the next byte in hex, and the two digits of it
--     decimal_digit, decimal-digits    a number below ten, and any other
--     length-small, length_more, digits-small, digits_more, logarithm-digits
--                                      how many digits a number has
--     side-short                       the side words
--     line-length, refusal-length, line-end
--                                      how long the two lines are, and that there is room to the end
--     printed-nothing, printed-whole, certificate-line, refusal-line
--                                      what is left in the buffer
--
-- Assumes nothing.
use Prim.Native.Nat.{ℕ, zero, suc, ◌+◌, ◌*◌, ◌/◌, ◌%◌, ◌^◌, ◌≤◌, ◌<◌}
use native.Mathlib.Nat.{zero-add}
use native.Mathlib.Numerals.{add-one}
use native.Mathlib.Omega.{arith}
use mathlib.Core.Path.{◌≡◌, refl, sym, ap, ap₂, ◌∙◌, subst}
use mathlib.Core.List.{List, [], ◌∷◌, ◌++◌}
use lib.ListN.{length, take, get_or, length-append, length-take}
use Rattle.std.specs.Prelude.{Option, Some, None, IfSome, IfNone, unwrap_or}
use native.Mathlib.Nat.{pow-suc}
use Rattle.format.specs.Refusal.{number}
use Rattle.format.specs.declared.Refusal.{Refusal}
use Rattle.line.specs.Front.{Written}
use Rattle.line.specs.Put.{Put}
use Rattle.line.specs.Text.{digit, decimal, hex_digit, hex, DigitCount}
use Rattle.line.specs.Line.{space, line_feed, refused_word, side_word, line_of, refusal_line, Printed}
use Rattle.line.specs.declared.text.Text.{Text}
use Rattle.line.proofs.FrontLaws.{written_none, written-join, written-length, written-room, written-front}
use Rattle.line.proofs.TextLaws.{decimal-small, decimal-more, decimal-short, hex-length, hex-one-more}

-- ---- pieces

pub put_none : (t : Text) → t.at ≤ length t.out.now → Put [] t t
put_none t h = record { lent = refl; written = written_none t.at t.out.now h }

pub put-join : {xs ys : List ℕ} {a b c : Text} → Put xs a b → Put ys b c → Put (xs ++ ys) a c
put-join p q = record { lent = q.lent ∙ p.lent; written = written-join p.written q.written }

pub put-room : {xs : List ℕ} {a b : Text} (n : ℕ) → Put xs a b → a.at + (length xs + n) ≤ length a.out.now → b.at + n ≤ length b.out.now
put-room n p h = written-room n p.written h

-- The two digits of the next byte in hex.
pub hex-room : {a b : Text} (bytes : List ℕ) (i : ℕ) → i < length bytes → a.at + 2 * length bytes ≤ length a.out.now
    → Put (hex (take i bytes)) a b → b.at + 2 ≤ length b.out.now
hex-room bytes i h room p = put-room 2 p (omega (arith, hex-length (take i bytes), length-take i bytes))

pub hex-more : {a b c d : Text} {x y : ℕ} (bytes : List ℕ) (i : ℕ) → i < length bytes → x ≡ hex_digit (get_or bytes i 0 / 16)
    → y ≡ hex_digit (get_or bytes i 0 % 16) → Put (hex (take i bytes)) a b → Put (x ∷ []) b c → Put (y ∷ []) c d → Put (hex (take (i + 1) bytes)) a d
hex-more {a} {b} {c} {d} bytes i h high low p q r =
    subst (λ (l : List ℕ). Put l a d)
    (ap₂ (λ (m n : ℕ). hex (take i bytes) ++ (m ∷ n ∷ [])) high low ∙ hex-one-more bytes i h ∙ ap (λ (k : ℕ). hex (take k bytes)) (sym (add-one i)))
    (put-join p (put-join q r))

-- ---- decimal

pub decimal_digit : {a b : Text} (n : ℕ) → n < 10 → Put (digit (n % 10) ∷ []) a b → Put (decimal n) a b
decimal_digit {a} {b} n h p =
    let same : n % 10 ≡ n = omega arith in
    subst (λ (l : List ℕ). Put l a b) (ap (λ (d : ℕ). digit d ∷ []) same ∙ sym (decimal-small n h)) p

pub decimal-digits : {a b c : Text} (n : ℕ) → 10 ≤ n → Put (decimal (n / 10)) a b → Put (digit (n % 10) ∷ []) b c → Put (decimal n) a c
decimal-digits {a} {b} {c} n h p q = subst (λ (l : List ℕ). Put l a c) (sym (decimal-more n h)) (put-join p q)

-- How many digits each has.
pub length-small : (n : ℕ) → n < 10 → length (decimal n) ≡ 1
length-small n h = ap length (decimal-small n h)

pub length_more : (n : ℕ) → 10 ≤ n → length (decimal n) ≡ length (decimal (n / 10)) + 1
length_more n h = ap length (decimal-more n h) ∙ length-append (decimal (n / 10)) (digit (n % 10) ∷ [])

-- It has so many, and 20 at most.
pub digits-small : (n : ℕ) → n < 10 → DigitCount n 1
digits-small n h = record { is = sym (length-small n h); most = omega arith }

pub digits_more : (n r : ℕ) → 10 ≤ n → n < 2 ^ 64 → DigitCount (n / 10) r → DigitCount n (r + 1)
digits_more n r h fits d = record {
  is = ap (λ (k : ℕ). k + 1) d.is ∙ sym (length_more n h);
  most = omega (arith, d.is, length_more n h, decimal-short 19 n (omega arith));
}

-- Between two powers of ten.
length-between : (k n : ℕ) → 10 ^ k ≤ n → n < 10 * 10 ^ k → length (decimal n) ≡ k + 1
length-between zero n low high = length-small n (omega arith)
length-between (suc k) n low high =
    let more = length_more n (omega (arith, low, high, pow-suc 10 k)) in
    omega (arith, more, length-between k (n / 10) (omega (arith, low, pow-suc 10 k)) (omega (arith, high, pow-suc 10 k)))

-- So the logarithm, if there is one, tells how many.
pub logarithm-digits : (n r : ℕ) (log : Option ℕ) → r ≡ unwrap_or log 0 → IfNone log (n ≡ 0) → IfSome log (λ k. 10 ^ k ≤ n)
    → IfSome log (λ k. n < 10 * 10 ^ k) → IfSome log (λ k. k < 20) → DigitCount n (r + 1)
logarithm-digits n r None e none low high few = record { is = omega (arith, e, length-small n (omega (arith, none))); most = omega (arith, e) }
logarithm-digits n r (Some k) e none low high few =
    record { is = omega (arith, e, length-between k n low high); most = omega (arith, e, few) }

-- ---- the side word

pub side-short : (side : ℕ) → length (side_word side) ≤ 3
side-short zero = omega arith
side-short (suc side) = omega arith

-- ---- the line

-- How long the two lines are.
pub line-length : (side : ℕ) (certificate : List ℕ)
    → length (line_of side certificate) ≡ length (side_word side) + length (decimal (length certificate)) + 2 * length certificate + 3
line-length side certificate =
    omega (
      arith,
      length-append (side_word side) (space ∷ (decimal (length certificate) ++ (space ∷ (hex certificate ++ (line_feed ∷ []))))),
      length-append (decimal (length certificate)) (space ∷ (hex certificate ++ (line_feed ∷ []))),
      length-append (hex certificate) (line_feed ∷ []),
      hex-length certificate,
    )

pub refusal-length : (k : Refusal) → length (refusal_line k) ≡ length (decimal (number k)) + 9
refusal-length k = omega (arith, length-append (decimal (number k)) (line_feed ∷ []))

-- Where there is room for the whole line there is room for the line feed at its end.
pub line-end : {a b c d e f : Text} {word : List ℕ} (side : ℕ) (certificate : List ℕ) → length word ≡ length (side_word side) → a.at ≡ 0
    → length (line_of side certificate) ≤ length a.out.now → Put word a b → Put (space ∷ []) b c → Put (decimal (length certificate)) c d
    → Put (space ∷ []) d e → Put (hex certificate) e f → f.at < length f.out.now
line-end side certificate same front room word first count second bytes =
    let all = put-join word (put-join first (put-join count (put-join second bytes))) in
    omega (
      arith,
      bytes.written.ends,
      second.written.ends,
      count.written.ends,
      first.written.ends,
      word.written.ends,
      written-length all.written,
      line-length side certificate,
      hex-length certificate,
    )

-- A line for which there is no room.
pub printed-nothing : (line a : List ℕ) → length a < length line → Printed line a a None
printed-nothing line a h = record { whole = λ l. absurd (omega arith); nothing = λ l. (refl, refl) }

-- A line that was written from the front on.
pub printed-whole : {line : List ℕ} {a b : Text} → a.at ≡ 0 → Put line a b → Printed line a.out.now b.out.now (Some b.at)
printed-whole {line} {a} {b} front p =
    let w : Written 0 line a.out.now b.out.now b.at = subst (λ (k : ℕ). Written k line a.out.now b.out.now b.at) front p.written in
    record {
      whole = λ h. (ap Some (w.ends ∙ zero-add (length line)), written-front w);
      nothing = λ h. absurd (omega (arith, w.room));
    }

-- The line of a certificate, and that of a refusal, piece by piece.
pub certificate-line : {a b c d e f g : Text} {word : List ℕ} (side : ℕ) (certificate : List ℕ) → word ≡ side_word side → a.at ≡ 0
    → Put word a b → Put (space ∷ []) b c → Put (decimal (length certificate)) c d → Put (space ∷ []) d e → Put (hex certificate) e f
    → Put (line_feed ∷ []) f g → Printed (line_of side certificate) a.out.now g.out.now (Some g.at)
certificate-line {a} {b} {c} {d} {e} {f} {g} side certificate same front word first count second bytes end =
    printed-whole front
    (put-join (subst (λ (l : List ℕ). Put l a b) same word) (put-join first (put-join count (put-join second (put-join bytes end)))))

pub refusal-line : {a b c d : Text} (k : Refusal) (n : ℕ) → n ≡ number k → a.at ≡ 0 → Put (refused_word ++ (space ∷ [])) a b → Put (decimal n) b c
    → Put (line_feed ∷ []) c d → Printed (refusal_line k) a.out.now d.out.now (Some d.at)
refusal-line {a} {b} {c} {d} k n same front word count end =
    printed-whole front (put-join word (put-join (subst (λ (m : ℕ). Put (decimal m) b c) same count) end))
