-- What a writer leaves in a lent buffer, for any writer: these bytes at the front, the rest kept (`Front`), and the pieces that it is put
-- together from (`Written`).
--
--     written_none, written_byte       no byte and one byte
--     written-join                     a piece and then the next
--     written-length, written-room     the buffer is as long as it was, and what is left of the room
--     written-front, front-written     from pieces to the front, and back
--     front-more                       one byte more at the front
--     front_length, front_bytes, front_rest, front-once
--                                      the length, the bytes, the rest; and no other buffer is like that
--
-- Assumes nothing.
use Prim.Native.Nat.{ℕ, ◌+◌, ◌≤◌, ◌<◌}
use native.Mathlib.Nat.{add-zero, zero-add}
use native.Mathlib.Numerals.{add-one}
use native.Mathlib.Omega.{arith}
use mathlib.Core.Path.{◌≡◌, refl, sym, ap, ◌∙◌}
use mathlib.Core.List.{List, [], ◌∷◌, ◌++◌, append_assoc}
use lib.ListN.{length, take, drop, set, length-append, length-take, length-drop, take-append-drop}
use lib.Seq.{set_split, take_at, drop_at, drop-drop}
use Rattle.line.specs.Front.{Front, Written}

-- ---- pieces

-- No byte is written.
pub written_none : (p : ℕ) (a : List ℕ) → p ≤ length a → Written p [] a a p
written_none p a h = record {
  room = omega arith;
  ends = sym (add-zero p);
  is = sym (ap (λ (k : ℕ). take p a ++ drop k a) (add-zero p) ∙ take-append-drop p a);
}

-- One byte is written.
pub written_byte : (p x : ℕ) (a : List ℕ) → p < length a → Written p (x ∷ []) a (set a p x) (p + 1)
written_byte p x a h = record {
  room = omega arith;
  ends = refl;
  is = set_split a p x h ∙ ap (λ (k : ℕ). take p a ++ (x ∷ drop k a)) (sym (add-one p));
}

-- The buffer is as long as it was.
pub written-length : {p r : ℕ} {xs a b : List ℕ} → Written p xs a b r → length b ≡ length a
written-length {p} {r} {xs} {a} {b} w =
    ap length w.is
    ∙ omega (
      arith,
      w.room,
      length-append (take p a) (xs ++ drop (p + length xs) a),
      length-append xs (drop (p + length xs) a),
      length-take p a,
      length-drop (p + length xs) a,
    )

-- What is left of the room behind a piece.
pub written-room : {p q : ℕ} {xs a b : List ℕ} (n : ℕ) → Written p xs a b q → p + (length xs + n) ≤ length a → q + n ≤ length b
written-room n w h = omega (arith, w.ends, written-length w)

-- What stands before the end of a piece, and what is behind it.
module _ {p q : ℕ} {xs a b : List ℕ} (w : Written p xs a b q) where
  seam : length (take p a ++ xs) ≡ q
  seam = omega (arith, w.room, w.ends, length-append (take p a) xs, length-take p a)

  cut : b ≡ (take p a ++ xs) ++ drop q a
  cut = w.is ∙ sym (append_assoc (take p a) xs (drop (p + length xs) a)) ∙ ap (λ (k : ℕ). (take p a ++ xs) ++ drop k a) (sym w.ends)

  before-seam : take q b ≡ take p a ++ xs
  before-seam = ap (take q) cut ∙ take_at (take p a ++ xs) (drop q a) q seam

  behind-seam : (n : ℕ) → drop (q + n) b ≡ drop (q + n) a
  behind-seam n =
      sym (drop-drop n q b) ∙ ap (λ (l : List ℕ). drop n l) (ap (drop q) cut ∙ drop_at (take p a ++ xs) (drop q a) q seam) ∙ drop-drop n q a

-- A piece and then the next are one piece.
pub written-join : {p q r : ℕ} {xs ys a b c : List ℕ} → Written p xs a b q → Written q ys b c r → Written p (xs ++ ys) a c r
written-join {p} {q} {r} {xs} {ys} {a} {b} {c} w v = record {
  room = omega (arith, both, v.room, written-length w);
  ends = v.ends ∙ both;
  is =
      v.is
      ∙ ap (λ (l : List ℕ). l ++ (ys ++ drop (q + length ys) b)) (before-seam w)
      ∙ ap (λ (l : List ℕ). (take p a ++ xs) ++ (ys ++ l)) (behind-seam w (length ys) ∙ ap (λ (k : ℕ). drop k a) both)
      ∙ append_assoc (take p a) xs (ys ++ drop (p + length (xs ++ ys)) a)
      ∙ ap (λ (l : List ℕ). take p a ++ l) (sym (append_assoc xs ys (drop (p + length (xs ++ ys)) a)));
}
  where
    both : q + length ys ≡ p + length (xs ++ ys)
    both = omega (arith, w.ends, length-append xs ys)

-- ---- the front

-- A piece that begins at the front.
pub written-front : {r : ℕ} {xs a b : List ℕ} → Written 0 xs a b r → Front xs a b
written-front {r} {xs} {a} {b} w = w.is ∙ ap (λ (k : ℕ). xs ++ drop k a) (zero-add (length xs))

-- What stands at the front is such a piece.
pub front-written : (xs a b : List ℕ) → length xs ≤ length a → Front xs a b → Written 0 xs a b (length xs)
front-written xs a b h f = record {
  room = omega arith;
  ends = sym (zero-add (length xs));
  is = f ∙ ap (λ (k : ℕ). xs ++ drop k a) (sym (zero-add (length xs)));
}

-- One byte more, written behind those that are there.
pub front-more : (xs a b : List ℕ) (x : ℕ) → length xs < length a → Front xs a b → Front (xs ++ (x ∷ [])) a (set b (length xs) x)
front-more xs a b x h f =
    let w = front-written xs a b (omega arith) f in
    written-front (written-join w (written_byte (length xs) x b (omega (arith, written-length w))))

-- The buffer is as long as it was.
pub front_length : (xs a b : List ℕ) → length xs ≤ length a → Front xs a b → length b ≡ length a
front_length xs a b h f = written-length (front-written xs a b h f)

-- The bytes stand at the front,
pub front_bytes : (xs a b : List ℕ) → Front xs a b → take (length xs) b ≡ xs
front_bytes xs a b f = ap (take (length xs)) f ∙ take_at xs (drop (length xs) a) (length xs) refl

-- and the rest is as it was.
pub front_rest : (xs a b : List ℕ) → Front xs a b → drop (length xs) b ≡ drop (length xs) a
front_rest xs a b f = ap (drop (length xs)) f ∙ drop_at xs (drop (length xs) a) (length xs) refl

-- One buffer only is like that.
pub front-once : (xs a b c : List ℕ) → Front xs a b → Front xs a c → b ≡ c
front-once xs a b c f g = f ∙ sym g
