-- The program's input and its parts.
--
--     framed-length                    how many bytes the parts take
--     counted-there, counted-room      bytes that are long enough begin with a part after its length, and no others do
--     counted-once, rest-told          one part only, and what follows two of them
--     framed-once, too-long            one row of parts only, and no byte behind them
--     of-shape?                        whether an input is of the program's shape is computed
--     image_size, table_size, Cut, framed-cut
--                                      where the parts of an input stand in it, read off the two lengths
--     some-length, framing             an input whose lengths add up has parts
--     word-past                        a number past the end, whose bytes count as 0
--     sizes-differ                     an input whose lengths do not add up has no parts
--
-- Assumes nothing.
use Prim.Native.Nat.{ℕ, suc, ◌+◌, ◌/◌, ◌%◌, ◌≤◌, ◌<◌}
use native.Mathlib.Numerals.{add-one}
use native.Mathlib.Omega.{arith}
use mathlib.Core.Path.{◌≡◌, refl, sym, ap, ap₂, ◌∙◌, subst}
use mathlib.Core.List.{List, [], ◌∷◌, ◌++◌}
use lib.ListN.{length, take, drop, length-append, length-take, length-drop, take-append-drop, drop_of_length-le, get_or-eq_default}
use lib.Seq.{take_at, drop_at, drop-append-add, drop-drop, drop-cons, get_or-drop}
use Rattle.std.specs.Prelude.{Option, Some, None, MatchOption}
use Rattle.std.specs.List.{IsSplitAt}
use Rattle.std.specs.Borrow.{Bor}
use Rattle.sets.proofs.LawsBytes.{Bytes}
use Rattle.format.specs.Bytes.{byte_at, word_at}
use Rattle.format.proofs.Decision.{le?, both?, same-as}
use Rattle.line.specs.Framing.{word, counted, framed, limit, Framed, OfShape, NoPart}

-- The parts take 6 bytes more than image and table.
pub framed-length : (image table : List ℕ) (goal start : ℕ) → length (framed image table goal start) ≡ 6 + length image + length table
framed-length image table goal start =
    omega (
      arith,
      length-append image (counted table (goal ∷ start ∷ [])),
      length-append table (goal ∷ start ∷ []),
    )

-- ---- one part

-- Bytes begin with a part where they are as long as the length before it says,
pub counted-there : (bytes part rest : List ℕ) → Bytes bytes → 2 ≤ length bytes → length part ≡ word_at bytes 0 → drop 2 bytes ≡ part ++ rest
    → bytes ≡ counted part rest
counted-there [] part rest small h size e = absurd (omega arith)
counted-there (a ∷ []) part rest small h size e = absurd (omega arith)
counted-there (a ∷ b ∷ bytes) part rest small h size e =
    let high : a ≡ length part / 256 = omega (arith, size, small 1) in
    let low : b ≡ length part % 256 = omega (arith, size, small 1) in
    let behind : bytes ≡ part ++ rest = e in
    cc

-- and only there.
pub counted-room : {bytes : List ℕ} (part rest : List ℕ) → bytes ≡ counted part rest → (2 ≤ length bytes) × (2 + word_at bytes 0 ≤ length bytes)
counted-room {bytes} part rest e =
    let size = ap length e in
    let n : word_at bytes 0 ≡ length part = ap (λ (l : List ℕ). word_at l 0) e ∙ omega arith in
    (omega (arith, size), omega (arith, size, n, length-append part rest))

-- A part and what follows it are told by the bytes.
pub counted-once : {a b c d : List ℕ} → counted a b ≡ counted c d → (a ≡ c) × (b ≡ d)
counted-once {a} {b} {c} {d} e =
    let size : length c ≡ length a = omega (arith, ap (λ (l : List ℕ). word_at l 0) e) in
    let both : a ++ b ≡ c ++ d = ap (drop 2) e in (
      sym (take_at a b (length a) refl) ∙ ap (take (length a)) both ∙ take_at c d (length a) size,
      sym (drop_at a b (length a) refl) ∙ ap (drop (length a)) both ∙ drop_at c d (length a) size,
    )

-- What the code finds: the rest cut where the length says, or it is too short.
pub part-found : (bytes rest : List ℕ) (n : ℕ) (r : Option (Bor (List ℕ) × Bor (List ℕ))) → Bytes bytes → 2 ≤ length bytes → rest ≡ drop 2 bytes
    → n ≡ word_at bytes 0 → MatchOption r (length rest < n) (λ p. IsSplitAt rest n p.0.now p.1.now)
    → MatchOption r (NoPart bytes) (λ p. bytes ≡ counted p.0.now p.1.now)
part-found bytes rest n None small long behind size short = λ a b e. omega (arith, short, counted-room a b e, ap length behind, length-drop 2 bytes)
part-found bytes rest n (Some p) small long behind size cut =
    counted-there bytes p.0.now p.1.now small long (cut.3 ∙ size) (sym behind ∙ sym (take-append-drop n rest) ∙ ap₂ ◌++◌ (sym cut.1) (sym cut.2))

-- Whether bytes begin with a part is computed.
record Counted (bytes : List ℕ) : Type 0 where
  part : List ℕ
  rest : List ℕ
  is : bytes ≡ counted part rest

counted? : (bytes : List ℕ) → Bytes bytes → Dec (Counted bytes)
counted? bytes small =
    same-as
    (λ h. record {
      part = take (word_at bytes 0) (drop 2 bytes);
      rest = drop (word_at bytes 0) (drop 2 bytes);
      is =
          counted-there bytes _ _ small h.0 (omega (arith, h.1, length-take (word_at bytes 0) (drop 2 bytes), length-drop 2 bytes))
          (sym (take-append-drop (word_at bytes 0) (drop 2 bytes)));
    })
    (λ p. counted-room p.part p.rest p.is)
    (both? (le? 2 (length bytes)) (le? (2 + word_at bytes 0) (length bytes)))

-- ---- both parts

-- What follows both parts is told too.
pub rest-told : {a b c d e f : List ℕ} → counted a (counted b c) ≡ counted d (counted e f) → (a ≡ d) × (b ≡ e) × (c ≡ f)
rest-told e = let first = counted-once e in let second = counted-once first.1 in (first.0, second.0, second.1)

pub framed-once : {image table image' table' input : List ℕ} {goal start goal' start' : ℕ}
    → Framed image table goal start input → Framed image' table' goal' start' input
    → (image ≡ image') × (table ≡ table') × (goal ≡ goal') × (start ≡ start')
framed-once f g =
    let told = rest-told (sym f.is ∙ g.is) in
    (told.0, told.1, ap (λ (l : List ℕ). byte_at l 0) told.2, ap (λ (l : List ℕ). byte_at l 1) told.2)

-- No input has more bytes behind its parts.
pub too-long : (image table : List ℕ) (goal start more : ℕ) (rest : List ℕ)
    → OfShape (counted image (counted table (goal ∷ start ∷ more ∷ rest))) → ⊥
too-long image table goal start more rest o = let told = rest-told o.parts.is in cc (told.2)

-- ---- whether an input has parts is computed

-- What follows a part of bytes is bytes.
rest-small : (bytes part rest : List ℕ) → Bytes bytes → bytes ≡ counted part rest → Bytes rest
rest-small bytes part rest small e i =
    let behind : drop (length part) (drop 2 bytes) ≡ rest = ap (λ (l : List ℕ). drop (length part) (drop 2 l)) e ∙ drop_at part rest (length part) refl in
    subst (λ (l : List ℕ). byte_at l i < 256) behind (rw (get_or-drop, get_or-drop) (small _))

-- Whether there are two bytes and no more.
abbrev Two : List ℕ → Type 0
Two bytes = (goal : ℕ) × (start : ℕ) × (bytes ≡ goal ∷ start ∷ [])

two? : (bytes : List ℕ) → Dec (Two bytes)
two? (goal ∷ start ∷ []) = yes (goal, start, refl)
two? [] = no (λ h. cc)
two? (a ∷ []) = no (λ h. cc)
two? (a ∷ b ∷ c ∷ bytes) = no (λ h. cc)

pub of-shape? : (input : List ℕ) → Bytes input → Dec (OfShape input)
of-shape? input small = from-first (counted? input small)
  where
    from-both : (a : Counted input) → (b : Counted a.rest) → Dec (OfShape input)
    from-both a b =
        same-as
        (λ p. record {
          image = a.part;
          table = b.part;
          goal = p.1.0;
          start = p.1.1;
          parts = record { is = a.is ∙ ap (counted a.part) (b.is ∙ ap (counted b.part) p.1.2); most = p.0 };
        })
        (λ o. (o.parts.most, (o.goal, o.start, (rest-told (sym (a.is ∙ ap (counted a.part) b.is) ∙ o.parts.is)).2)))
        (both? (le? (length input) limit) (two? b.rest))

    from-second : (a : Counted input) → Dec (Counted a.rest) → Dec (OfShape input)
    from-second a (no f) =
        no (λ o. f (record { part = o.table; rest = o.goal ∷ o.start ∷ []; is = (counted-once (sym a.is ∙ o.parts.is)).1 }))
    from-second a (yes b) = from-both a b

    from-first : Dec (Counted input) → Dec (OfShape input)
    from-first (no f) = no (λ o. f (record { part = o.image; rest = counted o.table (o.goal ∷ o.start ∷ []); is = o.parts.is }))
    from-first (yes a) = from-second a (counted? a.rest (rest-small input a.part a.rest small a.is))

-- ---- the places of the parts

-- The length that an input gives for the image; and, where the image is that long, the one that it gives for the table.
abbrev pub image_size : List ℕ → ℕ
image_size input = word_at input 0

abbrev pub table_size : List ℕ → ℕ → ℕ
table_size input image = word_at input (2 + image)

-- Where the parts of an input stand in it.
pub record Cut (image table : List ℕ) (goal start : ℕ) (input : List ℕ) : Type 0 where
  pub image-size : length image ≡ image_size input
  pub image-is : image ≡ take (length image) (drop 2 input)
  pub table-size : length table ≡ table_size input (length image)
  pub table_is : table ≡ take (length table) (drop (4 + length image) input)
  pub goal_is : goal ≡ byte_at input (4 + length image + length table)
  pub start_is : start ≡ byte_at input (5 + length image + length table)
  pub total : length input ≡ 6 + length image + length table

-- A byte behind a place, read off what stands there.
read_behind : (input rest : List ℕ) (k n m : ℕ) → drop k input ≡ rest → m ≡ k + n → byte_at input m ≡ byte_at rest n
read_behind input rest k n m e h =
    ap (λ (x : ℕ). byte_at input x) h ∙ sym (get_or-drop k input n 0) ∙ ap (λ (l : List ℕ). byte_at l n) e

-- What stands behind a part that stands at a place.
drop-behind : (input part rest : List ℕ) (k n m : ℕ) → drop k input ≡ part ++ rest → m ≡ k + (length part + n) → drop m input ≡ drop n rest
drop-behind input part rest k n m e h =
    ap (λ (x : ℕ). drop x input) h ∙ sym (drop-drop (length part + n) k input) ∙ ap (drop (length part + n)) e ∙ drop-append-add part rest n

-- What stands behind the image, and what behind the table.
module _ (image table : List ℕ) (goal start : ℕ) where
  abbrev behind-table : List ℕ
  behind-table = table ++ (goal ∷ start ∷ [])

  abbrev behind-image : List ℕ
  behind-image = word (length table) ++ behind-table

  abbrev all : List ℕ
  all = framed image table goal start

  all-behind : drop (2 + length image) all ≡ behind-image
  all-behind = drop-behind all image behind-image 2 0 (2 + length image) refl (omega arith)

  all_rest : drop (4 + length image) all ≡ behind-table
  all_rest = drop-behind all image behind-image 2 2 (4 + length image) refl (omega arith)

  all-last : drop (4 + length image + length table) all ≡ goal ∷ start ∷ []
  all-last =
      drop-behind all table (goal ∷ start ∷ []) (4 + length image) 0 (4 + length image + length table) all_rest (omega arith)

  framed-all : Cut image table goal start all
  framed-all = record {
    image-size = omega arith;
    image-is = sym (take_at image behind-image (length image) refl);
    table-size =
        omega (
          arith,
          read_behind all behind-image (2 + length image) 0 (2 + length image) all-behind (omega arith),
          read_behind all behind-image (2 + length image) 1 (2 + length image + 1) all-behind refl,
        );
    table_is = sym (ap (take (length table)) all_rest ∙ take_at table (goal ∷ start ∷ []) (length table) refl);
    goal_is =
        sym
        (read_behind all (goal ∷ start ∷ []) (4 + length image + length table) 0 (4 + length image + length table) all-last (omega arith));
    start_is =
        sym
        (read_behind all (goal ∷ start ∷ []) (4 + length image + length table) 1 (5 + length image + length table) all-last (omega arith));
    total = framed-length image table goal start;
  }

-- In an input that has parts they stand there.
pub framed-cut : {image table input : List ℕ} {goal start : ℕ} → Framed image table goal start input → Cut image table goal start input
framed-cut {image} {table} {input} {goal} {start} f = subst (Cut image table goal start) (sym f.is) (framed-all image table goal start)

-- The lengths in an input that has parts add up.
adds-up : {image table input : List ℕ} {goal start : ℕ} → Cut image table goal start input
    → length input ≡ 6 + image_size input + table_size input (image_size input)
adds-up {image} {table} {input} c =
    c.total ∙ ap (λ (n : ℕ). 6 + length image + n) c.table-size ∙ ap (λ (n : ℕ). 6 + n + table_size input n) c.image-size

-- Two bytes of a list that is long enough, and what follows them.
two_bytes : (l : List ℕ) (k m : ℕ) → k + 2 ≤ length l → m ≡ k + 2 → drop k l ≡ byte_at l k ∷ byte_at l (k + 1) ∷ drop m l
two_bytes l k m h e =
    let end : suc (suc k) ≡ m = omega arith in
    drop-cons l k 0 (omega arith)
    ∙ ap (λ (r : List ℕ). byte_at l k ∷ r)
    (drop-cons l (suc k) 0 (omega arith) ∙ ap₂ (λ (i j : ℕ). byte_at l i ∷ drop j l) (sym (add-one k)) end)

-- The two bytes of a 16-bit number.
word_bytes : (l : List ℕ) (k n : ℕ) → Bytes l → n ≡ word_at l k → byte_at l k ∷ byte_at l (k + 1) ∷ [] ≡ word n
word_bytes l k n small e =
    ap₂ (λ (i j : ℕ). i ∷ j ∷ []) (omega (arith, e, small (k + 1))) (omega (arith, e, small (k + 1)))

-- So many bytes of a list from a place on, and what follows them.
some_bytes : (l : List ℕ) (k n : ℕ) → drop k l ≡ take n (drop k l) ++ drop (k + n) l
some_bytes l k n = sym (take-append-drop n (drop k l)) ∙ ap (λ (r : List ℕ). take n (drop k l) ++ r) (drop-drop n k l)

-- There are so many where the list is long enough.
pub some-length : (l : List ℕ) (k n : ℕ) → k + n ≤ length l → length (take n (drop k l)) ≡ n
some-length l k n h = omega (arith, length-take n (drop k l), length-drop k l)

-- An input whose lengths add up has parts.
module _ (input : List ℕ) (small : Bytes input) (image table : ℕ) (first : image ≡ image_size input) (second : table ≡ table_size input image)
    (total : length input ≡ 6 + image + table) where
  abbrev image_bytes : List ℕ
  image_bytes = take image (drop 2 input)

  abbrev table_bytes : List ℕ
  table_bytes = take table (drop (4 + image) input)

  pub framing : input ≡ framed image_bytes table_bytes (byte_at input (4 + image + table)) (byte_at input (5 + image + table))
  framing =
      two_bytes input 0 2 (omega arith) refl
      ∙ ap₂ (λ (w r : List ℕ). w ++ r)
      (word_bytes input 0 image small first ∙ ap word (sym (some-length input 2 image (omega arith))))
      (some_bytes input 2 image ∙ ap (λ (r : List ℕ). image_bytes ++ r) from-table)
    where
      last : List ℕ
      last = byte_at input (4 + image + table) ∷ byte_at input (5 + image + table) ∷ []

      at-end : drop (4 + image + table) input ≡ last
      at-end =
          let next : 4 + image + table + 1 ≡ 5 + image + table = omega arith in
          let none : drop (6 + image + table) input ≡ [] = drop_of_length-le input {i = 6 + image + table} (omega arith) in
          two_bytes input (4 + image + table) (6 + image + table) (omega arith) (omega arith)
          ∙ ap₂ (λ (i : ℕ) (r : List ℕ). byte_at input (4 + image + table) ∷ byte_at input i ∷ r) next none

      from-table : drop (2 + image) input ≡ word (length table_bytes) ++ (table_bytes ++ last)
      from-table =
          two_bytes input (2 + image) (4 + image) (omega arith) (omega arith)
          ∙ ap₂ (λ (w r : List ℕ). w ++ r)
          (word_bytes input (2 + image) table small second ∙ ap word (sym (some-length input (4 + image) table (omega arith))))
          (some_bytes input (4 + image) table ∙ ap (λ (r : List ℕ). table_bytes ++ r) at-end)

-- A number past the end, whose bytes count as 0.
pub word-past : (bytes : List ℕ) (at : ℕ) → length bytes ≤ at → 0 ≡ word_at bytes at
word-past bytes at h = omega (arith, get_or-eq_default bytes 0 h, get_or-eq_default bytes 0 {n = at + 1} (omega arith))

-- No parts where the lengths do not add up.
pub sizes-differ : (input : List ℕ) (image table : ℕ) → image ≡ image_size input → table ≡ table_size input image
    → (length input ≡ 6 + image + table → ⊥) → OfShape input → ⊥
sizes-differ input image table first second apart o =
    apart
    (subst (λ (b : ℕ). length input ≡ 6 + image + b) (sym second)
    (subst (λ (a : ℕ). length input ≡ 6 + a + table_size input a) (sym first) (adds-up (framed-cut o.parts))))
