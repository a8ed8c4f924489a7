-- Rows of bytes at a place.
--
--     empty-row, empty-at      the row of no bytes
--     byte_at, first_byte      one byte
--     join, split              two rows, one after the other
--     inside                   a row that begins within the bytes ends within them
--     to_the_end               a row that goes to the end of the bytes
--     after                    a row after another
use Prim.Native.Nat.{ℕ, suc, ◌+◌, ◌≤◌, ◌<◌}
use native.Mathlib.Omega.{arith}
use native.Mathlib.Numerals.{add-one}
use mathlib.Core.Path.{◌≡◌, refl, sym, ap, ◌∙◌}
use mathlib.Core.Logic.{◌↔◌}
use mathlib.Core.List.{List, [], ◌∷◌, ◌++◌, append-nil, append_assoc}
use lib.ListN.{length, get_or, drop, length-append, length-drop}
use lib.Seq.{drop-cons, drop-drop, drop-length, drop-append_seam, drop-append-add}
use Rattle.rules.specs.Spelled.{Spelled}

-- No bytes stand between a place and itself, and between no other two.
pub empty-row : {bytes : List ℕ} (at : ℕ) → Spelled bytes [] at at
empty-row at = record { row = refl; long = omega arith }

pub empty-at : {bytes : List ℕ} {at end : ℕ} → Spelled bytes [] at end → at ≡ end
empty-at s = omega (arith, s.long)

-- A row that is not empty begins before the end of the bytes.
begins : {bytes : List ℕ} {x : ℕ} {xs : List ℕ} {at end : ℕ} → Spelled bytes (x ∷ xs) at end → at < length bytes
begins {bytes} {x} {xs} {at} {end} s =
    let l : length (drop at bytes) ≡ suc (length (xs ++ drop end bytes)) = ap length s.row in omega (arith, length-drop at bytes)

-- One byte.
pub byte_at : {bytes : List ℕ} {at : ℕ} → at < length bytes → Spelled bytes (get_or bytes at 0 ∷ []) at (at + 1)
byte_at {bytes} {at} h = record { row = rw (add-one at) (drop-cons bytes at 0 h); long = refl }

-- Two rows, one after the other.
pub join : {bytes xs ys : List ℕ} {at mid end : ℕ} → Spelled bytes xs at mid → Spelled bytes ys mid end → Spelled bytes (xs ++ ys) at end
join {bytes} {xs} {ys} {at} {mid} {end} s t = record {
  row = s.row ∙ ap (λ (l : List ℕ). xs ++ l) t.row ∙ sym (append_assoc xs ys (drop end bytes));
  long = omega (arith, s.long, t.long, length-append xs ys);
}

pub split : {bytes : List ℕ} (xs : List ℕ) {ys : List ℕ} {at end : ℕ} → Spelled bytes (xs ++ ys) at end
    → (mid : ℕ) × Spelled bytes xs at mid × Spelled bytes ys mid end
split {bytes} xs {ys} {at} {end} s = (
  at + length xs,
  record { row = first ∙ ap (λ (l : List ℕ). xs ++ l) (sym later); long = refl },
  record { row = later; long = omega (arith, s.long, length-append xs ys) },
)
  where
    first : drop at bytes ≡ xs ++ (ys ++ drop end bytes)
    first = s.row ∙ append_assoc xs ys (drop end bytes)

    later : drop (at + length xs) bytes ≡ ys ++ drop end bytes
    later = sym (drop-drop (length xs) at bytes) ∙ ap (drop (length xs)) first ∙ drop-append_seam xs (ys ++ drop end bytes)

-- The first byte of a row, and the rest of it.
pub first_byte : {bytes : List ℕ} {x : ℕ} {xs : List ℕ} {at end : ℕ} → Spelled bytes (x ∷ xs) at end
    → (at < length bytes) × (get_or bytes at 0 ≡ x) × Spelled bytes xs (at + 1) end
first_byte {bytes} {x} {xs} {at} {end} s =
    let h = begins s in
    let k : get_or bytes at 0 ∷ drop (suc at) bytes ≡ x ∷ (xs ++ drop end bytes) = sym (drop-cons bytes at 0 h) ∙ s.row in
    let e : get_or bytes at 0 ≡ x = cc in
    let l : drop (suc at) bytes ≡ xs ++ drop end bytes = cc in
    (h, e, record { row = rw (add-one at) l; long = omega (arith, s.long) })

-- A row that begins within the bytes ends within them.
pub inside : {bytes xs : List ℕ} {at end : ℕ} → Spelled bytes xs at end → at ≤ length bytes → end ≤ length bytes
inside {bytes} {xs} {at} {end} s h =
    let l : length (drop at bytes) ≡ length (xs ++ drop end bytes) = ap length s.row in
    omega (arith, s.long, length-drop at bytes, length-append xs (drop end bytes), length-drop end bytes)

-- A row that goes to the end of the bytes is all of them from where it begins.
pub to_the_end : {bytes xs : List ℕ} {at : ℕ} → at ≤ length bytes → Spelled bytes xs at (length bytes) ↔ (drop at bytes ≡ xs)
to_the_end {bytes} {xs} {at} h = (λ s. s.row ∙ none xs, λ e. record { row = e ∙ sym (none xs); long = long e })
  where
    none : (ys : List ℕ) → ys ++ drop (length bytes) bytes ≡ ys
    none ys = rw (drop-length bytes) (append-nil ys)

    long : drop at bytes ≡ xs → length bytes ≡ at + length xs
    long e = omega (arith, length-drop at bytes, ap length e)

-- After a row, another.
pub after : (xs ys zs : List ℕ) → Spelled (xs ++ ys ++ zs) ys (length xs) (length xs + length ys)
after xs ys zs = record {
  row = rw (append_assoc xs ys zs, drop-append_seam xs (ys ++ zs)) (ap (λ (l : List ℕ). ys ++ l) (sym (seam ∙ drop-append_seam ys zs)));
  long = refl;
}
  where
    seam : drop (length xs + length ys) (xs ++ (ys ++ zs)) ≡ drop (length ys) (ys ++ zs)
    seam = drop-append-add xs (ys ++ zs) (length ys)
