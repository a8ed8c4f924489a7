-- The sets of an image in a row: a row that a loop fills set by set.
--
--     decoded-start, decoded-more, decoded-end
--     decoded-once                                the row is the only one that is so
--     sets-fit, none-past, empties                  an image has so many sets, and none past them; a row of empty sets
--     all-sets, next-set                          such a row with all of them put in, and the successor sets in it
--
-- Assumes nothing.
use Prim.Native.Nat.{ℕ, zero, suc, ◌+◌, ◌*◌, ◌≤◌, ◌<◌}
use native.Mathlib.Omega.{arith}
use mathlib.Core.Path.{◌≡◌, refl, sym, ap, ◌∙◌, subst}
use mathlib.Core.List.{List}
use mathlib.Core.Logic.{⊎_elim}
use lib.Dec.{eqb}
use lib.ListN.{length, replicate, length-replicate, get_or-replicate}
use lib.Seq.{ext_get_or}
use Rattle.sets.specs.declared.Set.{Set}
use Rattle.sets.specs.Number.{number, none}
use Rattle.sets.specs.Row.{room, held, Put}
use Rattle.sets.proofs.LawsMember.{same?, side?}
use Rattle.sets.proofs.LawsBytes.{stored-out}
use Rattle.sets.proofs.LawsRow.{set_same, room-enough, held-past}
use Rattle.format.specs.Image.{SizesFit, LengthFits, stages_of, predicates_of, arity_of, first_set, sets_in, set_of}
use Rattle.format.proofs.ImageLaws.{pick-le}
use Rattle.hand.specs.Hand.{SuccessorsOf}
use Rattle.hand.specs.Setup.{Decoded, AllSets}
use Rattle.hand.proofs.HandLaws.{successors-in}

-- Before the first set nothing is put in.
pub decoded-start : (image : List ℕ) (row : List Set) → Decoded image 0 row row
decoded-start image row = record { sets = λ s h r. absurd (omega arith); others = λ s h. refl; size = refl }

-- Rows of one length have room for as many sets.
same-room : (a b : List Set) → length a ≡ length b → room a ≡ room b
unfolding room
same-room a b e = e

-- One set more is put in.
pub decoded-more : {image : List ℕ} {before row after : List Set} {s set : ℕ} → Decoded image s before row → set ≡ set_of image s → Put row s set after
    → Decoded image (s + 1) before after
decoded-more {image} {before} {row} {after} {s} {set} d e p = record {
  sets = λ k h r. ⊎_elim
      (λ q. subst (λ (j : ℕ). held after j ≡ set_of image j) (sym q) (p.here (omega (arith, same-room row before d.size)) ∙ e))
      (λ q. p.others k q ∙ d.sets k (omega arith) r)
      (same? k s);
  others = λ k h. p.others k (λ q. omega arith) ∙ d.others k (omega arith);
  size = p.size ∙ d.size;
}

-- After the last the row is decoded.
pub decoded-end : {image : List ℕ} {before row : List Set} {n s : ℕ} → s ≤ n → n ≤ s → Decoded image s before row → Decoded image n before row
decoded-end {image} {before} {row} {n} {s} l g d =
    let e : s ≡ n = omega arith in
    subst (λ (k : ℕ). Decoded image k before row) e d

-- Two rows that an image is decoded to are one.
pub decoded-once : (image : List ℕ) (n : ℕ) (row a b : List Set) → Decoded image n row a → Decoded image n row b → a ≡ b
unfolding held
decoded-once image n row a b p q =
    ext_get_or none a b (p.size ∙ sym q.size) (λ s h. set_same _ _ (⊎_elim (within s h) (beyond s) (side? s n)))
  where
    within : (s : ℕ) → s < length a → s < n → held a s ≡ held b s
    within s h l = let r = room-enough row s (omega (arith, p.size)) in p.sets s l r ∙ sym (q.sets s l r)

    beyond : (s : ℕ) → n ≤ s → held a s ≡ held b s
    beyond s l = p.others s l ∙ sym (q.others s l)

-- ---- all sets of an image

-- A predicate has no more sets than there may be stages.
first-most : (image : List ℕ) → SizesFit image → (q : ℕ) → first_set image q ≤ 64 + 64 * q
unfolding first_set
first-most image fit zero = omega (arith, fit.stages)
first-most image fit (suc q) =
    omega
    (arith, first-most image fit q, pick-le (eqb (arity_of image q) 2) {s = stages_of image} {t = 1} {m = 64} fit.stages (omega arith))

-- There is room for all of them in 17 for each stage.
pub sets-fit : (image : List ℕ) → SizesFit image → sets_in image ≤ 1088
sets-fit image fit = omega (arith, first-most image fit (predicates_of image), fit.predicates)

-- Past the last there is none.
pub none-past : (image : List ℕ) → LengthFits image → (i : ℕ) → sets_in image ≤ i → set_of image i ≡ 0
none-past image fit i h = stored-out image (7 + predicates_of image + 8 * i) (omega (arith, fit.total))

-- A row of one set, as often as there is room, holds that set or none.
pub empties : (n i : ℕ) (s : Set) → number s ≡ 0 → held (replicate n s) i ≡ 0
unfolding held room
empties n i s e =
    ⊎_elim (λ h. ap number (get_or-replicate n i s none h) ∙ e) (λ h. held-past (replicate n s) i (omega (arith, length-replicate n s))) (side? i n)

-- All sets are put into a row of empty sets.
pub all-sets : {image : List ℕ} {after : List Set} {n count : ℕ} (empty : Set) → SizesFit image → LengthFits image → 1088 ≤ n
    → count ≡ sets_in image → number empty ≡ 0 → Decoded image count (replicate n empty) after → AllSets image after
all-sets {image} {after} {n} {count} empty sizes long enough is e d = record {
  each = λ i. ⊎_elim
      (λ h. d.sets i h (room-enough (replicate n empty) i (omega (arith, length-replicate n empty, sets-fit image sizes))))
      (λ h. d.others i h ∙ empties n i empty e ∙ sym (none-past image long i (omega arith)))
      (side? i count);
}

-- The set of a stage is its successors.
pub next-set : {image : List ℕ} {sets : List Set} {s r : ℕ} → AllSets image sets → s < stages_of image → r ≡ held sets s → SuccessorsOf image s r
next-set {image} {s = s} all h e = successors-in image s h (e ∙ all.each s)
