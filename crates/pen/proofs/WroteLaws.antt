-- Runs of bytes in a lent buffer, one after the other.
--
--     wrote-length, wrote-place        the buffer is as long as it was, and no place is further than one past its end
--     wrote-past, wrote_none           any bytes from past the end on; no byte
--     wrote-full, wrote-stored, wrote-counted
--                                      one byte
--     wrote-both                       a run and then the next
--     wrote-same                       the same run by another name
use Prim.Native.Nat.{ℕ, suc, ◌+◌, ◌≤◌, ◌<◌}
use native.Mathlib.Omega.{arith}
use mathlib.Core.Path.{◌≡◌, refl, sym, ap, ◌∙◌, subst}
use mathlib.Core.Bool.{Bool, true, false}
use mathlib.Core.List.{List, [], ◌∷◌, ◌++◌}
use mathlib.Core.Logic.{⊎_elim}
use lib.ListN.{length, set, length-append}
use lib.Seq.{sets, set_out, length-sets}
use Rattle.sets.proofs.LawsMember.{side?}
use Rattle.pen.specs.Wrote.{after, laid, Wrote}

-- Stored from past the end on, bytes change nothing.
sets-past : (l : List ℕ) (i : ℕ) (vs : List ℕ) → length l ≤ i → sets l i vs ≡ l
sets-past l i [] h = refl
sets-past l i (v ∷ vs) h = ap (λ (k : List ℕ). sets k (suc i) vs) (set_out l i v h) ∙ sets-past l (suc i) vs (omega arith)

-- A run, and then the next from where it ends.
sets-both : (l : List ℕ) (i : ℕ) (vs ws : List ℕ) → sets l i (vs ++ ws) ≡ sets (sets l i vs) (i + length vs) ws
sets-both l i [] ws = ap (λ (k : ℕ). sets l k ws) (omega arith)
sets-both l i (v ∷ vs) ws = sets-both (set l i v) (suc i) vs ws ∙ ap (λ (k : ℕ). sets (sets (set l i v) (suc i) vs) k ws) (omega arith)

-- The buffer is as long as it was.
laid-length : (w : Bool) (l : List ℕ) (p : ℕ) (vs : List ℕ) → length (laid w l p vs) ≡ length l
laid-length true l p vs = length-sets l p vs
laid-length false l p vs = refl

pub wrote-length : {w : Bool} {vs : List ℕ} {p : ℕ} {l k : List ℕ} {n : ℕ} → Wrote w vs p l k n → length k ≡ length l
wrote-length {w} {vs} {p} {l} g = ap length g.leaves ∙ laid-length w l p vs

-- No place is further than one past the end.
pub wrote-place : {w : Bool} {vs : List ℕ} {p : ℕ} {l k : List ℕ} {n : ℕ} → Wrote w vs p l k n → n ≤ suc (length k)
wrote-place g = omega (arith, g.goes, wrote-length g)

-- From past the end on, whatever the bytes, the buffer is as it was.
laid-past : (w : Bool) (l : List ℕ) (p : ℕ) (vs : List ℕ) → length l ≤ p → l ≡ laid w l p vs
laid-past true l p vs h = sym (sets-past l p vs h)
laid-past false l p vs h = refl

pub wrote-past : (w : Bool) (vs : List ℕ) (p : ℕ) (l : List ℕ) → length l < p → Wrote w vs p l l (length l + 1)
wrote-past w vs p l h = record { goes = omega arith; leaves = laid-past w l p vs (omega arith) }

-- No byte.
pub wrote_none : (w : Bool) (p : ℕ) (l : List ℕ) → p ≤ suc (length l) → Wrote w [] p l l p
wrote_none w p l h = record { goes = omega arith; leaves = go w }
  where
    go : (w : Bool) → l ≡ laid w l p []
    go true = refl
    go false = refl

-- One byte: there is no room for it, it is stored, or it is counted.
pub wrote-full : (w : Bool) (v p : ℕ) (l : List ℕ) → length l ≤ p → Wrote w (v ∷ []) p l l (length l + 1)
wrote-full w v p l h = record { goes = omega arith; leaves = laid-past w l p (v ∷ []) h }

module _ {w : Bool} {v p : ℕ} {l k : List ℕ} (room : p < length l) where
  pub wrote-stored : w ≡ true → k ≡ set l p v → Wrote w (v ∷ []) p l k (p + 1)
  wrote-stored e f = record { goes = omega arith; leaves = f ∙ ap (λ (b : Bool). laid b l p (v ∷ [])) (sym e) }

  pub wrote-counted : w ≡ false → k ≡ l → Wrote w (v ∷ []) p l k (p + 1)
  wrote-counted e f = record { goes = omega arith; leaves = f ∙ ap (λ (b : Bool). laid b l p (v ∷ [])) (sym e) }

-- A run and then the next.
module _ {w : Bool} {vs ws : List ℕ} {p q r : ℕ} {l k j : List ℕ} (first : Wrote w vs p l k q) (second : Wrote w ws q k j r) where
  place_after : after (length k) q ws ≡ after (length l) p (vs ++ ws)
  place_after = omega (arith, first.goes, wrote-length first, length-append vs ws)

  -- Where the first run does not fit, the second changes nothing.
  stored-after : sets (sets l p vs) q ws ≡ sets l p (vs ++ ws)
  stored-after =
      ⊎_elim
      (λ h. ap (λ (i : ℕ). sets (sets l p vs) i ws) (omega (arith, first.goes)))
      (λ h. sets-past (sets l p vs) q ws (omega (arith, first.goes, length-sets l p vs))
      ∙ sym (sets-past (sets l p vs) (p + length vs) ws (omega (arith, length-sets l p vs))))
      (side? (p + length vs) (suc (length l)))
      ∙ sym (sets-both l p vs ws)

  pub wrote-both : Wrote w (vs ++ ws) p l j r
  wrote-both = record {
    goes = second.goes ∙ place_after;
    leaves = second.leaves ∙ ap (λ (m : List ℕ). laid w m q ws) first.leaves ∙ go w;
  }
    where
      go : (w : Bool) → laid w (laid w l p vs) q ws ≡ laid w l p (vs ++ ws)
      go true = stored-after
      go false = refl

-- The same run by another name.
pub wrote-same : {w : Bool} {vs ws : List ℕ} {p q : ℕ} {l k : List ℕ} → vs ≡ ws → Wrote w vs p l k q → Wrote w ws p l k q
wrote-same {w} {vs} {ws} {p} {q} {l} {k} e g = subst (λ (us : List ℕ). Wrote w us p l k q) e g
