-- A walk over the members of a set, lowest first, as `Set::stages` goes: k is the lowest of what is left, something is done with k, and the
-- others are left. What comes next of one set is one (`next-once`), and `ones left` falls (`walk-falls`). Two invariants: one of a walk that gathers
-- the members that pass a test, which is any function to 0 and 1 (`Gathered`), and one of a walk that shows a property of each member (`Shown`).
-- Each law takes what the contracts of `is_empty`, `lowest`, `rest` and `with` say of the numbers before and after a turn (primed).
-- Assumes nothing.
use mathlib.Core.Path.{◌≡◌, refl, sym, ap, ap₂, ◌∙◌, subst}
use mathlib.Core.Logic.{◌⊎◌, inl, inr, ⊎_elim, ◌≢◌, ◌↔◌}
use Prim.Native.Nat.{ℕ, ◌^◌, ◌≤◌, ◌<◌, min, max}
use native.Mathlib.Omega.{arith}
use lib.Bits.{bit_or}
use lib.Count.{ones}
use Rattle.std.specs.Prelude.{Option, Some, None}
use Rattle.sets.specs.Member.{bit, Has, Empty}
use Rattle.sets.specs.Number.{number, single, width}
use Rattle.sets.specs.declared.Stages.{Stages}
use Rattle.sets.specs.Walk.{Turn, Next}
use Rattle.sets.proofs.LawsBit.{bit-zero, bit-or}
use Rattle.sets.proofs.LawsMember.{same?, bit-single-same, bit-single-other, empty-zero, not-has}
use Rattle.sets.proofs.LawsLowest.{lowest-lt, lowest-has, rest-lowest, rest-other, rest-small, ones-rest}

-- when a walk begins all of the set is left
pub walk-begins : {first items : Stages} {s : ℕ} → first ≡ items → number items.left ≡ s → number first.left ≡ s
walk-begins e f = ap (λ i. number i.left) e ∙ f

-- what comes next of one set, and what is left then, is one
pub next-once : (left : ℕ) {left' left'' : ℕ} (r s : Option ℕ) → Next left r left' → Next left s left'' → (r ≡ s) × (left' ≡ left'')
next-once left None None p q = (refl, p.1 ∙ sym q.1)
next-once left None (Some k) p q = absurd (q.some p.0)
next-once left (Some k) None p q = absurd (p.some q.0)
next-once left (Some k) (Some l) p q = (ap Some (p.lowest ∙ sym q.lowest), p.others ∙ sym q.others)

some-not-zero : (s : ℕ) → (Empty s → ⊥) → s ≢ 0
some-not-zero s f e = f ((empty-zero s).1 e)

module _ {left k left' : ℕ} (turn : Turn left k left') where
  -- each turn brings the measure down
  pub walk-falls : ones left' < ones left
  walk-falls = omega (arith, ap ones turn.others, ones-rest left (some-not-zero left turn.some))

  module _ (small : left < 2 ^ width) where
    walk-small : left' < 2 ^ width
    walk-small = omega (arith, turn.others, rest-small width left small)

    -- there is room for the stage of a turn
    pub walk-room : k < width
    walk-room = omega (arith, turn.lowest, lowest-lt width left (some-not-zero left turn.some) small)

    -- it was left
    pub walk-has : Has left k
    walk-has = ap (bit left) turn.lowest ∙ lowest-has width left (some-not-zero left turn.some) small

    -- it is left no more, and every other stage stays
    walk-gone : bit left' k ≡ 0
    walk-gone = ap₂ bit turn.others turn.lowest ∙ rest-lowest width left small

    walk-other : (j : ℕ) → j ≢ k → bit left' j ≡ bit left j
    walk-other j n = ap (λ (x : ℕ). bit x j) turn.others ∙ rest-other width left j small (λ e. n (e ∙ sym turn.lowest))

-- ---- gathering

-- what is gathered, and what is left of s and passes the test t, is what of s passes it
pub record Gathered (s : ℕ) (t : ℕ → ℕ) (left got : ℕ) : Type 0 where
  pub small : left < 2 ^ width
  pub each : (j : ℕ) → max (bit got j) (min (bit left j) (t j)) ≡ min (bit s j) (t j)

-- at the start nothing is gathered and all is left
pub gather-start : (s : ℕ) (t : ℕ → ℕ) (got : ℕ) {left : ℕ} → s < 2 ^ width → left ≡ s → got ≡ 0 → Gathered s t left got
gather-start s t got h f e = record {
  small = omega (arith, h, f);
  each = λ j. omega (arith, ap (λ (x : ℕ). bit x j) f, ap (λ (x : ℕ). bit x j) e, bit-zero j);
}

module _ {s : ℕ} {t : ℕ → ℕ} {left got k left' : ℕ} (g : Gathered s t left got) (turn : Turn left k left') where
  -- a turn changes what is gathered, and what is left, at its own stage only
  turned : (got' : ℕ) → ((j : ℕ) → j ≢ k → bit got' j ≡ bit got j) → bit got' k ≡ min (bit s k) (t k) → Gathered s t left' got'
  turned got' far near = record {
    small = walk-small turn g.small;
    each = λ j. ⊎_elim
        (λ q. subst (λ (i : ℕ). max (bit got' i) (min (bit left' i) (t i)) ≡ min (bit s i) (t i)) (sym q)
        (omega (arith, near, walk-gone turn g.small)))
        (λ q. ap₂ (λ (x y : ℕ). max x (min y (t j))) (far j q) (walk-other turn g.small j q) ∙ g.each j)
        (same? j k);
  }

  -- the stage passes, and is taken
  pub gather-take : {got' : ℕ} → t k ≡ 1 → got' ≡ bit_or got (single k) → Gathered s t left' got'
  gather-take {got'} e f =
      let with-bit : (j : ℕ) → bit got' j ≡ max (bit got j) (bit (single k) j) = λ j. ap (λ (x : ℕ). bit x j) f ∙ bit-or got (single k) j in
      turned got' (λ j q. omega (arith, with-bit j, bit-single-other k j q))
      (omega (arith, with-bit k, bit-single-same k (walk-room turn g.small), g.each k, walk-has turn g.small))

  -- it does not, and is passed over
  pub gather-skip : {got' : ℕ} → t k ≡ 0 → got' ≡ got → Gathered s t left' got'
  gather-skip {got'} e f =
      turned got' (λ j q. ap (λ (x : ℕ). bit x j) f) (omega (arith, ap (λ (x : ℕ). bit x k) f, g.each k))

-- at the end the members that pass are gathered
pub gather-end : {s : ℕ} {t : ℕ → ℕ} {left got : ℕ} → Gathered s t left got → Empty left → (j : ℕ) → bit got j ≡ min (bit s j) (t j)
gather-end {left = left} g f j = omega (arith, g.each j, not-has left j (f j))

-- the same of members
pub gathered : {s : ℕ} {t : ℕ → ℕ} {left got : ℕ} → Gathered s t left got → Empty left
    → (j : ℕ) → t j ≤ 1 → Has got j ↔ (Has s j × (t j ≡ 1))
gathered g f j l = (λ h. omega (arith, gather-end g f j), λ h. omega (arith, gather-end g f j))

-- ---- showing

-- each member of s is still left, or has the property
pub record Shown (s : ℕ) (P : ℕ → Type 0) (left : ℕ) : Type 0 where
  pub small : left < 2 ^ width
  pub each : (j : ℕ) → Has s j → Has left j ⊎ P j

-- at the start every member is left
pub show-start : (s : ℕ) (P : ℕ → Type 0) → s < 2 ^ width → Shown s P s
show-start s P h = record { small = h; each = λ j m. inl m }

-- the stage of a turn has it
pub show-turn : {s : ℕ} {P : ℕ → Type 0} {left k left' : ℕ} → Shown s P left → Turn left k left' → P k → Shown s P left'
show-turn {P = P} {k = k} g turn p = record {
  small = walk-small turn g.small;
  each = λ j m. ⊎_elim
      (λ l. ⊎_elim (λ q. inr (subst P (sym q) p)) (λ q. inl (walk-other turn g.small j q ∙ l)) (same? j k))
      inr
      (g.each j m);
}

-- at the end every member has it
pub show-end : {s : ℕ} {P : ℕ → Type 0} {left : ℕ} → Shown s P left → Empty left → (j : ℕ) → Has s j → P j
show-end g f j m = ⊎_elim (λ l. absurd (f j l)) (λ p. p) (g.each j m)
