-- When 22, 23, 24 and 25 are given to the steps of a certificate, and with which place: exactly under the conditions of `Refusals`. Nothing is
-- refused exactly when the steps are those of a derivation. The place is 8, after the header; it may be any within the bytes.
use Prim.Native.Nat.{ℕ, ◌≤◌}
use native.Mathlib.Nat.{le_of_lt}
use native.Mathlib.Omega.{arith}
use mathlib.Core.Path.{◌≡◌, refl, sym, ap, ◌∙◌}
use mathlib.Core.Bool.{Bool, true, false}
use mathlib.Core.Logic.{◌↔◌}
use mathlib.Core.List.{List}
use lib.Dec.{eqb}
use lib.ListN.{length}
use borrow.Author.Tests.{eq-eqb, ne_eqb, eqb-true, eqb-false}
use Rattle.model.specs.Graph.{Graph, Readable}
use Rattle.rules.specs.Shape.{Entry}
use Rattle.rules.specs.Reading.{read_formula, Progress}
use Rattle.rules.specs.Refusals.{accepted, refused, at_end, answer, Given22, Given23, Given24, Given25, Proves}
use Rattle.std.specs.Prelude.{Ok, Err}
use Rattle.rules.specs.declared.Stop.{Stop}
use Rattle.rules.proofs.Rows.{inside}
use Rattle.rules.proofs.Accepted.{read-to-end}
use Rattle.rules.proofs.HandFaults.{began, breaks-when}

-- Refusals that are equal have one number and one place.
same : {n m p q : ℕ} → refused n p ≡ refused m q → (n ≡ m) × (p ≡ q)
same e = (cc, cc)

-- For which answers of the reading each number is given.
module _ (bytes : List ℕ) where
  at-end : (b : Bool) (at : ℕ) {n place : ℕ} → at_end b at ≡ refused n place → (b ≡ false) × (n ≡ 25) × (at ≡ place)
  at-end true at e = absurd (let z : ◌≡◌ {A = ℕ} 0 1 = cc in omega arith)
  at-end false at e = (refl, cc, cc)

  at-end-so : (b : Bool) (at : ℕ) → at_end b at ≡ accepted → b ≡ true
  at-end-so true at e = refl
  at-end-so false at e = absurd (let z : ◌≡◌ {A = ℕ} 0 1 = cc in omega arith)

  is-22 : (p : Progress) {place : ℕ} → answer bytes p ≡ refused 22 place → (p ≡ Err Stop.Missing) × (place ≡ length bytes)
  is-22 (Ok at) e = absurd (omega (arith, (at-end (eqb at (length bytes)) at e).1))
  is-22 (Err Stop.Missing) e = (refl, sym (same e).1)
  is-22 (Err (Stop.Wrong at)) e = absurd (omega (arith, (same e).0))
  is-22 (Err (Stop.Fails at)) e = absurd (omega (arith, (same e).0))

  is-23 : (p : Progress) {place : ℕ} → answer bytes p ≡ refused 23 place → p ≡ Err (Stop.Wrong place)
  is-23 (Ok at) e = absurd (omega (arith, (at-end (eqb at (length bytes)) at e).1))
  is-23 (Err Stop.Missing) e = absurd (omega (arith, (same e).0))
  is-23 (Err (Stop.Wrong at)) e = ap (λ (p : ℕ). Err (Stop.Wrong p)) (same e).1
  is-23 (Err (Stop.Fails at)) e = absurd (omega (arith, (same e).0))

  is-24 : (p : Progress) {place : ℕ} → answer bytes p ≡ refused 24 place → p ≡ Err (Stop.Fails place)
  is-24 (Ok at) e = absurd (omega (arith, (at-end (eqb at (length bytes)) at e).1))
  is-24 (Err Stop.Missing) e = absurd (omega (arith, (same e).0))
  is-24 (Err (Stop.Wrong at)) e = absurd (omega (arith, (same e).0))
  is-24 (Err (Stop.Fails at)) e = ap (λ (p : ℕ). Err (Stop.Fails p)) (same e).1

  is-25 : (p : Progress) {place : ℕ} → answer bytes p ≡ refused 25 place → (p ≡ Ok place) × (place ≡ length bytes → ⊥)
  is-25 (Ok at) {place} e =
      let h = at-end (eqb at (length bytes)) at e in
      (ap Ok h.2, λ f. eqb-false at (length bytes) h.0 (h.2 ∙ f))
  is-25 (Err Stop.Missing) e = absurd (omega (arith, (same e).0))
  is-25 (Err (Stop.Wrong at)) e = absurd (omega (arith, (same e).0))
  is-25 (Err (Stop.Fails at)) e = absurd (omega (arith, (same e).0))

  is-accepted : (p : Progress) → answer bytes p ≡ accepted → p ≡ Ok (length bytes)
  is-accepted (Ok at) e = ap Ok (eqb-true at (length bytes) (at-end-so (eqb at (length bytes)) at e))
  is-accepted (Err Stop.Missing) e = absurd (let z : ◌≡◌ {A = ℕ} 0 1 = cc in omega arith)
  is-accepted (Err (Stop.Wrong at)) e = absurd (let z : ◌≡◌ {A = ℕ} 0 1 = cc in omega arith)
  is-accepted (Err (Stop.Fails at)) e = absurd (let z : ◌≡◌ {A = ℕ} 0 1 = cc in omega arith)

module _ {room : ℕ} {G : Graph} (R : Readable G) (small : G.stages ≤ room) (bytes : List ℕ) (f : Entry) (at : ℕ) where
  -- the reading, and the answer to it
  abbrev reading : Progress
  reading = read_formula room G bytes f.formula f.env at

  pub given-22 : (place : ℕ) → (answer bytes reading ≡ refused 22 place) ↔ Given22 G bytes f at place
  given-22 place = (
    λ e. let h = is-22 bytes reading e in ((breaks-when R small bytes f at (Err Stop.Missing) tt).0 h.0, h.1),
    λ k. rw ((breaks-when R small bytes f at (Err Stop.Missing) tt).1 k.0) (ap (refused 22) (sym k.1)),
  )

  pub given-23 : (place : ℕ) → (answer bytes reading ≡ refused 23 place) ↔ Given23 G bytes f at place
  given-23 place = (
    λ e. let k = (breaks-when R small bytes f at (Err (Stop.Wrong place)) tt).0 (is-23 bytes reading e) in (k.0, k.1, k.2.0, k.2.1),
    λ k. rw ((breaks-when R small bytes f at (Err (Stop.Wrong place)) tt).1 (k.0, k.1, (k.2, k.3))),
  )

  pub given-24 : (place : ℕ) → (answer bytes reading ≡ refused 24 place) ↔ Given24 G bytes f at place
  given-24 place = (
    λ e. let k = (breaks-when R small bytes f at (Err (Stop.Fails place)) tt).0 (is-24 bytes reading e) in (k.0, k.1, k.2.0, k.2.1),
    λ k. rw ((breaks-when R small bytes f at (Err (Stop.Fails place)) tt).1 (k.0, k.1, (k.2, k.3))),
  )

  pub given-25 : (place : ℕ) → (answer bytes reading ≡ refused 25 place) ↔ Given25 G bytes f at place
  given-25 place = (
    λ e.
        let h = is-25 bytes reading e in
        let d = (read-to-end R small f.formula f.env bytes at place).0 h.0 in
        let i = inside d.1 (le_of_lt (began R small bytes f at h.0)) in
        let n = h.1 in
        (d.0, d.1, omega arith),
    λ d. rw ((read-to-end R small f.formula f.env bytes at place).1 (d.0, d.1), ne_eqb place (length bytes) (λ e. omega (arith, d.2))),
  )

  pub given-none : (answer bytes reading ≡ accepted) ↔ Proves G bytes f at
  given-none = (
    λ e. (read-to-end R small f.formula f.env bytes at (length bytes)).0 (is-accepted bytes reading e),
    λ d. rw ((read-to-end R small f.formula f.env bytes at (length bytes)).1 d, eq-eqb (length bytes) (length bytes) refl),
  )
