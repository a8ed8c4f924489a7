-- `any` and `all` over a range of numbers: what they answer, from what their closure says of each number.
use Prim.Native.Nat.{ℕ, ◌+◌, ◌-◌, ◌≤◌, ◌<◌}
use native.Mathlib.Omega.{arith}
use mathlib.Core.Path.{◌≡◌, refl, subst, ◌∙◌}
use mathlib.Core.Bool.{Bool, true, false}
use mathlib.Core.List.{List}
use lib.ListN.{length, get_or}
use denote.Param.Members.{Mut}
use Rattle.std.specs.Bool.{MatchBool}
use Rattle.std.specs.Fn.{Called}
use Rattle.std.specs.Iterator.{YieldsThen}
use Rattle.std.specs.List.{FoldsTo, HoldsAt, AllWithin, range_with_len}
use Rattle.std.specs.Option.{MatchOption}
use Rattle.std.specs.Prelude.{Option}
use Rattle.std.specs.declared.ops.Range.{Range}
use Rattle.std.proofs.iter.Yields.{nat_range_steps}
use Rattle.std.proofs.lemmas.Iterator.{YieldsList-from_range, cases_from_all, cases_from_any}
use Rattle.std.proofs.lemmas.List.FromFn.{length-range_with_len, get_or-range_with_len}
use Rattle.model.specs.Decides.{Decides}

module _ (a b : ℕ) (Q : ℕ → Type 0) where
  abbrev numbers : List ℕ
  numbers = range_with_len a (b - a)

  abbrev Some : Type 0
  Some = (i : ℕ) × (i < length numbers) × HoldsAt Q numbers i

  abbrev Each : Type 0
  Each = AllWithin Q numbers 0 (length numbers)

  -- What some number of the list has, some number of the range has; and what each has, each has.
  some-number : {P : Type 0} → ((k : ℕ) → a ≤ k → k < b → Q k → P) → Some → P
  some-number f w =
      let i : w.0 < b - a = omega (arith, w.1, length-range_with_len a (b - a)) in
      f (a + w.0) (omega arith) (omega arith) (subst Q (get_or-range_with_len a (b - a) w.0 0 i) (w.2 0))

  each-number : Each → (k : ℕ) → a ≤ k → k < b → Q k
  each-number w k low high =
      let same : get_or numbers (k - a) 0 ≡ k = get_or-range_with_len a (b - a) (k - a) 0 (omega arith) ∙ omega arith in
      subst Q same (w (k - a) 0 (omega arith) (omega (arith, length-range_with_len a (b - a))))

module _ {F : Type 0} {g : Mut F (ℕ × Unit {0}) Bool} {f : F} {r : Bool} {P : Type 0} (u : Range ℕ) (a b : ℕ) (Yes No : ℕ → Type 0) where
  -- `any` decides that some number from a to below b is one for which the closure answers true.
  pub any-range : (xs : List ℕ) × (o : Option ℕ) × (j : F) × YieldsThen nat_range_steps (record { start = a; end = b }) xs o u
      × FoldsTo (λ p x q. Called g p (x, tt) false q) f xs j
      × MatchOption o (r ≡ false) (λ x. (r ≡ true) × ((h : F) × Called g j (x, tt) true h))
      → ((x : ℕ) (q : F) → Called g f (x, tt) true q → Yes x)
      → ((x : ℕ) (q : F) → Called g f (x, tt) false q → (q ≡ f) × No x)
      → ((k : ℕ) → a ≤ k → k < b → Yes k → P)
      → (((k : ℕ) → a ≤ k → k < b → No k) → P → ⊥)
      → Decides r P
  any-range ran at-true at-false some none =
      go r (cases_from_any u f r Yes No ran (YieldsList-from_range a b (b - a) refl refl) at-true at-false)
    where
      go : (r : Bool) → MatchBool r (Some a b Yes) (Each a b No) → Decides r P
      go true w = some-number a b Yes some w
      go false w = none (each-number a b No w)

  -- `all` decides that each is.
  pub all-range : (xs : List ℕ) × (o : Option ℕ) × (j : F) × YieldsThen nat_range_steps (record { start = a; end = b }) xs o u
      × FoldsTo (λ p x q. Called g p (x, tt) true q) f xs j
      × MatchOption o (r ≡ true) (λ x. (r ≡ false) × ((h : F) × Called g j (x, tt) false h))
      → ((x : ℕ) (q : F) → Called g f (x, tt) true q → (q ≡ f) × Yes x)
      → ((x : ℕ) (q : F) → Called g f (x, tt) false q → No x)
      → (((k : ℕ) → a ≤ k → k < b → Yes k) → P)
      → ((k : ℕ) → a ≤ k → k < b → No k → P → ⊥)
      → Decides r P
  all-range ran at-true at-false each none =
      go r (cases_from_all u f r Yes No ran (YieldsList-from_range a b (b - a) refl refl) at-true at-false)
    where
      go : (r : Bool) → MatchBool r (Each a b Yes) (Some a b No) → Decides r P
      go true w = each (each-number a b Yes w)
      go false w = some-number a b No none w
