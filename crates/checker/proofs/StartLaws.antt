-- The stage at which a walk starts, by an entry's kind and term.
use Prim.Native.Nat.{ℕ, ◌≤◌, ◌<◌}
use mathlib.Core.Path.{◌≡◌, sym, ap, ◌∙◌}
use mathlib.Core.Bool.{Bool}
use borrow.Author.Tests.{lt-ltb, le-ltb}
use Rattle.model.specs.Formula.{Env, pick, value}
use Rattle.format.specs.Table.{term_of}
use Rattle.checker.specs.Reading.{Started}

-- A formula that is no modality has no term.
pub starts_none : (kind t : ℕ) (env : Env) → kind < 6 → Started kind t env 0
starts_none kind t env h = record { is = sym (ap (λ (b : Bool). pick b 0 (value env (term_of t))) (lt-ltb kind 6 h)) }

-- A modality's walk starts at its term.
pub starts-term : (kind t : ℕ) (env : Env) {u s : ℕ} → 6 ≤ kind → u ≡ t → s ≡ value env (term_of u) → Started kind t env s
starts-term kind t env h u-is s-is = record {
  is = s-is ∙ ap (λ (v : ℕ). value env (term_of v)) u-is ∙ sym (ap (λ (b : Bool). pick b 0 (value env (term_of t))) (le-ltb kind 6 h));
}
