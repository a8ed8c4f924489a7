-- The records' rules: what a term is not, an entry past the table's end, numbers above 11, and a record by the row of its kind.
use Prim.Native.Nat.{ℕ, ◌+◌, ◌*◌, ◌/◌, ◌≤◌, ◌<◌}
use native.Mathlib.Omega.{arith}
use mathlib.Core.Path.{◌≡◌, sym, subst, subst⁻¹}
use mathlib.Core.Bool.{Bool, true, false}
use mathlib.Core.List.{List}
use lib.ListN.{length, get_or-eq_default}
use Rattle.std.specs.Prelude.{None, IsSome}
use Rattle.std.proofs.lemmas.Option.{slice_get_past}
use Rattle.model.specs.Decides.{Decides}
use Rattle.format.specs.Bytes.{byte_at}
use Rattle.format.specs.Table.{IsTerm, a_stage, a_variable, SecondTerm, unused, used}
use Rattle.format.specs.Table.{record_at, kinds, kind_with, kind_of, sort_of, RuledAs, Ruled}
use Rattle.format.specs.declared.record.Record.{Record}
use Rattle.format.specs.declared.record.Sort.{Sort}
use Rattle.format.specs.declared.record.Kind.{Kind}

-- No term lies from n up to 63, and none above 67.
pub no-term-between : {n t : ℕ} → n ≤ t → t < 64 → IsTerm n t → ⊥
no-term-between h g (a_stage p) = omega arith
no-term-between h g (a_variable p q) = omega arith

pub no-term-above : {n t : ℕ} → n ≤ t → 67 < t → IsTerm n t → ⊥
no-term-above h g (a_stage p) = omega arith
no-term-above h g (a_variable p q) = omega arith

-- The second term of an atom of another arity than 2 is 0; that of arity 2 is a term.
pub second-unused : {n arity b : ℕ} → (arity ≡ 2 → ⊥) → SecondTerm n arity b → b ≡ 0
second-unused f (unused g e) = e
second-unused f (used e t) = absurd (f e)

pub second-used : {n arity b : ℕ} → arity ≡ 2 → SecondTerm n arity b → IsTerm n b
second-used e (unused g d) = absurd (g e)
second-used e (used d t) = t

-- A byte past the end counts as 0.
past : (table : List ℕ) (i : ℕ) → length table ≤ i → 0 ≡ byte_at table i
past table i h = sym (get_or-eq_default table 0 h)

-- The record of an entry that the table ends before is all 0.
pub entry_past : (table : List ℕ) (e : ℕ) → length table / 6 < e → record { kind = 0; a = 0; b = 0; x = 0; y = 0; t = 0 } ≡ record_at table e
entry_past table e h =
    λ i.
    record {
      kind = past table (6 + 6 * e) (omega arith) i;
      a = past table (7 + 6 * e) (omega arith) i;
      b = past table (8 + 6 * e) (omega arith) i;
      x = past table (9 + 6 * e) (omega arith) i;
      y = past table (10 + 6 * e) (omega arith) i;
      t = past table (11 + 6 * e) (omega arith) i;
    }

-- A number above 11 is no kind.
pub no_kind : (k : ℕ) → 12 ≤ k → None ≡ kind_with k
no_kind k h = sym (slice_get_past kinds k h)

-- What the rules of a record's row decide, they decide of the record: from the kind and the row as the code found them.
pub by_row : (row : Sort) (image : List ℕ) (e : ℕ) (r : Record) (ok : Bool) (kind : Kind) (found : Sort) → IsSome (kind_with r.kind)
    → kind ≡ kind_of r.kind → found ≡ sort_of kind → found ≡ row → Decides ok (RuledAs row image e r) → Decides ok (Ruled image e r)
by_row row image e r true kind found known kind-is found-is is d =
    let same : sort_of (kind_of r.kind) ≡ row = cc in
    record { known = known; keeps = subst⁻¹ (λ (s : Sort). RuledAs s image e r) same d }
by_row row image e r false kind found known kind-is found-is is d =
    let same : sort_of (kind_of r.kind) ≡ row = cc in
    λ p. d (subst (λ (s : Sort). RuledAs s image e r) same p.keeps)
