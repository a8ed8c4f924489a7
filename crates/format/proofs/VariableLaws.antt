-- The free variables of a formula as a set: which variables are in the sets that the code makes of terms, atoms and entries. Over plain
-- values.
-- Assumes nothing.
use Prim.Native.Nat.{ℕ, ◌-◌, ◌≤◌, ◌<◌}
use native.Mathlib.Omega.{arith}
use mathlib.Core.Path.{◌≡◌, sym, ◌∙◌, subst}
use mathlib.Core.List.{List}
use mathlib.Core.Logic.Iff
use mathlib.Core.Logic.{◌⊎◌, inl, inr, ⊎_elim, ◌↔◌}
use lib.Bits.{bit_and, bit_or}
use Rattle.model.specs.Formula.{Term, Atom, Formula, Under, Free}
use Rattle.sets.specs.Member.{Has}
use Rattle.sets.specs.Number.{width, single}
use Rattle.sets.proofs.LawsMember.{has-or, has-single, has-without, empty-zero}
use Rattle.format.specs.Image.{arity_of}
use Rattle.format.specs.Table.{term_of, atom_of, nth, trees, tree_of}
use Rattle.format.specs.Reading.{Variables, Named, NamedInAtom}
use Rattle.format.specs.declared.record.Record.{Record}
use Rattle.format.specs.declared.record.Sort.{Sort}
use Rattle.format.proofs.TreeLaws.{term-stage, term-variable, atom-one, atom-two, Row, tree-of-row, tree-at, tree-past, FreeAs, free-made}

-- The set s has the variables with a property, of those that there is room for.
abbrev pub Members : (ℕ → Type 0) → ℕ → Type 0
Members P s = (v : ℕ) → v < width → Has s v ↔ P v

-- ---- the sets that the code makes

-- The empty set has none.
pub members-none : {s : ℕ} → s ≡ 0 → Members (λ v. ⊥) s
members-none {s} e v h = ((empty-zero s).1 e v, λ a. absurd a)

-- The set of x alone has x.
pub members_only : {s : ℕ} (x : ℕ) → s ≡ single x → Members (λ v. v ≡ x) s
members_only x e v h = rw e (λ m. ((has-single x v).0 m).0, λ d. (has-single x v).1 (d, omega arith))

-- A union has those of both sets.
pub members-union : {A B : ℕ → Type 0} {s : ℕ} (a b : ℕ) → s ≡ bit_or a b → Members A a → Members B b → Members (λ v. A v ⊎ B v) s
members-union a b e f g v h =
    rw e (
      λ m. ⊎_elim (λ p. inl ((f v h).0 p)) (λ p. inr ((g v h).0 p)) ((has-or a b v).0 m),
      λ p. (has-or a b v).1 (⊎_elim (λ q. inl ((f v h).1 q)) (λ q. inr ((g v h).1 q)) p),
    )

-- A set less x has those that are free under a binding of x.
pub members-without : {A : ℕ → Type 0} {s : ℕ} (a x : ℕ) → s ≡ a - bit_and a (single x) → Members A a → Members (λ v. Under v x (A v)) s
members-without a x e f v h =
    rw e (
      λ m. let p = (has-without a x v).0 m in (λ d. p.1 (d, omega arith), (f v h).0 p.0),
      λ p. (has-without a x v).1 ((f v h).1 p.1, λ d. p.0 d.0),
    )

-- ---- terms and atoms

-- A stage names no variable.
pub named-stage : {t s : ℕ} → t < 64 → s ≡ 0 → Named (term_of t) s
named-stage {t} {s} h e = subst (λ (u : Term). Named u s) (sym (term-stage t h)) (members-none e)

-- A variable names itself.
pub named-variable : {t s : ℕ} → 64 ≤ t → s ≡ single (t - 64) → Named (term_of t) s
named-variable {t} {s} h e = subst (λ (u : Term). Named u s) (sym (term-variable t h)) (members_only (t - 64) e)

-- An atom of arity 2 names the variables of both terms.
pub named-two : (image : List ℕ) (r : Record) {arity s : ℕ} (a b : ℕ) → arity ≡ arity_of image r.a → arity ≡ 2
    → s ≡ bit_or a b → Named (term_of r.t) a → Named (term_of r.b) b → NamedInAtom (atom_of image r) s
named-two image r {s = s} a b d h e f g =
    subst (λ (q : Atom). NamedInAtom q s) (sym (atom-two image r (sym d ∙ h))) (members-union a b e f g)

-- An atom of another arity names that of the first term.
pub named-one : (image : List ℕ) (r : Record) {arity : ℕ} (s : ℕ) → arity ≡ arity_of image r.a → (arity ≡ 2 → ⊥)
    → Named (term_of r.t) s → NamedInAtom (atom_of image r) s
named-one image r s d h f = subst (λ (q : Atom). NamedInAtom q s) (sym (atom-one image r (λ e. h (d ∙ e)))) f

-- ---- entries

-- The free variables of an entry are those that its row says.
pub free-row : (image : List ℕ) {table : List ℕ} {e : ℕ} {r : Record} {s : Sort} (n : ℕ) → Row table e r s
    → Members (λ v. FreeAs s image r v (Free v (nth (trees image table e) r.a)) (Free v (nth (trees image table e) r.b))) n
    → Variables (tree_of image table e) n
free-row image {table} {e} {r} n row f =
    subst (λ (t : Formula). Variables t n) (sym (tree-of-row image row))
    (λ v h. Iff.trans (f v h) (Iff.symm (free-made image (nth (trees image table e)) r row.sort v)))

-- Those of an operand are those of the entry of its number.
pub free-lower : (image table : List ℕ) (e o n : ℕ) → o < e → Variables (tree_of image table o) n → Variables (nth (trees image table e) o) n
free-lower image table e o n h f = subst (λ (t : Formula). Variables t n) (sym (tree-at image table e o h)) f

-- An operand that is no lower entry has none.
pub free-past : (image table : List ℕ) (e o : ℕ) {n : ℕ} → e ≤ o → n ≡ 0 → Variables (nth (trees image table e) o) n
free-past image table e o {n} h f = subst (λ (t : Formula). Variables t n) (sym (tree-past image table e o h)) (members-none f)
