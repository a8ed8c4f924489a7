-- The trees of a formula table, one for each entry: an operand's tree is that of its own number. And the formula of a record by the row of
-- its kind: how deep it nests, which variables are free in it, which stages it names. Over plain values.
-- Assumes nothing.
use Prim.Native.Nat.{ℕ, zero, suc, max, ◌+◌, ◌-◌, ◌≤◌, ◌<◌}
use native.Mathlib.Omega.{arith}
use mathlib.Core.Path.{◌≡◌, refl, sym, ap, ◌∙◌, subst}
use mathlib.Core.Bool.{Bool, true, false}
use mathlib.Core.List.{List, []}
use mathlib.Core.Logic.Iff
use mathlib.Core.Logic.{◌⊎◌, ⊎_elim, ◌↔◌}
use lib.ListN.{length, length-append, get_or-append, get_or-eq_default}
use lib.Seq.{get_or_at}
use lib.Dec.{eqb, ltb}
use borrow.Author.Tests.{lt-ltb, le-ltb, eq-eqb, ne_eqb}
use Rattle.model.specs.Formula.{stage, variable, one, two, Formula, falsity, nesting, Names, FreeInAtom, Under, Free, TermBelow, AtomBelow, Below}
use Rattle.sets.proofs.LawsMember.{side?}
use Rattle.format.specs.Image.{arity_of}
use Rattle.format.specs.Table.{record_at, kind_of, sort_of, pick_term, term_of, pick_atom, atom_of, made_as, made, nth, trees, tree_of}
use Rattle.format.specs.Reading.{Nested, NestedBelow}
use Rattle.format.specs.declared.record.Record.{Record}
use Rattle.format.specs.declared.record.Kind.{Kind}
use Rattle.format.specs.declared.record.Kind.TheVariants as K
use Rattle.format.specs.declared.record.Sort.{Sort}
use Rattle.format.specs.declared.record.Sort.TheVariants as S

-- ---- the list of trees

module _ (image table : List ℕ) where
  -- The first e entries have e trees.
  pub trees-length : (e : ℕ) → length (trees image table e) ≡ e
  unfolding trees
  trees-length zero = refl
  trees-length (suc e) = length-append (trees image table e) _ ∙ omega (arith, trees-length e)

  -- An entry's tree is made from its record and the trees before it.
  pub tree-made : (e : ℕ) → tree_of image table e ≡ made image (λ i. nth (trees image table e) i) (record_at table e)
  unfolding trees
  tree-made e = get_or_at (trees image table e) _ [] falsity e (trees-length e)

  -- Among the trees of the first e entries, that of each stands at its number.
  pub tree-at : (e i : ℕ) → i < e → nth (trees image table e) i ≡ tree_of image table i
  unfolding trees
  tree-at zero i h = absurd (omega arith)
  tree-at (suc e) i h =
      ⊎_elim
      (λ l. get_or-append (trees image table e) _ falsity i (omega (arith, trees-length e)) ∙ tree-at e i l)
      (λ l. let same : e ≡ i = omega arith in ap (λ (j : ℕ). nth (trees image table (suc j)) i) same)
      (side? i e)

  -- At a number that none of them has stands falsity.
  pub tree-past : (e i : ℕ) → e ≤ i → nth (trees image table e) i ≡ falsity
  tree-past e i h = get_or-eq_default (trees image table e) falsity (omega (arith, trees-length e))

  module _ (P : Formula → Type 0) (m : ℕ)
      (step : (e : ℕ) → e < m → ((i : ℕ) → i < e → P (nth (trees image table e) i))
      → P (made image (λ i. nth (trees image table e) i) (record_at table e))) where
    each-upto : (e : ℕ) → e ≤ m → (i : ℕ) → i < e → P (tree_of image table i)
    each-upto zero h i l = absurd (omega arith)
    each-upto (suc e) h i l =
        let before = each-upto e (omega arith) in
        let here = subst P (sym (tree-made e)) (step e h (λ j k. subst P (sym (tree-at e j k)) (before j k))) in
        ⊎_elim (before i) (λ g. subst (λ (j : ℕ). P (tree_of image table j)) (omega arith) here) (side? i e)

    -- What an entry of the first m has where its lower entries have it, each of them has.
    pub tree-each : (e : ℕ) → e < m → P (tree_of image table e)
    tree-each = each-upto m (omega arith)

-- ---- terms and atoms

term-by : (t : ℕ) (b : Bool) → ltb t 64 ≡ b → term_of t ≡ pick_term b (stage t) (variable (t - 64))
term-by t b e = ap (λ (b : Bool). pick_term b (stage t) (variable (t - 64))) e

-- A number below 64 is a stage.
pub term-stage : (t : ℕ) → t < 64 → term_of t ≡ stage t
term-stage t h = term-by t true (lt-ltb t 64 h)

-- A number from 64 on is a variable.
pub term-variable : (t : ℕ) → 64 ≤ t → term_of t ≡ variable (t - 64)
term-variable t h = term-by t false (le-ltb t 64 h)

module _ (image : List ℕ) (r : Record) where
  atom-by : (b : Bool) → eqb (arity_of image r.a) 2 ≡ b
      → atom_of image r ≡ pick_atom b (two r.a (term_of r.t) (term_of r.b)) (one r.a (term_of r.t))
  atom-by b e = ap (λ (b : Bool). pick_atom b (two r.a (term_of r.t) (term_of r.b)) (one r.a (term_of r.t))) e

  -- An atom has two terms where the arity is 2.
  pub atom-two : arity_of image r.a ≡ 2 → atom_of image r ≡ two r.a (term_of r.t) (term_of r.b)
  atom-two e = atom-by true (eq-eqb (arity_of image r.a) 2 e)

  -- Where it is another it has one.
  pub atom-one : (arity_of image r.a ≡ 2 → ⊥) → atom_of image r ≡ one r.a (term_of r.t)
  atom-one f = atom-by false (ne_eqb (arity_of image r.a) 2 f)

-- ---- records, by the row of their kind

-- How deep a row's formula nests, from how deep its operands do.
abbrev pub nesting_as : Sort → ℕ → ℕ → ℕ
nesting_as S.Constant a b = 0
nesting_as S.Atom a b = 0
nesting_as S.Junction a b = max a b
nesting_as S.Unary a b = suc a
nesting_as S.Binary a b = suc (max a b)

-- When v is free in it: A and B say when v is in the operands.
abbrev pub FreeAs : Sort → List ℕ → Record → ℕ → Type 0 → Type 0 → Type 0
FreeAs S.Constant image r v A B = ⊥
FreeAs S.Atom image r v A B = FreeInAtom v (atom_of image r)
FreeAs S.Junction image r v A B = A ⊎ B
FreeAs S.Unary image r v A B = Names v (term_of r.t) ⊎ Under v r.x A
FreeAs S.Binary image r v A B = Names v (term_of r.t) ⊎ (Under v r.x A ⊎ Under v r.y B)

-- When every stage that it names is below n: A and B say when those of the operands are.
abbrev pub BelowAs : Sort → List ℕ → Record → ℕ → Type 0 → Type 0 → Type 0
BelowAs S.Constant image r n A B = Unit {0}
BelowAs S.Atom image r n A B = AtomBelow n (atom_of image r)
BelowAs S.Junction image r n A B = A × B
BelowAs S.Unary image r n A B = TermBelow n (term_of r.t) × A
BelowAs S.Binary image r n A B = TermBelow n (term_of r.t) × A × B

-- Each kind is as its row says, and so is a record whose kind's row is known.
module _ (image : List ℕ) (tree : ℕ → Formula) (r : Record) where
  nesting-kind : (k : Kind) → nesting (made_as k image tree r) ≡ nesting_as (sort_of k) (nesting (tree r.a)) (nesting (tree r.b))
  nesting-kind K.True = refl
  nesting-kind K.False = refl
  nesting-kind K.Is = refl
  nesting-kind K.IsNot = refl
  nesting-kind K.And = refl
  nesting-kind K.Or = refl
  nesting-kind K.AX = refl
  nesting-kind K.EX = refl
  nesting-kind K.AF = refl
  nesting-kind K.EG = refl
  nesting-kind K.AR = refl
  nesting-kind K.EU = refl

  free-kind : (v : ℕ) (k : Kind) → Free v (made_as k image tree r) ↔ FreeAs (sort_of k) image r v (Free v (tree r.a)) (Free v (tree r.b))
  free-kind v K.True = Iff.rfl
  free-kind v K.False = Iff.rfl
  free-kind v K.Is = Iff.rfl
  free-kind v K.IsNot = Iff.rfl
  free-kind v K.And = Iff.rfl
  free-kind v K.Or = Iff.rfl
  free-kind v K.AX = Iff.rfl
  free-kind v K.EX = Iff.rfl
  free-kind v K.AF = Iff.rfl
  free-kind v K.EG = Iff.rfl
  free-kind v K.AR = Iff.rfl
  free-kind v K.EU = Iff.rfl

  below-kind : (n : ℕ) (k : Kind) → Below n (made_as k image tree r) ↔ BelowAs (sort_of k) image r n (Below n (tree r.a)) (Below n (tree r.b))
  below-kind n K.True = Iff.rfl
  below-kind n K.False = Iff.rfl
  below-kind n K.Is = Iff.rfl
  below-kind n K.IsNot = Iff.rfl
  below-kind n K.And = Iff.rfl
  below-kind n K.Or = Iff.rfl
  below-kind n K.AX = Iff.rfl
  below-kind n K.EX = Iff.rfl
  below-kind n K.AF = Iff.rfl
  below-kind n K.EG = Iff.rfl
  below-kind n K.AR = Iff.rfl
  below-kind n K.EU = Iff.rfl

  module _ {s : Sort} (row : sort_of (kind_of r.kind) ≡ s) where
    -- A record's formula nests as deep as its row says.
    pub nesting-made : nesting (made image tree r) ≡ nesting_as s (nesting (tree r.a)) (nesting (tree r.b))
    nesting-made = nesting-kind (kind_of r.kind) ∙ ap (λ (s : Sort). nesting_as s (nesting (tree r.a)) (nesting (tree r.b))) row

    -- The variables that its row says are free in it.
    pub free-made : (v : ℕ) → Free v (made image tree r) ↔ FreeAs s image r v (Free v (tree r.a)) (Free v (tree r.b))
    free-made v =
        subst (λ (s : Sort). Free v (made image tree r) ↔ FreeAs s image r v (Free v (tree r.a)) (Free v (tree r.b))) row
        (free-kind v (kind_of r.kind))

    -- The stages that it names are below n when its row says so.
    pub below-made : (n : ℕ) → Below n (made image tree r) ↔ BelowAs s image r n (Below n (tree r.a)) (Below n (tree r.b))
    below-made n =
        subst (λ (s : Sort). Below n (made image tree r) ↔ BelowAs s image r n (Below n (tree r.a)) (Below n (tree r.b))) row
        (below-kind n (kind_of r.kind))

-- ---- an entry in an arm of the code's `match` on rows

-- r is the record of entry e, and its kind stands in the row s.
pub record Row (table : List ℕ) (e : ℕ) (r : Record) (s : Sort) : Type 0 where
  pub entry : r ≡ record_at table e
  pub sort : sort_of (kind_of r.kind) ≡ s

-- That is what `entry`, `kind_of` and `sort_of` say of their results r, k and s, and the arm of s.
pub row : {table : List ℕ} {e : ℕ} {r : Record} {k : Kind} {s arm : Sort}
    → r ≡ record_at table e → k ≡ kind_of r.kind → s ≡ sort_of k → s ≡ arm → Row table e r arm
row r-is k-is s-is arm_is_lem = record { entry = r-is; sort = ap sort_of (sym k-is) ∙ sym s-is ∙ arm_is_lem }

-- The entry's tree is made from the record that the code has.
pub tree-of-row : (image : List ℕ) {table : List ℕ} {e : ℕ} {r : Record} {s : Sort}
    → Row table e r s → tree_of image table e ≡ made image (λ i. nth (trees image table e) i) r
tree-of-row image {table} {e} h =
    tree-made image table e ∙ ap (made image (λ i. nth (trees image table e) i)) (sym h.entry)

-- ---- how deep an entry nests

-- An entry nests as deep as its row says.
pub nested-row : {table : List ℕ} {e : ℕ} {r : Record} {s : Sort} {x : ℕ} → Row table e r s
    → ((image : List ℕ) → x ≡ nesting_as s (nesting (nth (trees image table e) r.a)) (nesting (nth (trees image table e) r.b)))
    → x ≤ e + 1 → Nested table e x
nested-row {table} {e} {r} h x-is most = record {
  is = λ image. x-is image ∙ sym (ap nesting (tree-of-row image h) ∙ nesting-made image (nth (trees image table e)) r h.sort);
  most = most;
}

-- An operand nests as deep as the entry of its number.
pub nested-lower : {table : List ℕ} {e o x : ℕ} → o < e → Nested table o x → NestedBelow table e o x
nested-lower {table} {e} {o} h f = record {
  is = λ image. f.is image ∙ ap nesting (sym (tree-at image table e o h));
  most = omega (arith, f.most);
}

-- One that is no lower entry does not nest.
pub nested-past : {table : List ℕ} {e o : ℕ} → e ≤ o → NestedBelow table e o 0
nested-past {table} {e} {o} h = record { is = λ image. ap nesting (sym (tree-past image table e o h)); most = omega arith }
