-- The trees of a table whose entries keep the rules: every stage that they name is one of the image's, and their free variables are among
-- the four. Over plain values.
-- Assumes nothing.
use Prim.Native.Nat.{ℕ, ◌≤◌, ◌<◌}
use native.Mathlib.Omega.{arith}
use mathlib.Core.Path.{refl, sym, subst}
use mathlib.Core.List.{List}
use mathlib.Core.Logic.{⊎_elim}
use Rattle.model.specs.Formula.{Formula, Names, FreeInAtom, Free, TermBelow, AtomBelow, Below}
use Rattle.format.specs.Image.{stages_of, arity_of}
use Rattle.format.specs.Table.{IsTerm, a_stage, a_variable, SecondTerm, unused, used, AtomRule, RuledAs, Ruled}
use Rattle.format.specs.Table.{record_at, kind_of, sort_of, term_of, atom_of, nth, trees, tree_of}
use Rattle.format.specs.declared.record.Record.{Record}
use Rattle.format.specs.declared.record.Sort.{Sort}
use Rattle.format.specs.declared.record.Sort.TheVariants as S
use Rattle.format.proofs.TreeLaws.{tree-each, term-stage, term-variable, atom-one, atom-two, FreeAs, BelowAs, free-made, below-made}

-- ---- terms, atoms and rows

-- What a term names, where there are at most 64 stages: a stage below n, or one of the four variables.
module _ {n t : ℕ} (few : n ≤ 64) where
  term-below : IsTerm n t → TermBelow n (term_of t)
  term-below (a_stage h) = subst (TermBelow n) (sym (term-stage t (omega arith))) h
  term-below (a_variable h g) = subst (TermBelow n) (sym (term-variable t h)) tt

  term-names : (v : ℕ) → IsTerm n t → Names v (term_of t) → v < 4
  term-names v (a_stage h) f = absurd (subst (Names v) (term-stage t (omega arith)) f)
  term-names v (a_variable h g) f = omega (arith, subst (Names v) (term-variable t h) f)

-- What an atom names are its terms.
module _ (image : List ℕ) (r : Record) (few : stages_of image ≤ 64) where
  atom-below : AtomRule image r → AtomBelow (stages_of image) (atom_of image r)
  atom-below rule = go rule.second
    where
      go : SecondTerm (stages_of image) (arity_of image r.a) r.b → AtomBelow (stages_of image) (atom_of image r)
      go (unused h e) = subst (AtomBelow (stages_of image)) (sym (atom-one image r h)) (term-below few rule.first)
      go (used e h) = subst (AtomBelow (stages_of image)) (sym (atom-two image r e)) (term-below few rule.first, term-below few h)

  atom-free : (v : ℕ) → AtomRule image r → FreeInAtom v (atom_of image r) → v < 4
  atom-free v rule f = go rule.second
    where
      go : SecondTerm (stages_of image) (arity_of image r.a) r.b → v < 4
      go (unused h e) = term-names few v rule.first (subst (FreeInAtom v) (atom-one image r h) f)
      go (used e h) = ⊎_elim (term-names few v rule.first) (term-names few v h) (subst (FreeInAtom v) (atom-two image r e) f)

  -- What an entry names are its terms, and what its operands name, which are lower entries.
  row_below : (s : Sort) (e : ℕ) {A B : Type 0} → RuledAs s image e r → (r.a < e → A) → (r.b < e → B) → BelowAs s image r (stages_of image) A B
  row_below S.Constant e rule a b = tt
  row_below S.Atom e rule a b = atom-below rule
  row_below S.Junction e rule a b = (a rule.a, b rule.b)
  row_below S.Unary e rule a b = (term-below few rule.t, a rule.a)
  row_below S.Binary e rule a b = (term-below few rule.t, a rule.a, b rule.b)

  row-free : (s : Sort) (e v : ℕ) {A B : Type 0}
      → RuledAs s image e r → (r.a < e → A → v < 4) → (r.b < e → B → v < 4) → FreeAs s image r v A B → v < 4
  row-free S.Constant e v rule a b f = absurd f
  row-free S.Atom e v rule a b f = atom-free v rule f
  row-free S.Junction e v rule a b f = ⊎_elim (a rule.a) (b rule.b) f
  row-free S.Unary e v rule a b f = ⊎_elim (term-names few v rule.t) (λ g. a rule.a g.1) f
  row-free S.Binary e v rule a b f =
      ⊎_elim (term-names few v rule.t) (⊎_elim (λ g. a rule.a g.1) (λ g. b rule.b g.1)) f

-- ---- tables

module _ (image table : List ℕ) (m : ℕ) (few : stages_of image ≤ 64) (ruled : (e : ℕ) → e < m → Ruled image e (record_at table e)) where
  -- Every stage that an entry's formula names is below n.
  pub ruled-below : (e : ℕ) → e < m → Below (stages_of image) (tree_of image table e)
  ruled-below =
      tree-each image table (Below (stages_of image)) m
      (λ e h before. let r = record_at table e in
      (below-made image (nth (trees image table e)) r refl (stages_of image)).1
      (row_below image r few (sort_of (kind_of r.kind)) e (ruled e h).keeps (before r.a) (before r.b)))

  -- A variable that is free in it is 0 to 3.
  pub ruled-free : (v e : ℕ) → e < m → Free v (tree_of image table e) → v < 4
  ruled-free v =
      tree-each image table (λ (t : Formula). Free v t → v < 4) m
      (λ e h before f. let r = record_at table e in
      row-free image r few (sort_of (kind_of r.kind)) e v (ruled e h).keeps (before r.a) (before r.b)
      ((free-made image (nth (trees image table e)) r refl v).0 f))
