-- An entry of a table that keeps its rules, by the row of its kind: its operands are lower entries, and what its test says.
--
--     rule-of, tree-ruled          the rule of an entry's row; its tree, made of its operands' own
--     Plain                        the row of a formula that is no modality
--     InnerAs, inner-row           which variables a modality's operands name
--     modal_as, modal-row           the stages from which a modality holds
--     test_as, test-row             when a formula holds
--
-- Assumes nothing.
use Prim.Native.Nat.{ℕ, ◌<◌}
use mathlib.Core.Path.{◌≡◌, refl, sym, ap, ap₂, ◌∙◌, subst}
use mathlib.Core.Bool.{Bool, true, false}
use mathlib.Core.List.{List}
use mathlib.Core.Logic.Iff
use mathlib.Core.Logic.{◌⊎◌, inl, inr, ⊎_elim, ◌↔◌}
use Rattle.model.specs.Decides.{Decides, decided}
use Rattle.model.specs.Graph.{Graph}
use Rattle.model.specs.Formula.{Formula, and, or, AX, EX, AF, EG, AR, EU, Env, bind, value, atom, Under, Free}
use Rattle.logic.specs.Test.{Stages, test}
use Rattle.format.specs.Table.{record_at, kind_of, sort_of, RuledAs, Ruled, term_of, atom_of, made_as, made, nth, trees, tree_of}
use Rattle.format.specs.declared.record.Record.{Record}
use Rattle.format.specs.declared.record.Kind.{Kind}
use Rattle.format.specs.declared.record.Kind.TheVariants as K
use Rattle.format.specs.declared.record.Sort.{Sort}
use Rattle.format.specs.declared.record.Sort.TheVariants as S
use Rattle.format.proofs.TreeLaws.{Row, tree-of-row, tree-at}
use Rattle.verdict.specs.Kinds.{is_first, literal, joined, modal}
use Rattle.verdict.specs.Modality.{at_stage, Inner}

-- ---- trees

-- The rule of an entry's row.
pub rule-of : (image : List ℕ) {table : List ℕ} {e : ℕ} {r : Record} {s : Sort} → Row table e r s → Ruled image e (record_at table e) → RuledAs s image e r
rule-of image {e = e} {r = r} row rule =
    subst (λ (s : Sort). RuledAs s image e r) row.sort (subst (Ruled image e) (sym row.entry) rule).keeps

-- A record that keeps its rules is made of lower entries alone.
made-same : (k : Kind) (image : List ℕ) (e : ℕ) (r : Record) (tree tree' : ℕ → Formula) → RuledAs (sort_of k) image e r
    → ((i : ℕ) → i < e → tree i ≡ tree' i) → made_as k image tree r ≡ made_as k image tree' r
made-same K.True image e r tree tree' rule same = refl
made-same K.False image e r tree tree' rule same = refl
made-same K.Is image e r tree tree' rule same = refl
made-same K.IsNot image e r tree tree' rule same = refl
made-same K.And image e r tree tree' rule same = ap₂ and (same r.a rule.a) (same r.b rule.b)
made-same K.Or image e r tree tree' rule same = ap₂ or (same r.a rule.a) (same r.b rule.b)
made-same K.AX image e r tree tree' rule same = ap (λ (f : Formula). AX r.x f (term_of r.t)) (same r.a rule.a)
made-same K.EX image e r tree tree' rule same = ap (λ (f : Formula). EX r.x f (term_of r.t)) (same r.a rule.a)
made-same K.AF image e r tree tree' rule same = ap (λ (f : Formula). AF r.x f (term_of r.t)) (same r.a rule.a)
made-same K.EG image e r tree tree' rule same = ap (λ (f : Formula). EG r.x f (term_of r.t)) (same r.a rule.a)
made-same K.AR image e r tree tree' rule same =
    ap₂ (λ (f g : Formula). AR r.x f r.y g (term_of r.t)) (same r.a rule.a) (same r.b rule.b)
made-same K.EU image e r tree tree' rule same =
    ap₂ (λ (f g : Formula). EU r.x f r.y g (term_of r.t)) (same r.a rule.a) (same r.b rule.b)

-- So an entry's tree is made of the trees of its operands.
pub tree-ruled : (image : List ℕ) {table : List ℕ} {e : ℕ} {r : Record} {s : Sort} → Row table e r s → Ruled image e (record_at table e)
    → tree_of image table e ≡ made image (λ i. tree_of image table i) r
tree-ruled image {table} {e} {r} row rule =
    tree-of-row image row
    ∙ made-same (kind_of r.kind) image e r (λ i. nth (trees image table e) i) (λ i. tree_of image table i)
    (subst (Ruled image e) (sym row.entry) rule).keeps (λ i h. tree-at image table e i h)

-- ---- what a row's kinds say of their operands

-- A row whose kinds are no modalities.
abbrev pub Plain : Sort → Type 0
Plain s = (s ≡ S.Constant) ⊎ ((s ≡ S.Atom) ⊎ (s ≡ S.Junction))

-- When x is free in an operand of a modality: A and B say when it is free in the operands.
abbrev pub InnerAs : Sort → Record → ℕ → Type 0 → Type 0 → Type 0
InnerAs S.Constant r v A B = ⊥
InnerAs S.Atom r v A B = ⊥
InnerAs S.Junction r v A B = ⊥
InnerAs S.Unary r v A B = Under v r.x A
InnerAs S.Binary r v A B = Under v r.x A ⊎ Under v r.y B

-- The stages from which a modality holds: a and b say where the operands hold.
abbrev pub modal_as : Sort → Kind → Graph → Stages → Stages → Stages
modal_as S.Constant k G a b = λ s. false
modal_as S.Atom k G a b = λ s. false
modal_as S.Junction k G a b = λ s. false
modal_as S.Unary k G a b = modal k G a a
modal_as S.Binary k G a b = modal k G a b

-- When a formula holds: whether its kind is the first of its row, its atom, its operands, and whether a modality holds from the stage of its term.
abbrev pub test_as : Sort → Bool → Bool → Bool → Bool → Bool → Bool
test_as S.Constant first q a b from = first
test_as S.Atom first q a b from = literal first q
test_as S.Junction first q a b from = joined first a b
test_as S.Unary first q a b from = from
test_as S.Binary first q a b from = from

module _ (image : List ℕ) (G : Graph) (tree : ℕ → Formula) (r : Record) (c : Env) where
  -- Each kind is as its row says.
  test-kind : (k : Kind) → test G (made_as k image tree r) c
      ≡ test_as (sort_of k) (is_first k) (atom G c (atom_of image r)) (test G (tree r.a) c) (test G (tree r.b) c)
      (test G (at_stage (value c (term_of r.t)) (made_as k image tree r)) c)
  test-kind K.True = refl
  test-kind K.False = refl
  test-kind K.Is = refl
  test-kind K.IsNot = refl
  test-kind K.And = refl
  test-kind K.Or = refl
  test-kind K.AX = refl
  test-kind K.EX = refl
  test-kind K.AF = refl
  test-kind K.EG = refl
  test-kind K.AR = refl
  test-kind K.EU = refl

  modal-kind : (k : Kind) (s : ℕ) → test G (at_stage s (made_as k image tree r)) c
      ≡ modal_as (sort_of k) k G (λ u. test G (tree r.a) (bind c r.x u)) (λ u. test G (tree r.b) (bind c r.y u)) s
  modal-kind K.True s = refl
  modal-kind K.False s = refl
  modal-kind K.Is s = refl
  modal-kind K.IsNot s = refl
  modal-kind K.And s = refl
  modal-kind K.Or s = refl
  modal-kind K.AX s = refl
  modal-kind K.EX s = refl
  modal-kind K.AF s = refl
  modal-kind K.EG s = refl
  modal-kind K.AR s = refl
  modal-kind K.EU s = refl

inner-kind : (image : List ℕ) (tree : ℕ → Formula) (r : Record) (v : ℕ) (k : Kind)
    → Inner v (made_as k image tree r) ↔ InnerAs (sort_of k) r v (Free v (tree r.a)) (Free v (tree r.b))
inner-kind image tree r v K.True = Iff.rfl
inner-kind image tree r v K.False = Iff.rfl
inner-kind image tree r v K.Is = Iff.rfl
inner-kind image tree r v K.IsNot = Iff.rfl
inner-kind image tree r v K.And = Iff.rfl
inner-kind image tree r v K.Or = Iff.rfl
inner-kind image tree r v K.AX = Iff.rfl
inner-kind image tree r v K.EX = Iff.rfl
inner-kind image tree r v K.AF = Iff.rfl
inner-kind image tree r v K.EG = Iff.rfl
inner-kind image tree r v K.AR = Iff.rfl
inner-kind image tree r v K.EU = Iff.rfl

-- ---- entries

module _ (image : List ℕ) {table : List ℕ} {e : ℕ} {r : Record} {s : Sort} (row : Row table e r s) (rule : Ruled image e (record_at table e)) where
  tree : ℕ → Formula
  tree i = tree_of image table i

  kind : Kind
  kind = kind_of r.kind

  -- The variables that a modality's operands name.
  pub inner-row : (v : ℕ) → Inner v (tree_of image table e) ↔ InnerAs s r v (Free v (tree_of image table r.a)) (Free v (tree_of image table r.b))
  unfolding tree kind
  inner-row v =
      subst (λ (f : Formula). Inner v f ↔ InnerAs s r v (Free v (tree r.a)) (Free v (tree r.b))) (sym (tree-ruled image row rule))
      (subst (λ (s : Sort). Inner v (made image tree r) ↔ InnerAs s r v (Free v (tree r.a)) (Free v (tree r.b))) row.sort
      (inner-kind image tree r v kind))

  -- What is decided of them by the row is decided of the entry.
  pub inner-decides : (v : ℕ) (b : Bool) → Decides b (InnerAs s r v (Free v (tree_of image table r.a)) (Free v (tree_of image table r.b)))
      → Decides b (Inner v (tree_of image table e))
  inner-decides v true d = (inner-row v).1 d
  inner-decides v false d = λ i. d ((inner-row v).0 i)

  -- Where an entry is no modality there is none.
  pub inner-none : Plain s → (v : ℕ) → Inner v (tree_of image table e) → ⊥
  inner-none plain v i = none plain ((inner-row v).0 i)
    where
      turned : {q : Sort} → s ≡ q → InnerAs s r v (Free v (tree_of image table r.a)) (Free v (tree_of image table r.b))
          → InnerAs q r v (Free v (tree_of image table r.a)) (Free v (tree_of image table r.b))
      turned is = subst (λ (q : Sort). InnerAs q r v (Free v (tree_of image table r.a)) (Free v (tree_of image table r.b))) is

      none : Plain s → InnerAs s r v (Free v (tree_of image table r.a)) (Free v (tree_of image table r.b)) → ⊥
      none (inl is) = turned is
      none (inr (inl is)) = turned is
      none (inr (inr is)) = turned is

  module _ (G : Graph) (c : Env) where
    -- The stages from which a modality holds.
    pub modal-row : (u : ℕ) → test G (at_stage u (tree_of image table e)) c
        ≡ modal_as s (kind_of r.kind) G (λ k. test G (tree_of image table r.a) (bind c r.x k))
        (λ k. test G (tree_of image table r.b) (bind c r.y k)) u
    unfolding tree kind
    modal-row u =
        ap (λ (f : Formula). test G (at_stage u f) c) (tree-ruled image row rule)
        ∙ modal-kind image G tree r c kind u
        ∙ ap (λ (s : Sort). modal_as s kind G (λ k. test G (tree r.a) (bind c r.x k)) (λ k. test G (tree r.b) (bind c r.y k)) u) row.sort

    -- When an entry's formula holds.
    pub test-row : test G (tree_of image table e) c
        ≡ test_as s (is_first (kind_of r.kind)) (atom G c (atom_of image r)) (test G (tree_of image table r.a) c) (test G (tree_of image table r.b) c)
        (test G (at_stage (value c (term_of r.t)) (tree_of image table e)) c)
    unfolding tree kind
    test-row =
        subst
        (λ (f : Formula). test G f c ≡ test_as s (is_first kind) (atom G c (atom_of image r)) (test G (tree r.a) c) (test G (tree r.b) c)
        (test G (at_stage (value c (term_of r.t)) f) c))
        (sym (tree-ruled image row rule))
        (test-kind image G tree r c kind
        ∙ ap (λ (s : Sort). test_as s (is_first kind) (atom G c (atom_of image r)) (test G (tree r.a) c) (test G (tree r.b) c)
        (test G (at_stage (value c (term_of r.t)) (made image tree r)) c)) row.sort)

-- Of a modality over two operands the first decides where it names the variable,
pub first-decides : (image : List ℕ) {table : List ℕ} {e : ℕ} {r : Record} → Row table e r S.Binary → Ruled image e (record_at table e) → (v : ℕ) {b : Bool}
    → b ≡ true → Decides b (Under v r.x (Free v (tree_of image table r.a))) → Decides b (Inner v (tree_of image table e))
first-decides image {table} {e} row rule v t d =
    subst (λ (b : Bool). Decides b (Inner v (tree_of image table e))) (sym t) ((inner-row image row rule v).1 (inl (decided _ d t)))

-- and the second where it does not.
pub second-decides : (image : List ℕ) {table : List ℕ} {e : ℕ} {r : Record} → Row table e r S.Binary → Ruled image e (record_at table e) → (v : ℕ) (b : Bool)
    → (Under v r.x (Free v (tree_of image table r.a)) → ⊥) → Decides b (Under v r.y (Free v (tree_of image table r.b)))
    → Decides b (Inner v (tree_of image table e))
second-decides image row rule v true n d = (inner-row image row rule v).1 (inr d)
second-decides image row rule v false n d = λ i. ⊎_elim n d ((inner-row image row rule v).0 i)
