-- Atoms: when one is true, by its predicate's sets, and terms under a binding.
--
--     value-named, value-other       the stage of a term that names the bound variable, and of one that does not
--     in-named, in-other             a term in a set, at each stage of the bound variable
--     column-atom, row-atom, set-atom
--                                    an atom at each stage of the bound variable: by column, by row, by the predicate's one set
--     column-turn                    a turn of the loop over a column
--
-- Assumes nothing.
use Prim.Native.Nat.{ℕ, ◌+◌, ◌<◌}
use mathlib.Core.Path.{◌≡◌, sym, ap, ap₂, ◌∙◌}
use mathlib.Core.Bool.{Bool}
use mathlib.Core.List.{List}
use borrow.Author.Tests.{eq-eqb, ne_eqb}
use Rattle.model.specs.Decides.{Decides}
use Rattle.model.specs.Formula.{Term, stage, variable, pick, bind, value, atom, Names}
use Rattle.model.specs.Formula.{Env as Environment}
use Rattle.sets.specs.Member.{Has}
use Rattle.modal.specs.Row.{member}
use Rattle.format.specs.Image.{arity_of, first_set, set_of, graph_of}
use Rattle.format.specs.Table.{term_of, atom_of}
use Rattle.format.specs.declared.record.Record.{Record}
use Rattle.format.proofs.TreeLaws.{atom-one, atom-two}
use Rattle.hand.specs.Environment.{env_of, Bound}
use Rattle.verdict.specs.Kinds.{always}
use Rattle.verdict.specs.Evaluation.{Collects, atom_at, term_in, column}
use Rattle.hand.specs.declared.env.Env.{Env}
use Rattle.hand.proofs.HandLaws.{member_is}
use Rattle.verdict.proofs.CollectLaws.{collects-as}

-- ---- terms under a binding

-- A term that names the bound variable stands where that is put.
pub value-named : (c : Environment) (t : Term) (x s : ℕ) → Names x t → value (bind c x s) t ≡ s
value-named c (stage k) x s n = absurd n
value-named c (variable v) x s n = ap (λ (b : Bool). pick b s (c v)) (eq-eqb v x (sym n))

-- Any other stands where it stood.
pub value-other : (c : Environment) (t : Term) (x s : ℕ) → (Names x t → ⊥) → value (bind c x s) t ≡ value c t
value-other c (stage k) x s n = λ i. k
value-other c (variable v) x s n = ap (λ (b : Bool). pick b s (c v)) (ne_eqb v x (λ e. n (sym e)))

-- ---- atoms as membership

module _ (image : List ℕ) (r : Record) (c : Environment) {first : ℕ} (f : first ≡ first_set image r.a) where
  -- Of arity 2: in the set of the first term's stage.
  atom-by-two : arity_of image r.a ≡ 2
      → atom (graph_of image) c (atom_of image r) ≡ member (set_of image (first + value c (term_of r.t))) (value c (term_of r.b))
  atom-by-two e =
      ap (atom (graph_of image) c) (atom-two image r e)
      ∙ ap (λ (i : ℕ). member (set_of image (i + value c (term_of r.t))) (value c (term_of r.b))) (sym f)

  -- Of another arity: in the predicate's one set.
  atom-by-one : (arity_of image r.a ≡ 2 → ⊥)
      → atom (graph_of image) c (atom_of image r) ≡ member (set_of image first) (value c (term_of r.t))
  atom-by-one n =
      ap (atom (graph_of image) c) (atom-one image r n) ∙ ap (λ (i : ℕ). member (set_of image i) (value c (term_of r.t))) (sym f)

-- ---- at each stage of the bound variable

module _ (set t : ℕ) (env : Env) (x : ℕ) {n r : ℕ} where
  -- A term that names the variable is in the set at the set's stages.
  pub in-named : Names x (term_of t) → Collects n (member set) r → Collects n (term_in set t env x) r
  in-named named c = collects-as (λ s h. ap (member set) (sym (value-named (env_of env) (term_of t) x s named))) c

  -- Any other is so everywhere or nowhere.
  pub in-other : {k : ℕ} {b : Bool} → (Names x (term_of t) → ⊥) → k ≡ value (env_of env) (term_of t) → Decides b (Has set k)
      → Collects n (always b) r → Collects n (term_in set t env x) r
  in-other {k} {b} named k-is d c =
      collects-as (λ s h. member_is set k b d ∙ ap (member set) (k-is ∙ sym (value-other (env_of env) (term_of t) x s named))) c

module _ (image : List ℕ) (r : Record) (env : Env) (x : ℕ) {first n s : ℕ} (f : first ≡ first_set image r.a) where
  -- The first term names the variable: a column.
  pub column-atom : arity_of image r.a ≡ 2 → Names x (term_of r.t) → Collects n (column image first r.b env x) s
      → Collects n (atom_at image r env x) s
  column-atom e named c =
      collects-as
      (λ k h. let b = bind (env_of env) x k in
      ap (λ (i : ℕ). member (set_of image (first + i)) (value b (term_of r.b))) (sym (value-named (env_of env) (term_of r.t) x k named))
      ∙ sym (atom-by-two image r b f e)) c

  -- It does not: a row.
  pub row-atom : {t set : ℕ} → arity_of image r.a ≡ 2 → (Names x (term_of r.t) → ⊥) → t ≡ value (env_of env) (term_of r.t)
      → set ≡ set_of image (first + t) → Collects n (term_in set r.b env x) s → Collects n (atom_at image r env x) s
  row-atom e named t-is set_is c =
      collects-as
      (λ k h. let b = bind (env_of env) x k in
      ap (λ (z : ℕ). member z (value b (term_of r.b)))
      (set_is ∙ ap (λ (i : ℕ). set_of image (first + i)) (t-is ∙ sym (value-other (env_of env) (term_of r.t) x k named)))
      ∙ sym (atom-by-two image r b f e)) c

  -- The predicate has one set.
  pub set-atom : {set : ℕ} → (arity_of image r.a ≡ 2 → ⊥) → set ≡ set_of image first → Collects n (term_in set r.t env x) s
      → Collects n (atom_at image r env x) s
  set-atom e set_is c =
      collects-as
      (λ k h. let b = bind (env_of env) x k in
      ap (λ (z : ℕ). member z (value b (term_of r.t))) set_is ∙ sym (atom-by-one image r b f e)) c

-- A turn of the loop over a column: what is tested is the column at the turn's stage.
pub column-turn : (image : List ℕ) (first t : ℕ) (env : Env) (x s : ℕ) {here : Env} {k set : ℕ} {b : Bool} → x < 4 → Bound env x s here
    → k ≡ value (env_of here) (term_of t) → set ≡ set_of image (first + s) → Decides b (Has set k) → b ≡ column image first t env x s
column-turn image first t env x s {k = k} {set = set} {b = b} h here-is k-is set_is d =
    member_is set k b d ∙ ap₂ member set_is (k-is ∙ ap (λ (c : Environment). value c (term_of t)) (here-is.here h))
