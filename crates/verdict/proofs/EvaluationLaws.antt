-- The evaluation of an entry: what each arm of the code gives is what the test of the entry's formula says.
--
--     entry-ruled, ready-lower, ready-bound, ready-rule
--                                                             what an evaluation goes by at a lower entry and under a binding, and by which rules
--     junction-first, junction-second, unary-operand, binary-first, binary-second
--                                                             so that it can go on to an operand
--     constant-arm, literal-arm, junction-arm, settled-arm, modal-arm
--                                                             the stages at which a formula holds, by the row of its kind
--     modal-here                                              a modality holds where it does from the stage of its term
--     unary-set, binary-set, no-set                           the stages from which a modality holds
--     from-set, each_turn, once-arm                           a modality at its term: by its set, worked out for each stage of x, or once
--
-- Assumes nothing.
use Prim.Native.Nat.{ℕ, ◌≤◌, ◌<◌}
use native.Mathlib.Omega.{arith}
use mathlib.Core.Path.{◌≡◌, sym, ap, ◌∙◌, subst}
use mathlib.Core.Bool.{Bool, true, false}
use mathlib.Core.List.{List}
use mathlib.Core.Logic.{◌⊎◌, inl, inr}
use Rattle.model.specs.Decides.{Decides}
use Rattle.model.specs.Formula.{bind, value, atom}
use Rattle.model.specs.Formula.{Env as Environment}
use Rattle.logic.proofs.Compare.{bind-stands}
use Rattle.logic.specs.Test.{Stages, test, Stand}
use Rattle.sets.specs.Member.{Has}
use Rattle.modal.specs.Row.{member, Computes}
use Rattle.format.specs.Image.{stages_of, graph_of}
use Rattle.format.specs.Table.{IsTerm, a_stage, a_variable, entries_of, record_at, kind_of, sort_of, RuledAs, Ruled, term_of, atom_of, tree_of}
use Rattle.format.specs.declared.record.Record.{Record}
use Rattle.format.specs.declared.record.Kind.{Kind}
use Rattle.format.specs.declared.record.Sort.{Sort}
use Rattle.format.specs.declared.record.Sort.TheVariants as S
use Rattle.format.proofs.ReadingLaws.{all-ruled}
use Rattle.format.proofs.TreeLaws.{Row}
use Rattle.hand.specs.Environment.{env_of, Bound}
use Rattle.verdict.specs.Kinds.{is_first, literal, joined, joined_number, Settled, always, modal, modal_on}
use Rattle.verdict.specs.Modality.{at_stage, Inner}
use Rattle.verdict.specs.Evaluation.{Collects, Ready, held_at, held_from, from_term, modal_at, literal_at, term_in}
use Rattle.verdict.specs.declared.setup.Setup.{Setup}
use Rattle.hand.specs.declared.env.Env.{Env}
use Rattle.hand.proofs.EnvironmentLaws.{stage-value, variable-value}
use Rattle.hand.proofs.HandLaws.{member_is}
use Rattle.verdict.proofs.CollectLaws.{collects-as, collects-by, collects-none, collects-both, collects-either}
use Rattle.verdict.proofs.ModalityLaws.{inner-same, modal-agrees}
use Rattle.verdict.proofs.EntryLaws.{rule-of, Plain, modal_as, modal-row, test_as, test-row}

-- ---- terms

-- The stage of a term is one of the n.
term-stands : {n t : ℕ} {c : Environment} → n ≤ 64 → Stand n c → IsTerm n t → value c (term_of t) < n
term-stands {n} {t} {c} few d (a_stage h) = subst (λ (k : ℕ). k < n) (stage-value c t (omega arith)) h
term-stands {n} {t} {c} few d (a_variable h g) = subst (λ (k : ℕ). k < n) (variable-value c t h) (d _)

-- In a record that keeps its rules the field t is a term, also where it is not used.
term-ruled : (s : Sort) (image : List ℕ) (e : ℕ) (r : Record) → 0 < stages_of image → RuledAs s image e r → IsTerm (stages_of image) r.t
term-ruled S.Constant image e r some rule = a_stage (omega (arith, rule.t))
term-ruled S.Atom image e r some rule = rule.first
term-ruled S.Junction image e r some rule = a_stage (omega (arith, rule.t))
term-ruled S.Unary image e r some rule = rule.t
term-ruled S.Binary image e r some rule = rule.t

-- An entry keeps its rules.
pub entry-ruled : (setup : Setup) {e : ℕ} → e < entries_of setup.table.now → Ruled setup.image.now e (record_at setup.table.now e)
entry-ruled setup {e} = all-ruled setup.image.now setup.table.now setup.ruled e

-- What an evaluation goes by, where a variable stands at another stage.
pub ready-bound : {table : List ℕ} {n e : ℕ} {env : Env} → Ready table n e env → {x s : ℕ} {here : Env} → x < 4 → s < n → Bound env x s here
    → Ready table n e here
ready-bound {n = n} ready {x} h l b = record { entry = ready.entry; stand = subst (Stand n) (sym (b.here h)) (bind-stands ready.stand x l) }

module _ (setup : Setup) {e : ℕ} {env : Env} (ready : Ready setup.table.now setup.stages e env) where
  abbrev image : List ℕ
  image = setup.image.now

  abbrev table : List ℕ
  table = setup.table.now

  abbrev n : ℕ
  n = setup.stages

  -- ---- what an evaluation goes by

  -- At a lower entry.
  pub ready-lower : {o : ℕ} → o < e → Ready table n o env
  ready-lower h = record { entry = omega (arith, ready.entry); stand = ready.stand }

  -- The entry keeps its rules.
  pub ready-rule : Ruled image e (record_at table e)
  ready-rule = entry-ruled setup ready.entry

  -- Its term stands at one of the stages.
  ready-term : {c : Environment} → Stand n c → value c (term_of (record_at table e).t) < n
  ready-term {c} d =
      let same : stages_of image ≡ n = setup.row.stages in
      term-stands setup.row.room d
      (subst (λ (k : ℕ). IsTerm k (record_at table e).t) same
      (term-ruled (sort_of (kind_of (record_at table e).kind)) image e (record_at table e) (omega (arith, d 0)) ready-rule.keeps))

  -- An operand is a lower entry; and the variable that a modality binds in it is one of the four.
  abbrev pub Lower : ℕ → Type 0
  Lower o = (o < e) × Ready table n o env

  abbrev pub Operand : ℕ → ℕ → Type 0
  Operand o y = (o < e) × (Ready table n o env × (y < 4))

  module _ {r : Record} where
    pub junction-first : Row table e r S.Junction → Lower r.a
    junction-first row = let rule = rule-of image row ready-rule in (rule.a, ready-lower rule.a)

    pub junction-second : Row table e r S.Junction → Lower r.b
    junction-second row = let rule = rule-of image row ready-rule in (rule.b, ready-lower rule.b)

    pub unary-operand : Row table e r S.Unary → Operand r.a r.x
    unary-operand row = let rule = rule-of image row ready-rule in (rule.a, (ready-lower rule.a, omega (arith, rule.x)))

    pub binary-first : Row table e r S.Binary → Operand r.a r.x
    binary-first row = let rule = rule-of image row ready-rule in (rule.a, (ready-lower rule.a, omega (arith, rule.x)))

    pub binary-second : Row table e r S.Binary → Operand r.b r.y
    binary-second row = let rule = rule-of image row ready-rule in (rule.b, (ready-lower rule.b, omega (arith, rule.y)))

  -- ---- the stages at which a formula holds

  module _ (x : ℕ) {r : Record} {out : ℕ} where
    pub constant-arm : {first : Bool} → Row table e r S.Constant → first ≡ is_first (kind_of r.kind) → Collects n (always first) out
        → Collects n (held_at image table e env x) out
    constant-arm row f c = collects-as (λ s h. f ∙ sym (test-row image row ready-rule (graph_of image) (bind (env_of env) x s))) c

    pub literal-arm : {first : Bool} → Row table e r S.Atom → first ≡ is_first (kind_of r.kind) → Collects n (literal_at image r first env x) out
        → Collects n (held_at image table e env x) out
    literal-arm row f c =
        collects-as
        (λ s h. let b = bind (env_of env) x s in
        ap (λ (t : Bool). literal t (atom (graph_of image) b (atom_of image r))) f ∙ sym (test-row image row ready-rule (graph_of image) b)) c

  -- Both operands, for "and", or either, for "or".
  joined-collects : (first : Bool) {p q : Stages} (a b out : ℕ) → Collects n p a → Collects n q b → out ≡ joined_number first a b
      → Collects n (λ s. joined first (p s) (q s)) out
  joined-collects true a b out c d z = collects-both a b c d z
  joined-collects false a b out c d z = collects-either a b c d z

  pub junction-arm : (x : ℕ) {r : Record} (first : Bool) (a b out : ℕ) → Row table e r S.Junction → first ≡ is_first (kind_of r.kind)
      → Collects n (held_at image table r.a env x) a → Collects n (held_at image table r.b env x) b → out ≡ joined_number first a b
      → Collects n (held_at image table e env x) out
  junction-arm x {r} first a b out row f c d z =
      collects-as
      (λ s h. let k = bind (env_of env) x s in
      ap (λ (t : Bool). joined t (test (graph_of image) (tree_of image table r.a) k) (test (graph_of image) (tree_of image table r.b) k)) f
      ∙ sym (test-row image row ready-rule (graph_of image) k))
      (joined-collects first a b out c d z)

  -- The first operand alone, where it settles the whole.
  pub settled-arm : (x : ℕ) {r : Record} (first settled : Bool) (a : ℕ) → Row table e r S.Junction → first ≡ is_first (kind_of r.kind)
      → Collects n (held_at image table r.a env x) a → settled ≡ true → Settled settled n first a → Collects n (held_at image table e env x) a
  settled-arm x {r} first settled a row f c taken says =
      let stays = subst (λ (t : Bool). Settled t n first a) taken says in
      record {
        inside = c.inside;
        right = λ s h.
            let k = bind (env_of env) x s in
            let p = test (graph_of image) (tree_of image table r.a) k in
            let q = test (graph_of image) (tree_of image table r.b) k in
            sym (stays s h q) ∙ ap (λ (m : Bool). joined first m q) (c.right s h) ∙ ap (λ (t : Bool). joined t p q) f
            ∙ sym (test-row image row ready-rule (graph_of image) k);
      }

  -- A modality holds where it does from the stage of its term.
  from-here : {r : Record} {s : Sort} → Row table e r s → (c : Environment)
      → from_term image table e c ≡ test (graph_of image) (at_stage (value c (term_of r.t)) (tree_of image table e)) c
  from-here row c = ap (λ (q : Record). test (graph_of image) (at_stage (value c (term_of q.t)) (tree_of image table e)) c) (sym row.entry)

  pub modal-here : {r : Record} {s : Sort} → Row table e r s → (s ≡ S.Unary) ⊎ (s ≡ S.Binary) → (c : Environment)
      → from_term image table e c ≡ test (graph_of image) (tree_of image table e) c
  modal-here {r} {s} row is c = from-here row c ∙ sym (test-row image row ready-rule (graph_of image) c ∙ from is)
    where
      says : Sort → Bool
      says q =
          test_as q (is_first (kind_of r.kind)) (atom (graph_of image) c (atom_of image r)) (test (graph_of image) (tree_of image table r.a) c)
          (test (graph_of image) (tree_of image table r.b) c) (test (graph_of image) (at_stage (value c (term_of r.t)) (tree_of image table e)) c)

      from : (s ≡ S.Unary) ⊎ (s ≡ S.Binary) → says s ≡ test (graph_of image) (at_stage (value c (term_of r.t)) (tree_of image table e)) c
      from (inl u) = ap says u
      from (inr b) = ap says b

  pub modal-arm : (x : ℕ) {r : Record} {s : Sort} {out : ℕ} → Row table e r s → (s ≡ S.Unary) ⊎ (s ≡ S.Binary) → Collects n (modal_at image table e env x) out
      → Collects n (held_at image table e env x) out
  modal-arm x row is c = collects-as (λ s h. modal-here row is (bind (env_of env) x s)) c

  -- ---- the stages from which a modality holds

  module _ (r : Record) {out : ℕ} where
    -- From the stages at which the operands hold.
    operands-set : (k : Kind) (a b : ℕ) {p q : Stages} → k ≡ kind_of r.kind → Collects n p a → Collects n q b
        → ((u : ℕ) → test (graph_of image) (at_stage u (tree_of image table e)) (env_of env) ≡ modal (kind_of r.kind) (graph_of image) p q u)
        → Computes setup.next.now n (modal_on k a b) out → Collects n (held_from image table e env) out
    operands-set k a b {p} {q} k-is c d says w =
        collects-as
        (λ u h. modal-agrees (graph_of image) k (λ s l. c.right s (omega (arith, setup.row.stages))) (λ s l. d.right s (omega (arith, setup.row.stages))) u
        (omega (arith, setup.row.stages))
        ∙ ap (λ (j : Kind). modal j (graph_of image) p q u) k-is ∙ sym (says u))
        (collects-by setup.row w)

    pub unary-set : (k : Kind) (a : ℕ) → Row table e r S.Unary → k ≡ kind_of r.kind → Collects n (held_at image table r.a env r.x) a
        → Computes setup.next.now n (modal_on k a a) out → Collects n (held_from image table e env) out
    unary-set k a row k-is c w = operands-set k a a k-is c c (modal-row image row ready-rule (graph_of image) (env_of env)) w

    pub binary-set : (k : Kind) (a b : ℕ) → Row table e r S.Binary → k ≡ kind_of r.kind → Collects n (held_at image table r.a env r.x) a
        → Collects n (held_at image table r.b env r.y) b → Computes setup.next.now n (modal_on k a b) out → Collects n (held_from image table e env) out
    binary-set k a b row k-is c d w = operands-set k a b k-is c d (modal-row image row ready-rule (graph_of image) (env_of env)) w

    -- Where the entry is no modality there are none.
    pub no-set : {s : Sort} → Row table e r s → Plain s → out ≡ 0 → Collects n (held_from image table e env) out
    no-set {s} row plain z =
        collects-as (λ u h. sym (modal-row image row ready-rule (graph_of image) (env_of env) u ∙ none plain _ _ _ u)) (collects-none z)
      where
        none : Plain s → (k : Kind) (a b : Stages) (u : ℕ) → modal_as s k (graph_of image) a b u ≡ false
        none (inl is) k a b u = ap (λ (q : Sort). modal_as q k (graph_of image) a b u) is
        none (inr (inl is)) k a b u = ap (λ (q : Sort). modal_as q k (graph_of image) a b u) is
        none (inr (inr is)) k a b u = ap (λ (q : Sort). modal_as q k (graph_of image) a b u) is

  -- ---- a modality at each stage of x

  -- Whether it holds from the stage of its term, by its set.
  pub from-set : {c : Environment} {r : Record} {set k : ℕ} {b : Bool} → Stand n c → r ≡ record_at table e
      → Collects n (λ s. test (graph_of image) (at_stage s (tree_of image table e)) c) set
      → k ≡ value c (term_of r.t) → Decides b (Has set k) → b ≡ from_term image table e c
  from-set {c} {r} {set} {k} {b} d r-is w k-is has =
      let at : k ≡ value c (term_of (record_at table e).t) = k-is ∙ ap (λ (q : Record). value c (term_of q.t)) r-is in
      member_is set k b has ∙ ap (member set) at ∙ w.right _ (ready-term d)

  -- Worked out for a stage s of x.
  pub each_turn : {here : Env} {r : Record} {x s set k : ℕ} {b : Bool} → x < 4 → s < n → r ≡ record_at table e → Bound env x s here
      → Collects n (held_from image table e here) set → k ≡ value (env_of here) (term_of r.t) → Decides b (Has set k)
      → b ≡ modal_at image table e env x s
  each_turn {x = x} {s = s} h l r-is b w k-is has =
      from-set (subst (Stand n) (sym (b.here h)) (bind-stands ready.stand x l)) r-is w k-is has ∙ ap (from_term image table e) (b.here h)

  -- Worked out once, where the operands do not name x.
  pub once-arm : {r : Record} {x set out : ℕ} → x < 4 → (Inner x (tree_of image table e) → ⊥) → r ≡ record_at table e
      → Collects n (held_from image table e env) set → Collects n (term_in set r.t env x) out → Collects n (modal_at image table e env x) out
  once-arm {r} {x} {set} {out} h free r-is w c =
      collects-as
      (λ s l. let b = bind (env_of env) x s in
      let stands = ready-term (bind-stands ready.stand x l) in
      ap (λ (q : Record). member set (value b (term_of q.t))) r-is ∙ w.right _ stands
      ∙ inner-same (graph_of image) (tree_of image table e) (env_of env) x s free _)
      c
