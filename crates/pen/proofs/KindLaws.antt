-- The formula of an entry in hand, by its kind: the fields that are read of it, what it is made of, and its steps in terms of those of its operands.
--
--     Fields, fields                     the fields of the prepared entry are those of the record
--     kind-told, in_arm                  the kind that its number gives is the kind in hand
--     rule-of                            the entry keeps the rules of its kind
--     leaf-steps ..                      the steps, and where the formula holds what its operands have
use Prim.Native.Nat.{ℕ, zero, suc, ◌<◌}
use mathlib.Core.Path.{◌≡◌, refl, sym, ap, ap₂, ◌∙◌, subst}
use mathlib.Core.Bool.{Bool, true, false}
use mathlib.Core.List.{List, [], ◌∷◌, ◌++◌}
use mathlib.Core.Logic.{◌⊎◌, inl, inr, ⊎_elim}
use lib.Dec.{T}
use Rattle.model.specs.Formula.{Formula, truth, falsity, is, is_not, and, or, AX, EX, AF, EG, AR, EU, Term}
use Rattle.logic.specs.Rules.{empty}
use Rattle.logic.specs.Test.{test, each_next, some_next, af, eg, ar, eu}
use Rattle.logic.proofs.Booleans.{T_and, T-or}
use Rattle.format.specs.Image.{stages_of, graph_of}
use Rattle.format.specs.Table.{record_at, kind_of, sort_of, term_of, atom_of, RuledAs, made_as, nth, trees, tree_of}
use Rattle.format.specs.declared.record.Record.{Record}
use Rattle.format.specs.declared.record.Kind.{Kind}
use Rattle.format.specs.declared.record.Kind.TheVariants as K
use Rattle.format.proofs.TreeLaws.{tree-at}
use Rattle.rules.specs.Kind.{Kind as RuleKind}
use Rattle.rules.specs.Table.{row}
use Rattle.rules.specs.declared.Rule.{Rule}
use Rattle.hand.specs.Environment.{env_of}
use Rattle.hand.specs.Setup.{entry_at, entry_of}
use Rattle.hand.specs.Side.{sided, kind_on, number_of}
use Rattle.hand.specs.declared.env.Env.{Env as Slots}
use Rattle.hand.specs.declared.setup.Entry.{Entry}
use Rattle.hand.proofs.SideLaws.{sided-entry, of_number}
use Rattle.written.specs.Choice.{lowest_next}
use Rattle.written.specs.Written.{through, written}
use Rattle.guide.specs.Sides.{truth_on}
use Rattle.pen.specs.declared.run.Run.{Run}
use Rattle.pen.specs.Steps.{entry_steps, a_of, b_of, start_of, one_steps, two_steps, af_steps, Holding, InHand}
use Rattle.pen.proofs.RunLaws.{run-ruled}

-- ---- the fields of a prepared entry

pub record Fields (p : Entry) (side : ℕ) (r : Record) : Type 0 where
  pub kind : p.kind ≡ number_of (kind_on side (kind_of r.kind))
  pub a : p.a ≡ r.a
  pub b : p.b ≡ r.b
  pub x : p.x ≡ r.x
  pub y : p.y ≡ r.y
  pub t : p.t ≡ r.t

fields-of : (image : List ℕ) (side : ℕ) (r : Record) (p : Entry) → p ≡ entry_of image side r → Fields p side r
unfolding entry_of
fields-of image side r p e = record {
  kind = ap (λ (q : Entry). q.kind) e;
  a = ap (λ (q : Entry). q.a) e;
  b = ap (λ (q : Entry). q.b) e;
  x = ap (λ (q : Entry). q.x) e;
  y = ap (λ (q : Entry). q.y) e;
  t = ap (λ (q : Entry). q.t) e;
}

-- The kinds of a pair of duals keep the same rules.
ruled-side : (side : ℕ) (k : Kind) (image : List ℕ) (e : ℕ) (r : Record) → RuledAs (sort_of k) image e r → RuledAs (sort_of (kind_on side k)) image e r
ruled-side zero k image e r rule = rule
ruled-side (suc n) K.True image e r rule = rule
ruled-side (suc n) K.False image e r rule = rule
ruled-side (suc n) K.Is image e r rule = rule
ruled-side (suc n) K.IsNot image e r rule = rule
ruled-side (suc n) K.And image e r rule = rule
ruled-side (suc n) K.Or image e r rule = rule
ruled-side (suc n) K.AX image e r rule = rule
ruled-side (suc n) K.EX image e r rule = rule
ruled-side (suc n) K.AF image e r rule = rule
ruled-side (suc n) K.EG image e r rule = rule
ruled-side (suc n) K.AR image e r rule = rule
ruled-side (suc n) K.EU image e r rule = rule

-- An entry's formula on the side; and an operand's, as the entry has it.
abbrev on : List ℕ → List ℕ → ℕ → ℕ → Formula
on image table side o = sided side (tree_of image table o)

lower : (image table : List ℕ) (side e o : ℕ) → o < e → sided side (nth (trees image table e) o) ≡ on image table side o
lower image table side e o h = ap (sided side) (tree-at image table e o h)

module _ (run : Run) where
  abbrev image : List ℕ
  image = run.setup.image.now

  abbrev table : List ℕ
  table = run.setup.table.now

  abbrev side : ℕ
  side = run.side

  module _ {e : ℕ} {env : Slots} where
    -- What stands at the entry's number is its record, prepared.
    pub fields : {p : Entry} → Holding image table side e env → p ≡ entry_at run.entries.now e → Fields p side (record_at table e)
    fields {p} h held = fields-of image side (record_at table e) p (held ∙ run.prepared e h.entry)

    -- The entry keeps the rules of its kind.
    pub rule-of : {k : Kind} → InHand image table side e env k → RuledAs (sort_of k) image e (record_at table e)
    rule-of h =
        subst (λ (q : Kind). RuledAs (sort_of q) image e (record_at table e)) h.kind
        (ruled-side side (kind_of (record_at table e).kind) image e (record_at table e) (run-ruled run e h.holding.entry).keeps)

    -- The kind that the number gives is the kind in hand.
    pub kind-told : {p : Entry} {k j : Kind} → Holding image table side e env → Fields p side (record_at table e) → k ≡ kind_of p.kind → k ≡ j
        → InHand image table side e env j
    kind-told h f k-is told =
        record { holding = h; kind = of_number (kind_on side (kind_of (record_at table e).kind)) ∙ ap kind_of (sym f.kind) ∙ sym k-is ∙ told }

    -- So it is in an arm of the code, where the entry was read and its number gave the kind.
    pub in_arm : {p : Entry} {k j : Kind} → Holding image table side e env → p ≡ entry_at run.entries.now e → k ≡ kind_of p.kind → k ≡ j
        → InHand image table side e env j
    in_arm h held k-is told = kind-told h (fields h held) k-is told

    -- ---- its formula

    made_of : {k : Kind} → InHand image table side e env k
        → on image table side e ≡ made_as k image (λ o. sided side (nth (trees image table e) o)) (record_at table e)
    made_of h =
        sided-entry image table side e refl ∙ ap (λ (q : Kind). made_as q image (λ o. sided side (nth (trees image table e) o)) (record_at table e)) h.kind

    -- Two formulas joined, a modality over one, and one over two.
    join-of : (k : Kind) (C : Formula → Formula → Formula)
        → ((tree : ℕ → Formula) → made_as k image tree (record_at table e) ≡ C (tree (record_at table e).a) (tree (record_at table e).b))
        → InHand image table side e env k → (record_at table e).a < e → (record_at table e).b < e
        → on image table side e ≡ C (on image table side (record_at table e).a) (on image table side (record_at table e).b)
    join-of k C shape h la lb = made_of h ∙ shape _ ∙ ap₂ C (lower image table side e (record_at table e).a la) (lower image table side e
        (record_at table e).b lb)

    one_of : (k : Kind) (C : ℕ → Formula → Term → Formula)
        → ((tree : ℕ → Formula) → made_as k image tree (record_at table e) ≡ C (record_at table e).x (tree (record_at table e).a) (term_of (record_at table e).t))
        → InHand image table side e env k → (record_at table e).a < e
        → on image table side e ≡ C (record_at table e).x (on image table side (record_at table e).a) (term_of (record_at table e).t)
    one_of k C shape h la = made_of h ∙ shape _ ∙ ap (λ (f : Formula). C (record_at table e).x f (term_of (record_at table e).t)) (lower image table side e
        (record_at table e).a la)

    two-of : (k : Kind) (C : ℕ → Formula → ℕ → Formula → Term → Formula)
        → ((tree : ℕ → Formula) → made_as k image tree (record_at table e) ≡ C (record_at table e).x (tree (record_at table e).a) (record_at table e).y (tree
        (record_at table e).b) (term_of (record_at table e).t))
        → InHand image table side e env k → (record_at table e).a < e → (record_at table e).b < e
        → on image table side e ≡ C (record_at table e).x (on image table side (record_at table e).a) (record_at table e).y (on image table side
        (record_at table e).b) (term_of (record_at table e).t)
    two-of k C shape h la lb =
        made_of h ∙ shape _ ∙ ap₂ (λ (f g : Formula). C (record_at table e).x f (record_at table e).y g (term_of (record_at table e).t))
        (lower image table side e (record_at table e).a la) (lower image table side e (record_at table e).b lb)

    -- The steps of a formula by another name, and that it holds.
    steps-as : {f : Formula} {k : Kind} → InHand image table side e env k → on image table side e ≡ f
        → written (graph_of image) f (env_of env) ≡ entry_steps image table side e (env_of env)
    unfolding entry_steps
    steps-as h q = sym (ap (λ (f : Formula). written (graph_of image) f (env_of env)) q)

    holds_as : {f : Formula} {k : Kind} → InHand image table side e env k → on image table side e ≡ f → T (test (graph_of image) f (env_of env))
    holds_as h q = subst (λ (f : Formula). T (test (graph_of image) f (env_of env))) q h.holding.holds

    -- ---- the kinds

    -- True and the atoms have one rule with no premises. False does not hold, and there is no other kind.
    pub true-steps : InHand image table side e env K.True → (row Rule.True).code ∷ [] ≡ entry_steps image table side e (env_of env)
    true-steps h = steps-as {f = truth} h (made_of h)

    pub is-steps : InHand image table side e env K.Is → (row Rule.Holds).code ∷ [] ≡ entry_steps image table side e (env_of env)
    is-steps h = steps-as {f = is (atom_of image (record_at table e))} h (made_of h)

    pub is-not-steps : InHand image table side e env K.IsNot → (row Rule.HoldsNot).code ∷ [] ≡ entry_steps image table side e (env_of env)
    is-not-steps h = steps-as {f = is_not (atom_of image (record_at table e))} h (made_of h)

    pub false-never : InHand image table side e env K.False → ⊥
    false-never h = holds_as {f = falsity} h (made_of h)

    -- And: both operands hold, and their steps follow.
    module _ (h : InHand image table side e env K.And) where
      and_is : on image table side e ≡ and (on image table side (record_at table e).a) (on image table side (record_at table e).b)
      and_is = join-of K.And and (λ tree. refl) h (rule-of h).a (rule-of h).b

      pub and_both : T (truth_on image table side (record_at table e).a env) × T (truth_on image table side (record_at table e).b env)
      and_both = (T_and (truth_on image table side (record_at table e).a env) (truth_on image table side (record_at table e).b env)).0 (holds_as h and_is)

      pub and-steps : ((row Rule.And).code ∷ []) ++ (entry_steps image table side (record_at table e).a (env_of env) ++ entry_steps image table side
          (record_at table e).b (env_of env))
          ≡ entry_steps image table side e (env_of env)
      unfolding entry_steps
      and-steps = steps-as h and_is

    -- Or: left where it holds, else right, which then holds.
    module _ (h : InHand image table side e env K.Or) where
      or_is : on image table side e ≡ or (on image table side (record_at table e).a) (on image table side (record_at table e).b)
      or_is = join-of K.Or or (λ tree. refl) h (rule-of h).a (rule-of h).b

      pub or_right : (T (truth_on image table side (record_at table e).a env) → ⊥) → T (truth_on image table side (record_at table e).b env)
      or_right f =
          ⊎_elim (λ u. absurd (f u)) (λ u. u)
          ((T-or (truth_on image table side (record_at table e).a env) (truth_on image table side (record_at table e).b env)).0 (holds_as h or_is))

      pub left-steps : T (truth_on image table side (record_at table e).a env)
          → ((row Rule.OrLeft).code ∷ []) ++ entry_steps image table side (record_at table e).a (env_of env) ≡ entry_steps image table side e (env_of env)
      unfolding entry_steps
      left-steps t = go (truth_on image table side (record_at table e).a env) refl t ∙ steps-as h or_is
        where
          go : (b : Bool) → truth_on image table side (record_at table e).a env ≡ b → T b
              → ((row Rule.OrLeft).code ∷ []) ++ written (graph_of image) (on image table side (record_at table e).a) (env_of env)
              ≡ written (graph_of image) (or (on image table side (record_at table e).a) (on image table side (record_at table e).b)) (env_of env)
          go true q u = rw q refl
          go false q u = absurd u

      pub right-steps : (T (truth_on image table side (record_at table e).a env) → ⊥)
          → ((row Rule.OrRight).code ∷ []) ++ entry_steps image table side (record_at table e).b (env_of env) ≡ entry_steps image table side e (env_of env)
      unfolding entry_steps
      right-steps f = go (truth_on image table side (record_at table e).a env) refl (λ t. f t) ∙ steps-as h or_is
        where
          go : (b : Bool) → truth_on image table side (record_at table e).a env ≡ b → (T b → ⊥)
              → ((row Rule.OrRight).code ∷ []) ++ written (graph_of image) (on image table side (record_at table e).b) (env_of env)
              ≡ written (graph_of image) (or (on image table side (record_at table e).a) (on image table side (record_at table e).b)) (env_of env)
          go true q u = absurd (u tt)
          go false q u = rw q refl

    -- AX: a holds at each successor, and its steps follow, ascending.
    module _ (h : InHand image table side e env K.AX) where
      ax-is : on image table side e ≡ AX (record_at table e).x (on image table side (record_at table e).a) (term_of (record_at table e).t)
      ax-is = one_of K.AX AX (λ tree. refl) h (rule-of h).a

      pub ax-each : T (each_next (graph_of image) (a_of image table side e (env_of env)).holds (start_of image table side e (env_of env)))
      ax-each = holds_as h ax-is

      pub ax-steps : ((row Rule.Ax).code ∷ []) ++ through (stages_of image) ((graph_of image).next (start_of image table side e (env_of env)))
          (a_of image table side e (env_of env)).steps
          ≡ entry_steps image table side e (env_of env)
      unfolding entry_steps
      ax-steps = steps-as h ax-is

    -- EX: a holds at some successor, and at the lowest such its steps follow.
    module _ (h : InHand image table side e env K.EX) where
      ex-is : on image table side e ≡ EX (record_at table e).x (on image table side (record_at table e).a) (term_of (record_at table e).t)
      ex-is = one_of K.EX EX (λ tree. refl) h (rule-of h).a

      pub ex-some : T (some_next (graph_of image) (a_of image table side e (env_of env)).holds (start_of image table side e (env_of env)))
      ex-some = holds_as h ex-is

      pub ex-steps : (c : ℕ) → c ≡ lowest_next (graph_of image) (a_of image table side e (env_of env)).holds (start_of image table side e (env_of env))
          → ((row (Rule.Ex c)).code ∷ []) ++ ((c ∷ []) ++ (a_of image table side e (env_of env)).steps c) ≡ entry_steps image table side e (env_of env)
      unfolding entry_steps
      ex-steps c q =
          ap (λ (d : ℕ). ((row (Rule.Ex d)).code ∷ []) ++ ((d ∷ []) ++ (a_of image table side e (env_of env)).steps d)) q ∙ steps-as h ex-is

    -- AF, EG, AR and EU: they hold at the start of their walks, from which their steps are those on an empty walk.
    module _ (h : InHand image table side e env K.AF) where
      af-is : on image table side e ≡ AF (record_at table e).x (on image table side (record_at table e).a) (term_of (record_at table e).t)
      af-is = one_of K.AF AF (λ tree. refl) h (rule-of h).a

      pub af-from : T (af (graph_of image) (a_of image table side e (env_of env)).holds (start_of image table side e (env_of env)))
      af-from = holds_as h af-is

      pub af-start : af_steps image table side e (env_of env) (start_of image table side e (env_of env)) ≡ entry_steps image table side e (env_of env)
      unfolding entry_steps one_steps
      af-start = steps-as h af-is

    module _ (h : InHand image table side e env K.EG) where
      eg-is : on image table side e ≡ EG (record_at table e).x (on image table side (record_at table e).a) (term_of (record_at table e).t)
      eg-is = one_of K.EG EG (λ tree. refl) h (rule-of h).a

      pub eg-from : T (eg (graph_of image) (a_of image table side e (env_of env)).holds (start_of image table side e (env_of env)))
      eg-from = holds_as h eg-is

      pub eg-start : one_steps image table side RuleKind.EG e (env_of env) (suc (stages_of image)) empty (start_of image table side e (env_of env))
          ≡ entry_steps image table side e (env_of env)
      unfolding entry_steps one_steps
      eg-start = steps-as h eg-is

    module _ (h : InHand image table side e env K.AR) where
      ar-is : on image table side e ≡ AR (record_at table e).x (on image table side (record_at table e).a) (record_at table e).y (on image table side
          (record_at table e).b) (term_of (record_at table e).t)
      ar-is = two-of K.AR AR (λ tree. refl) h (rule-of h).a (rule-of h).b

      pub ar-from : T (ar (graph_of image) (a_of image table side e (env_of env)).holds (b_of image table side e (env_of env)).holds
          (start_of image table side e (env_of env)))
      ar-from = holds_as h ar-is

      pub ar-start : two_steps image table side RuleKind.AR e (env_of env) (suc (stages_of image)) empty (start_of image table side e (env_of env))
          ≡ entry_steps image table side e (env_of env)
      unfolding entry_steps two_steps
      ar-start = steps-as h ar-is

    module _ (h : InHand image table side e env K.EU) where
      eu-is : on image table side e ≡ EU (record_at table e).x (on image table side (record_at table e).a) (record_at table e).y (on image table side
          (record_at table e).b) (term_of (record_at table e).t)
      eu-is = two-of K.EU EU (λ tree. refl) h (rule-of h).a (rule-of h).b

      pub eu-from : T (eu (graph_of image) (a_of image table side e (env_of env)).holds (b_of image table side e (env_of env)).holds
          (start_of image table side e (env_of env)))
      eu-from = holds_as h eu-is

      pub eu-start : two_steps image table side RuleKind.EU e (env_of env) (suc (stages_of image)) empty (start_of image table side e (env_of env))
          ≡ entry_steps image table side e (env_of env)
      unfolding entry_steps two_steps
      eu-start = steps-as h eu-is
