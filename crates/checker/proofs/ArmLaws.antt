-- An entry's formula in hand, from what the readers are lent: the fields of its record, the operands that its rule asks, the stage at which its walk
-- starts; and a step of it whose head is read.
--
--     room, kind-is, a-is, b-is, x-is, y-is, t-is   an entry's number is small, and its fields are those of its record on the side
--     start_is, start-inside, from-its-start        the stage at which its walk starts
--     bound-inside                                  a binding at a stage leaves every variable at one
--     Operand, a-operand, b-operand, a-bound, b-bound
--                                                   an operand is in hand too, and its entry is read for it
--     onto, stage-room                              the walk at a successor; a stage is below the width
--     Arm, arm-of                                   a rule is read for the formula in hand, and stands in an arm of the code's `match`
--     arm-kind, arm-ruled                           it is for the entry's kind, and its record keeps the rules of the kind
--     arm-fails, arm-proves                         its condition fails, or holds and then the premises are read
--     head-unread                                   no rule is read
--     arm-inside, not-one                           the rule's bytes are there, and it is not for "false"
--     next-is                                       the test for a chosen stage asks whether it is a successor
use Prim.Native.Nat.{ℕ, zero, suc, ◌≤◌, ◌<◌}
use native.Mathlib.Omega.{arith}
use mathlib.Core.Path.{◌≡◌, refl, sym, ap, subst, ◌∙◌}
use mathlib.Core.Bool.{Bool, true, false}
use mathlib.Core.List.{List}
use mathlib.Core.Logic.{⊎_elim}
use lib.Dec.{T, eqb, ltb}
use lib.ListN.{length}
use borrow.Author.Tests.{lt-ltb, le-ltb}
use Rattle.sets.specs.declared.Set.{Set}
use Rattle.model.specs.Decides.{Decides}
use Rattle.model.specs.Formula.{Env, bind, pick, value}
use Rattle.sets.specs.Member.{Has}
use Rattle.sets.specs.Number.{width}
use Rattle.sets.specs.Row.{held}
use Rattle.sets.proofs.LawsMember.{side?}
use Rattle.format.specs.Image.{stages_of, graph_of}
use Rattle.format.specs.Table.{record_at, kind_of, sort_of, term_of, IsTerm, a_stage, a_variable, RuledAs}
use Rattle.format.proofs.ReadingLaws.{all-ruled}
use Rattle.format.specs.declared.record.Record.{Record}
use Rattle.format.specs.declared.record.Kind.{Kind}
use Rattle.format.specs.declared.record.Kind.TheVariants as K
use Rattle.rules.specs.Table.{row, kind_for}
use Rattle.rules.specs.Head.{head_of, Head, step_by}
use Rattle.rules.specs.Reading.{Reader, Progress}
use Rattle.rules.specs.declared.Rule.{Rule}
use Rattle.std.specs.Prelude.{Ok, Err}
use Rattle.rules.specs.declared.Unread.{Unread}
use Rattle.rules.specs.declared.Stop.{Stop}
use Rattle.rules.proofs.Heads.{no_code_lem, head-begins, not-false}
use Rattle.rules.proofs.Rows.{inside}
use Rattle.rules.proofs.StepLaws.{number-kind}
use Rattle.hand.specs.Environment.{env_of, Bound}
use Rattle.hand.specs.declared.env.Env.{Env as Slots}
use Rattle.hand.specs.Side.{kind_on, number_of}
use Rattle.hand.specs.Hand.{start_as, start_in}
use Rattle.hand.specs.Setup.{most_entries, kind_in, entry_at, entry_of}
use Rattle.hand.specs.declared.setup.Entry.{Entry}
use Rattle.hand.proofs.EnvironmentLaws.{stage-value, variable-value}
use Rattle.hand.proofs.HandLaws.{leads-is}
use Rattle.hand.proofs.SetupLaws.{next-set}
use Rattle.hand.proofs.SideLaws.{of_number, start-side}
use Rattle.checker.specs.Cause.{unread, stop_at}
use Rattle.checker.specs.Reading.{Lent, InHand, OnWalk, Started}
use Rattle.checker.specs.Reading.{allows, read_entry, read_operand, read_a, read_b, read_along, read_premises_of}
use Rattle.checker.proofs.ReadingLaws.{lower-operand, step-missing, step-wrong, step-fails, step-proves}

-- ---- kinds on a side

-- The kinds of a pair stand in one row, so that a record keeps the rules of its kind on either side.
ruled-side : (image : List ℕ) (e : ℕ) (r : Record) (side : ℕ) (k : Kind) → RuledAs (sort_of k) image e r → RuledAs (sort_of (kind_on side k)) image e r
ruled-side image e r zero k h = h
ruled-side image e r (suc n) K.True h = h
ruled-side image e r (suc n) K.False h = h
ruled-side image e r (suc n) K.Is h = h
ruled-side image e r (suc n) K.IsNot h = h
ruled-side image e r (suc n) K.And h = h
ruled-side image e r (suc n) K.Or h = h
ruled-side image e r (suc n) K.AX h = h
ruled-side image e r (suc n) K.EX h = h
ruled-side image e r (suc n) K.AF h = h
ruled-side image e r (suc n) K.EG h = h
ruled-side image e r (suc n) K.AR h = h
ruled-side image e r (suc n) K.EU h = h

-- The kinds from 6 on are those of the modalities, whose walk starts at their term.
start-number : (k : Kind) (s : ℕ) → pick (ltb (number_of k) 6) 0 s ≡ start_as (sort_of k) s
start-number K.True s = refl
start-number K.False s = refl
start-number K.Is s = refl
start-number K.IsNot s = refl
start-number K.And s = refl
start-number K.Or s = refl
start-number K.AX s = refl
start-number K.EX s = refl
start-number K.AF s = refl
start-number K.EG s = refl
start-number K.AR s = refl
start-number K.EU s = refl

modal-term : (image : List ℕ) (e : ℕ) (r : Record) (k : Kind) → 6 ≤ number_of k → RuledAs (sort_of k) image e r → IsTerm (stages_of image) r.t
modal-term image e r K.True l h = absurd (omega arith)
modal-term image e r K.False l h = absurd (omega arith)
modal-term image e r K.Is l h = absurd (omega arith)
modal-term image e r K.IsNot l h = absurd (omega arith)
modal-term image e r K.And l h = absurd (omega arith)
modal-term image e r K.Or l h = absurd (omega arith)
modal-term image e r K.AX l h = h.t
modal-term image e r K.EX l h = h.t
modal-term image e r K.AF l h = h.t
modal-term image e r K.EG l h = h.t
modal-term image e r K.AR l h = h.t
modal-term image e r K.EU l h = h.t

-- A binding at a stage leaves every variable at one.
pub bound-inside : {env env' : Slots} {x t n : ℕ} → Bound env x t env' → x < 4 → ((v : ℕ) → env_of env v < n) → t < n → (v : ℕ) → env_of env' v < n
bound-inside {env} {env'} {x} {t} {n} b small all h v =
    subst (λ (c : Env). c v < n) (sym (b.here small)) (picked (eqb v x))
  where
    picked : (c : Bool) → pick c t (env_of env v) < n
    picked true = h
    picked false = all v

-- ---- an entry in hand

module _ {image table : List ℕ} {sets : List Set} {entries : List Entry} {side : ℕ} (lent : Lent image table side sets entries) where
  module _ {e : ℕ} {env : Env} (hand : InHand image table e env) where
    -- There is room for its number.
    pub room : e < most_entries
    room = omega (arith, hand.below, lent.few)

    -- Its fields are those of its record on the side.
    pub entry-is : entry_at entries e ≡ entry_of image side (record_at table e)
    entry-is = lent.entry e hand.below

    pub kind-is : (entry_at entries e).kind ≡ kind_in side (record_at table e)
    unfolding entry_of
    kind-is = ap (λ (p : Entry). p.kind) entry-is

    pub a-is : (entry_at entries e).a ≡ (record_at table e).a
    unfolding entry_of
    a-is = ap (λ (p : Entry). p.a) entry-is

    pub b-is : (entry_at entries e).b ≡ (record_at table e).b
    unfolding entry_of
    b-is = ap (λ (p : Entry). p.b) entry-is

    pub x-is : (entry_at entries e).x ≡ (record_at table e).x
    unfolding entry_of
    x-is = ap (λ (p : Entry). p.x) entry-is

    pub y-is : (entry_at entries e).y ≡ (record_at table e).y
    unfolding entry_of
    y-is = ap (λ (p : Entry). p.y) entry-is

    pub t-is : (entry_at entries e).t ≡ (record_at table e).t
    unfolding entry_of
    t-is = ap (λ (p : Entry). p.t) entry-is

    -- Its record keeps the rules of its kind on the side.
    ruled-here : RuledAs (sort_of (kind_on side (kind_of (record_at table e).kind))) image e (record_at table e)
    ruled-here = ruled-side image e (record_at table e) side (kind_of (record_at table e).kind) (all-ruled image table lent.ruled e hand.below).keeps

    -- Its walk starts where the rules start it, at a stage.
    pub start_is : {s : ℕ} → Started ((entry_at entries e).kind) ((entry_at entries e).t) env s → s ≡ start_in (record_at table e) env
    start_is {s} h =
        h.is
        ∙ ap (λ (k : ℕ). pick (ltb k 6) 0 (value env (term_of ((entry_at entries e).t)))) kind-is
        ∙ ap (λ (t : ℕ). pick (ltb (kind_in side (record_at table e)) 6) 0 (value env (term_of t))) t-is
        ∙ start-number (kind_on side (kind_of (record_at table e).kind)) (value env (term_of (record_at table e).t))
        ∙ start-side side (kind_of (record_at table e).kind) (value env (term_of (record_at table e).t))

    term-inside : {t : ℕ} → IsTerm (stages_of image) t → value env (term_of t) < stages_of image
    term-inside {t} (a_stage h) = omega (arith, stage-value env t (omega (arith, lent.small.stages)))
    term-inside {t} (a_variable l m) = subst (λ (s : ℕ). s < stages_of image) (variable-value env t l) (hand.inside _)

    pub start-inside : {s : ℕ} → Started ((entry_at entries e).kind) ((entry_at entries e).t) env s → s < stages_of image
    start-inside {s} h = ⊎_elim
        (λ l. omega (arith, lent.some, h.is, ap (λ (b : Bool). pick b 0 (value env (term_of ((entry_at entries e).t)))) (lt-ltb ((entry_at entries e).kind) 6 l)))
        (λ l. subst (λ (z : ℕ). z < stages_of image)
        (sym (h.is ∙ ap (λ (b : Bool). pick b 0 (value env (term_of ((entry_at entries e).t)))) (le-ltb ((entry_at entries e).kind) 6 l)))
        (subst (λ (t : ℕ). value env (term_of t) < stages_of image) (sym t-is) (term-inside
        (modal-term image e (record_at table e) (kind_on side (kind_of (record_at table e).kind)) (subst (λ (k : ℕ). 6 ≤ k) kind-is l) ruled-here))))
        (side? ((entry_at entries e).kind) 6)

    -- So it is on its walk from its start.
    pub from-its-start : {s : ℕ} → Started ((entry_at entries e).kind) ((entry_at entries e).t) env s → OnWalk image table e env s
    from-its-start h = record { hand = hand; stage = start-inside h }

  -- The walk at a successor.
  pub onto : {e : ℕ} {env : Env} {s : ℕ} (c : ℕ) → OnWalk image table e env s → T ((graph_of image).next s c) → OnWalk image table e env c
  onto {s = s} c w h = record { hand = w.hand; stage = (lent.small.inside s c h).1 }

  -- A stage is below the width.
  pub stage-room : {e : ℕ} {env : Env} {s : ℕ} → OnWalk image table e env s → s < width
  stage-room w = omega (arith, w.stage, lent.small.stages)

-- ---- operands

-- An operand of e is in hand, and its entry is read for it.
pub record Operand (image table : List ℕ) (side : ℕ) (steps : List ℕ) (e o : ℕ) (env : Env) (read : Reader) : Type 0 where
  pub hand : InHand image table o env
  pub lower : o < e
  pub reads : {p : Progress} (at : ℕ) → p ≡ read_entry image table steps side o env at → p ≡ read at

module _ {image table : List ℕ} {sets : List Set} {entries : List Entry} {side : ℕ} (lent : Lent image table side sets entries) (steps : List ℕ) {e : ℕ} where
  -- In the same variables.
  operand : {env : Env} → InHand image table e env → {o f i : ℕ} → o ≡ f → f ≡ i → i < e
      → Operand image table side steps e o env (read_operand image table steps side e i env)
  operand {env} hand {o} {f} {i} o_is f-is low = record {
    hand = record { below = omega (arith, hand.below); inside = hand.inside };
    lower = omega arith;
    reads = λ {p} at p-is. lower-operand image table steps side e i env (Ok at) low
        (p-is ∙ ap (λ (j : ℕ). read_entry image table steps side j env at) (o_is ∙ f-is));
  }

  -- With one of them bound to a stage.
  operand_at : {env env' : Slots} → InHand image table e (env_of env) → {o f i z x t : ℕ} → o ≡ f → f ≡ i → i < e → Bound env z t env' → z ≡ x → x < 4
      → t < stages_of image → Operand image table side steps e o (env_of env') (read_operand image table steps side e i (bind (env_of env) x t))
  operand_at {env} {env'} hand {o} {f} {i} {z} {x} {t} o_is f-is low b z-is small h = record {
    hand = record { below = omega (arith, hand.below); inside = bound-inside b (omega arith) hand.inside h };
    lower = omega arith;
    reads = λ {p} at p-is. lower-operand image table steps side e i (bind (env_of env) x t) (Ok at) low
        (p-is
        ∙ ap (λ (j : ℕ). read_entry image table steps side j (env_of env') at) (o_is ∙ f-is)
        ∙ ap (λ (c : Env). read_entry image table steps side i c at) (b.here (omega arith) ∙ ap (λ (v : ℕ). bind (env_of env) v t) z-is));
  }

  -- The a and the b of an entry, with its variables as they are, and with x and y at a stage.
  pub a-operand : {env : Env} → InHand image table e env → (record_at table e).a < e → {o : ℕ} → o ≡ (entry_at entries e).a
      → Operand image table side steps e o env (read_operand image table steps side e (record_at table e).a env)
  a-operand hand low o_is = operand hand o_is (a-is lent hand) low

  pub b-operand : {env : Env} → InHand image table e env → (record_at table e).b < e → {o : ℕ} → o ≡ (entry_at entries e).b
      → Operand image table side steps e o env (read_operand image table steps side e (record_at table e).b env)
  b-operand hand low o_is = operand hand o_is (b-is lent hand) low

  module _ {env env' : Slots} {t : ℕ} (hand : InHand image table e (env_of env)) where
    pub a-bound : (record_at table e).a < e → {o : ℕ} → o ≡ (entry_at entries e).a → Bound env ((entry_at entries e).x) t env' → t < stages_of image
        → Operand image table side steps e o (env_of env') (read_a image table steps side e (record_at table e) (env_of env) t)
    a-bound low o_is b h = operand_at hand o_is (a-is lent hand) low b (x-is lent hand) (lent.small.x e) h

    pub b-bound : (record_at table e).b < e → {o : ℕ} → o ≡ (entry_at entries e).b → Bound env ((entry_at entries e).y) t env' → t < stages_of image
        → Operand image table side steps e o (env_of env') (read_b image table steps side e (record_at table e) (env_of env) t)
    b-bound low o_is b h = operand_at hand o_is (b-is lent hand) low b (y-is lent hand) (lent.small.y e) h

-- ---- a step whose head is read

-- The rule q is read for the formula of entry e, and the next step begins at `next`.
pub record Arm (table : List ℕ) (side : ℕ) (steps : List ℕ) (e at : ℕ) (q : Rule) (next : ℕ) : Type 0 where
  pub head : head_of steps at (kind_in side (record_at table e)) ≡ Ok (step_by q next)

module _ {image table : List ℕ} {sets : List Set} {entries : List Entry} {side : ℕ} (lent : Lent image table side sets entries)
    {e : ℕ} {env : Env} (hand : InHand image table e env) where
  module _ (steps : List ℕ) (at : ℕ) {kind : ℕ} (is : kind ≡ (entry_at entries e).kind) {h : Head} (h-is : h ≡ head_of steps at kind) where
    head-is : h ≡ head_of steps at (kind_in side (record_at table e))
    head-is = h-is ∙ ap (head_of steps at) (is ∙ kind-is lent hand)

    pub arm-of : {rule : Rule} {next : ℕ} → h ≡ Ok (step_by rule next) → Arm table side steps e at rule next
    arm-of f = record { head = sym head-is ∙ f }

    -- No rule is read.
    pub head-unread : (set s : ℕ) (u : Unread) → h ≡ Err u → Err (stop_at (unread u) at) ≡ read_along image table steps side e env set s at
    head-unread set s Unread.Missing f = step-missing image table steps side e refl env set s at refl refl head-is f
    head-unread set s Unread.Wrong f = step-wrong image table steps side e refl env set s at refl refl head-is f

  module _ {steps : List ℕ} {at : ℕ} {q : Rule} {next : ℕ} (arm : Arm table side steps e at q next) where
    for-kind : kind_for q ≡ kind_in side (record_at table e)
    for-kind = (head-begins steps at (kind_in side (record_at table e)) arm.head).1

    -- The rule is for the kind in the entry's field.
    pub arm-kind : kind_for q ≡ (entry_at entries e).kind
    arm-kind = for-kind ∙ sym (kind-is lent hand)

    -- So its record keeps the rules of the rule's kind.
    pub arm-ruled : RuledAs (sort_of (kind_of (kind_for q))) image e (record_at table e)
    arm-ruled =
        let k = kind_on side (kind_of (record_at table e).kind) in
        let k-is : k ≡ kind_of (kind_for q) = of_number k ∙ ap kind_of (sym for-kind) in
        subst (λ (j : Kind). RuledAs (sort_of j) image e (record_at table e)) k-is (ruled-here lent hand)

    module _ (set s : ℕ) {b : Bool} (allowed : b ≡ allows image (record_at table e) env set s q) where
      -- Its condition fails,
      pub arm-fails : b ≡ false → Err (Stop.Fails at) ≡ read_along image table steps side e env set s at
      arm-fails f = step-fails image table steps side e refl env set s at refl refl refl arm.head allowed f

      -- or holds, and then the premises are read.
      pub arm-proves : {p : Progress} → b ≡ true → p ≡ read_premises_of image table steps side e (record_at table e) env set s q next
          → p ≡ read_along image table steps side e env set s at
      arm-proves f p-is = step-proves image table steps side e refl env set s at refl refl refl arm.head allowed f p-is

-- The rule's own bytes are there.
pub arm-inside : {table steps : List ℕ} {side e at : ℕ} {q : Rule} {next : ℕ} → Arm table side steps e at q next → next ≤ length steps
arm-inside {table} {steps} {side} {e} {at} {q} {next} arm = ⊎_elim
    (λ l. inside (head-begins steps at (kind_in side (record_at table e)) arm.head).0 (omega arith))
    (λ l. absurd (none (no_code_lem steps at (kind_in side (record_at table e)) l ∙ arm.head)))
    (side? at (length steps))
  where
    none : ◌≡◌ {A = Head} (Err Unread.Missing) (Ok (step_by q next)) → ⊥
    none f = cc

-- No rule is for "false".
pub not-one : (q : Rule) → kind_for q ≡ 1 → ⊥
not-one q e = not-false q (number-kind (row q).kind _ e)

-- The test for a chosen stage asks whether it is a successor.
pub next-is : {image table : List ℕ} {sets : List Set} {entries : List Entry} {side e : ℕ} {env : Env} {s k : ℕ} (c : ℕ) {b : Bool}
    → Lent image table side sets entries → OnWalk image table e env s → k ≡ s → Decides b (Has (held sets k) c) → b ≡ (graph_of image).next s c
next-is {image} {sets = sets} {s = s} c lent w k-is d =
    leads-is image s c (next-set lent.all w.stage (ap (held sets) k-is)) d
