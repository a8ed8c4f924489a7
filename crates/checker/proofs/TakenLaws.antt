-- What a step answers whose rule is read and whose condition holds, over plain values: what its premises do. The kind, the head and the condition are as the
-- code found them, so that an arm hands over its premises, and nothing else.
--
--     Passed, passed-of           a rule is read, and its condition holds
--     its-a, its-b, a-now, b-now  the entry's operands, in its variables and with one at the stage of the walk
--     keeps, granted, taken       so it is with the rule that the arm names, and its premises are read
--     GoingOn, going-on, goes-on  EG and EU go on alike: a, and then the walk at the chosen stage
use Prim.Native.Nat.{ℕ, ◌<◌}
use mathlib.Core.Path.{◌≡◌, refl, sym, ap, ◌∙◌}
use mathlib.Core.Bool.{Bool, true}
use mathlib.Core.List.{List}
use mathlib.Core.Logic.{◌⊎◌, ⊎_elim}
use lib.Dec.{T}
use Rattle.hand.specs.declared.setup.Entry.{Entry}
use Rattle.sets.specs.declared.Set.{Set}
use Rattle.std.specs.Prelude.{Ok}
use Rattle.model.specs.Formula.{Env}
use Rattle.sets.specs.Member.{Has}
use Rattle.format.specs.Image.{graph_of}
use Rattle.format.specs.Table.{record_at, kind_of, sort_of, RuledAs}
use Rattle.rules.specs.Table.{kind_for}
use Rattle.rules.specs.Head.{head_of, Head, step_by}
use Rattle.rules.specs.Reading.{Progress, onward}
use Rattle.rules.specs.declared.Rule.{Rule}
use Rattle.hand.specs.Environment.{env_of, Bound}
use Rattle.hand.specs.declared.env.Env.{Env as Slots}
use Rattle.hand.specs.Setup.{entry_at}
use Rattle.checker.specs.Reading.{Lent, OnWalk, allows, read_operand, read_a, read_b, read_along, read_on, read_premises_of}
use Rattle.checker.proofs.ArmLaws.{Operand, a-operand, b-operand, a-bound, b-bound, Arm, arm-of, arm-ruled, arm-proves}
use Rattle.checker.proofs.ConditionLaws.{and-left, and-right, off-walk}

-- At a stage of a walk a rule is read for the entry's formula, and its condition holds.
pub record Passed (image table : List ℕ) (side : ℕ) (sets : List Set) (entries : List Entry) (bytes : List ℕ) (e : ℕ) (env : Env) (at : ℕ) (rule : Rule) (next set s : ℕ) : Type 0 where
  pub lent : Lent image table side sets entries
  pub walk : OnWalk image table e env s
  pub arm : Arm table side bytes e at rule next
  pub holds : allows image (record_at table e) env set s rule ≡ true

pub passed-of : {image table : List ℕ} {sets : List Set} {entries : List Entry} {side : ℕ} → Lent image table side sets entries
    → {e : ℕ} {env : Env} {s : ℕ} → OnWalk image table e env s → {bytes : List ℕ} {at kind : ℕ} → kind ≡ (entry_at entries e).kind
    → {h : Head} → h ≡ head_of bytes at kind → {rule : Rule} {next : ℕ} → h ≡ Ok (step_by rule next)
    → {set : ℕ} {b : Bool} → b ≡ allows image (record_at table e) env set s rule → b ≡ true
    → Passed image table side sets entries bytes e env at rule next set s
passed-of lent w {bytes} {at} is h-is found allowed f = record {
  lent = lent;
  walk = w;
  arm = arm-of lent w.hand bytes at is h-is found;
  holds = sym allowed ∙ f;
}

module _ {image table : List ℕ} {side : ℕ} {sets : List Set} {entries : List Entry} {bytes : List ℕ} {e : ℕ} {env : Env} {at : ℕ} {rule : Rule} {next set s : ℕ}
    (passed : Passed image table side sets entries bytes e env at rule next set s) where
  -- The a and the b of the entry, in its variables.
  pub its-a : (record_at table e).a < e → {o : ℕ} → o ≡ (entry_at entries e).a
      → Operand image table side bytes e o env (read_operand image table bytes side e (record_at table e).a env)
  its-a low o_is = a-operand passed.lent bytes passed.walk.hand low o_is

  pub its-b : (record_at table e).b < e → {o : ℕ} → o ≡ (entry_at entries e).b
      → Operand image table side bytes e o env (read_operand image table bytes side e (record_at table e).b env)
  its-b low o_is = b-operand passed.lent bytes passed.walk.hand low o_is

  module _ {q : Rule} (named : rule ≡ q) where
    -- The rule is the one that the arm names,
    own-arm : Arm table side bytes e at q next
    own-arm = record { head = passed.arm.head ∙ ap (λ (r : Rule). Ok (step_by r next)) named }

    -- whose kind's rules the record keeps,
    pub keeps : RuledAs (sort_of (kind_of (kind_for q))) image e (record_at table e)
    keeps = arm-ruled passed.lent passed.walk.hand own-arm

    -- whose condition holds,
    pub granted : allows image (record_at table e) env set s q ≡ true
    granted = ap (λ (r : Rule). allows image (record_at table e) env set s r) (sym named) ∙ passed.holds

    -- and its premises are read.
    pub taken : {p : Progress} → p ≡ read_premises_of image table bytes side e (record_at table e) env set s q next
        → p ≡ read_along image table bytes side e env set s at
    taken premises = arm-proves passed.lent passed.walk.hand own-arm set s refl granted premises

  -- Of two successors that are chosen alike: EG and EU go on with a, and then with the walk at the chosen stage.
  module _ {c : ℕ} (named : (rule ≡ Rule.EgOn c) ⊎ (rule ≡ Rule.EuLater c)) where
    pub record GoingOn : Type 0 where
      pub lower : (record_at table e).a < e
      pub successor : T ((graph_of image).next s c)
      pub off : Has set s → ⊥

    pub going-on : GoingOn
    going-on = ⊎_elim
        (λ i. record {
          lower = (keeps {q = Rule.EgOn c} i).a;
          successor = and-left _ _ (granted i);
          off = off-walk _ _ (and-right _ _ (granted i));
        })
        (λ i. record {
          lower = (keeps {q = Rule.EuLater c} i).a;
          successor = and-left _ _ (granted i);
          off = off-walk _ _ (and-right _ _ (granted i));
        })
        named

    pub goes-on : {p : Progress} → p ≡ onward (read_a image table bytes side e (record_at table e) env s next) (read_on image table bytes side e env set s c)
        → p ≡ read_along image table bytes side e env set s at
    goes-on premises = ⊎_elim (λ i. taken i premises) (λ i. taken i premises) named

-- The a and the b of the entry, with x and y at the stage of the walk.
module _ {image table : List ℕ} {side : ℕ} {sets : List Set} {entries : List Entry} {bytes : List ℕ} {e : ℕ} {env env' : Slots} {at : ℕ} {rule : Rule} {next set s : ℕ}
    (passed : Passed image table side sets entries bytes e (env_of env) at rule next set s) where
  pub a-now : (record_at table e).a < e → {o : ℕ} → o ≡ (entry_at entries e).a → Bound env ((entry_at entries e).x) s env'
      → Operand image table side bytes e o (env_of env') (read_a image table bytes side e (record_at table e) (env_of env) s)
  a-now low o_is b = a-bound passed.lent bytes passed.walk.hand low o_is b passed.walk.stage

  pub b-now : (record_at table e).b < e → {o : ℕ} → o ≡ (entry_at entries e).b → Bound env ((entry_at entries e).y) s env'
      → Operand image table side bytes e o (env_of env') (read_b image table bytes side e (record_at table e) (env_of env) s)
  b-now low o_is b = b-bound passed.lent bytes passed.walk.hand low o_is b passed.walk.stage
