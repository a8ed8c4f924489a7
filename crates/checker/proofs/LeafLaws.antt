-- A formula with no premises, which is read in one step from the start of a walk that goes nowhere.
--
--     no-premises                 a rule for such a formula has none
--     leaf-stage                  it stands at stage 0
--     leaf-unread                 no rule is read
--     leaf-refused, leaf-taken    its rule's condition fails, or holds
use Prim.Native.Nat.{ℕ, ◌<◌}
use native.Mathlib.Omega.{arith}
use mathlib.Core.Path.{◌≡◌, refl, sym, ap}
use mathlib.Core.Bool.{Bool, true, false}
use mathlib.Core.List.{List}
use Rattle.hand.specs.declared.setup.Entry.{Entry}
use Rattle.sets.specs.declared.Set.{Set}
use Rattle.std.specs.Prelude.{Ok, Err}
use Rattle.model.specs.Formula.{Env}
use Rattle.format.specs.Image.{graph_of}
use Rattle.format.specs.Table.{record_at}
use Rattle.rules.specs.Head.{head_of, Head}
use Rattle.rules.specs.Table.{row, body, kind_for, Premises, none}
use Rattle.rules.specs.Reading.{Progress, read_premises}
use Rattle.rules.specs.declared.Rule.{Rule}
use Rattle.rules.specs.declared.Stop.{Stop}
use Rattle.rules.specs.declared.Unread.{Unread}
use Rattle.hand.specs.Setup.{entry_at}
use Rattle.checker.specs.Cause.{unread, stop_at}
use Rattle.checker.specs.Reading.{Lent, InHand, OnWalk, allows, binds, parts_of, read_along, read_entry}
use Rattle.checker.proofs.StartLaws.{starts_none}
use Rattle.checker.proofs.ReadingLaws.{from_start}
use Rattle.checker.proofs.ArmLaws.{Arm, arm-kind, arm-fails, arm-proves, head-unread, start_is}

-- The rules for formulas of the first four kinds have no premises.
pub no-premises : (q : Rule) → kind_for q < 4 → (body q).premises ≡ none
no-premises Rule.True h = refl
no-premises Rule.Holds h = refl
no-premises Rule.HoldsNot h = refl
no-premises Rule.And h = absurd (omega arith)
no-premises Rule.OrLeft h = absurd (omega arith)
no-premises Rule.OrRight h = absurd (omega arith)
no-premises Rule.Ax h = absurd (omega arith)
no-premises (Rule.Ex c) h = absurd (omega arith)
no-premises Rule.AfNow h = absurd (omega arith)
no-premises Rule.AfLater h = absurd (omega arith)
no-premises (Rule.EgOn c) h = absurd (omega arith)
no-premises Rule.EgMerge h = refl
no-premises Rule.ArRelease h = absurd (omega arith)
no-premises Rule.ArOn h = absurd (omega arith)
no-premises Rule.ArMerge h = refl
no-premises Rule.EuNow h = absurd (omega arith)
no-premises (Rule.EuLater c) h = absurd (omega arith)

module _ {image table : List ℕ} {sets : List Set} {entries : List Entry} {side : ℕ} (lent : Lent image table side sets entries)
    {e : ℕ} {env : Env} (hand : InHand image table e env) (low : (entry_at entries e).kind < 4) where
  -- It has no term, and stands at stage 0.
  pub leaf-stage : OnWalk image table e env 0
  leaf-stage = record { hand = hand; stage = lent.some }

  module _ (bytes : List ℕ) (at : ℕ) {set : ℕ} (empty : set ≡ 0) where
    -- The reading along its empty walk is the formula's.
    whole : {p : Progress} → p ≡ read_along image table bytes side e env set 0 at → p ≡ read_entry image table bytes side e env at
    whole p-is =
        from_start image table bytes side e refl env (Ok at) empty
        (start_is lent hand (starts_none ((entry_at entries e).kind) ((entry_at entries e).t) env (omega arith))) p-is

    pub leaf-unread : {kind : ℕ} → kind ≡ (entry_at entries e).kind → {h : Head} → h ≡ head_of bytes at kind → (u : Unread) → h ≡ Err u
        → Err (stop_at (unread u) at) ≡ read_entry image table bytes side e env at
    leaf-unread is h-is u f = whole (head-unread lent hand bytes at is h-is set 0 u f)

  module _ {bytes : List ℕ} {at : ℕ} {rule : Rule} {next : ℕ} (arm : Arm table side bytes e at rule next) {set : ℕ} (empty : set ≡ 0)
      {b : Bool} (allowed : b ≡ allows image (record_at table e) env set 0 rule) where
    pub leaf-refused : b ≡ false → Err (Stop.Fails at) ≡ read_entry image table bytes side e env at
    leaf-refused f = whole bytes at empty (arm-fails lent hand arm set 0 allowed f)

    pub leaf-taken : b ≡ true → Ok next ≡ read_entry image table bytes side e env at
    leaf-taken f =
        let none-is = no-premises rule (omega (arith, arm-kind lent hand arm)) in
        whole bytes at empty (arm-proves lent hand arm set 0 allowed f
        (sym (ap (λ (ps : Premises). read_premises (graph_of image)
        (parts_of image table bytes side e (record_at table e) env set 0 (binds (row rule).kind)) 0 ps next) none-is)))
