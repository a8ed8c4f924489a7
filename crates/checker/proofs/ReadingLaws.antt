-- What the readers of steps say, from what they are told: each law takes the contracts of what a reader calls, over plain values, and gives the
-- reader's own.
--
--     goes_on, nothing, in-turn       a reading that came to a place goes on there; what reads nothing; two readings in turn
--     stays, goes                     a second reading after a first: none after one that stopped, else it goes on from the place
--     lower-operand                   an operand is the entry of its number
--     from_start                      an entry, from the start of its walk
--     step-missing, step-wrong, step-fails, step-proves
--                                     one step of a walk
use Prim.Native.Nat.{ℕ, suc, ◌-◌, ◌<◌}
use native.Mathlib.Omega.{arith}
use mathlib.Core.Path.{◌≡◌, refl, sym, ap, ap₂, subst, ◌∙◌, fun_ext}
use mathlib.Core.Bool.{Bool, true, false}
use mathlib.Core.List.{List}
use lib.Count.{ones}
use borrow.Author.Tests.{ne_eqb}
use Rattle.model.specs.Formula.{Formula, Env, value}
use Rattle.logic.specs.Rules.{Walk, empty, also}
use Rattle.sets.specs.Member.{bit}
use Rattle.sets.specs.Number.{width}
use Rattle.sets.proofs.LawsBit.{bit-zero}
use Rattle.sets.proofs.LawsCount.{ones-zero}
use Rattle.format.specs.Image.{graph_of}
use Rattle.format.specs.Table.{kind_of, record_at, term_of, nth, trees, tree_of}
use Rattle.format.specs.declared.record.Record.{Record}
use Rattle.format.specs.declared.record.Kind.{Kind}
use Rattle.format.proofs.TreeLaws.{tree-at}
use Rattle.rules.specs.Head.{head_of, Head, step_by}
use Rattle.rules.specs.Shape.{shape}
use Rattle.rules.specs.Reading.{Reader, onward, headed, asked, read_walk, read_formula, Progress}
use Rattle.rules.specs.declared.Rule.{Rule}
use Rattle.std.specs.Prelude.{Ok, Err}
use Rattle.rules.specs.declared.Unread.{Unread}
use Rattle.rules.specs.declared.Stop.{Stop}
use Rattle.hand.specs.Side.{sided, kind_on, number_of}
use Rattle.hand.specs.Hand.{start_in}
use Rattle.checker.specs.Reading.{walk_of, allows, read_entry, read_operand, read_along, read_on, read_premises_of}
use Rattle.hand.proofs.SideLaws.{sided-entry, start-side}
use Rattle.checker.proofs.StepLaws.{M, rule-read, by_kind, by-rule, start-kind}

-- ---- readings in turn

-- From a place that was come to, the reading goes on there.
pub goes_on : {came : Progress} {at : ℕ} (r : Reader) → came ≡ Ok at → onward came r ≡ r at
goes_on r e = ap (λ (p : Progress). onward p r) e

-- What reads nothing changes nothing.
pub nothing : (came : Progress) → came ≡ onward came Ok
nothing (Ok at) = refl
nothing (Err stop) = refl

-- Two readings in turn.
after_both : (came : Progress) (f g : Reader) → onward (onward came f) g ≡ onward came (λ at. onward (f at) g)
after_both (Ok at) f g = refl
after_both (Err stop) f g = refl

pub in-turn : (came : Progress) {p q : Progress} (f g : Reader) → p ≡ onward came f → q ≡ onward p g → q ≡ onward came (λ at. onward (f at) g)
in-turn came f g e h = h ∙ ap (λ (p : Progress). onward p g) e ∙ after_both came f g

-- A first reading stopped, and no second is made.
pub stays : {stop : Stop} {p : Progress} (k : Reader) → Err stop ≡ p → Err stop ≡ onward p k
stays k e = ap (λ (p : Progress). onward p k) e

-- It came to a place, and the second goes on from there.
pub goes : {at : ℕ} {p q : Progress} (k : Reader) → Ok at ≡ p → q ≡ k at → q ≡ onward p k
goes k e q-is = q-is ∙ ap (λ (p : Progress). onward p k) e

-- ---- operands

module _ (image table bytes : List ℕ) (side e o : ℕ) (env : Env) (came : Progress) where
  -- An operand has a lower number, and is the entry of that number.
  pub lower-operand : {p : Progress} → o < e → p ≡ onward came (read_entry image table bytes side o env)
      → p ≡ onward came (read_operand image table bytes side e o env)
  unfolding read_entry read_operand
  lower-operand h p-is =
      p-is ∙ ap (λ (f : Formula). onward came (read_formula width (graph_of image) bytes (sided side f) env)) (sym (tree-at image table e o h))

-- ---- one step of a walk

module _ (image table bytes : List ℕ) (side e : ℕ) {r : Record} (is : r ≡ record_at table e) (env : Env) where
  -- the kind of the entry's formula on the side, and the formulas of its operands
  abbrev kind : Kind
  kind = kind_on side (kind_of r.kind)

  abbrev tree : ℕ → Formula
  tree o = sided side (nth (trees image table e) o)

  abbrev here : Formula
  here = sided side (tree_of image table e)

  formula-is : here ≡ M width (graph_of image) bytes image tree r env kind
  formula-is = sided-entry image table side e is

  -- From the start of its walk an entry is read as along an empty walk, at its stage.
  pub from_start : (came : Progress) {p : Progress} {set s : ℕ} → set ≡ 0 → s ≡ start_in r env
      → p ≡ onward came (read_along image table bytes side e env set s) → p ≡ onward came (read_entry image table bytes side e env)
  unfolding read_entry read_along
  from_start came {p} {set} {s} set_is s-is p-is =
      p-is ∙ ap (onward came) (
      ap (λ (n : ℕ). read_walk width (graph_of image) bytes here env (suc n) (walk_of set) s) fuel-is
      ∙ ap₂ (λ (w : Walk) (t : ℕ). read_walk width (graph_of image) bytes here env (suc width) w t) walk_is stage_is
      )
    where
      fuel-is : width - ones set ≡ width
      fuel-is = omega (arith, (ones-zero set).1 set_is)

      walk_is : walk_of set ≡ empty
      walk_is = fun_ext (λ t. ne_eqb (bit set t) 1 (λ h. omega (arith, ap (λ (z : ℕ). bit z t) set_is, bit-zero t)))

      stage_is : s ≡ (shape (graph_of image) here env).stage
      stage_is =
          s-is ∙ sym (
          ap (λ (f : Formula). (shape (graph_of image) f env).stage) formula-is
          ∙ start-kind width (graph_of image) bytes image tree r env kind
          ∙ start-side side (kind_of r.kind) (value env (term_of r.t))
          )

  -- One step is read by its head.
  module _ (set s : ℕ) {came : Progress} (at : ℕ) (came-is : came ≡ Ok at) {k : ℕ} (k-is : k ≡ number_of kind)
      {h : Head} (h-is : h ≡ head_of bytes at k) where
    abbrev again : ℕ → Reader
    again t = read_on image table bytes side e env set s t

    head-is : {g : Head} → h ≡ g → head_of bytes at (number_of kind) ≡ g
    head-is f = ap (head_of bytes at) (sym k-is) ∙ sym h-is ∙ f

    by-head-of : {g : Head} → h ≡ g
        → onward came (read_along image table bytes side e env set s)
        ≡ headed g at (rule-read width (graph_of image) bytes image tree r env kind again (walk_of set) s at)
    unfolding read_along read_on
    by-head-of {g} f =
        goes_on (read_along image table bytes side e env set s) came-is
        ∙ subst (λ (f : Formula). read_walk width (graph_of image) bytes f env (suc (width - ones set)) (walk_of set) s at
        ≡ headed (head_of bytes at (number_of kind)) at (rule-read width (graph_of image) bytes image tree r env kind
        (λ t. read_walk width (graph_of image) bytes f env (width - ones set) (also (walk_of set) s) t) (walk_of set) s at))
        (sym formula-is) (by_kind width (graph_of image) bytes image tree r env kind (width - ones set) (walk_of set) s at)
        ∙ ap (λ (g : Head). headed g at (rule-read width (graph_of image) bytes image tree r env kind again (walk_of set) s at)) (head-is f)

    pub step-missing : h ≡ Err Unread.Missing → Err Stop.Missing ≡ onward came (read_along image table bytes side e env set s)
    step-missing f = sym (by-head-of f)

    pub step-wrong : h ≡ Err Unread.Wrong → Err (Stop.Wrong at) ≡ onward came (read_along image table bytes side e env set s)
    step-wrong f = sym (by-head-of f)

    -- A rule's own condition comes before its premises.
    module _ {q : Rule} {next : ℕ} (f : h ≡ Ok (step_by q next)) {b : Bool} (b-is : b ≡ allows image r env set s q) where
      asked_of : onward came (read_along image table bytes side e env set s) ≡ asked b at (read_premises_of image table bytes side e r env set s q next)
      unfolding read_operand
      asked_of =
          by-head-of f ∙ by-rule width (graph_of image) bytes image tree r env kind at (head-is f) again (walk_of set) s
          ∙ ap (λ (b : Bool). asked b at (read_premises_of image table bytes side e r env set s q next)) (sym b-is)

      pub step-fails : b ≡ false → Err (Stop.Fails at) ≡ onward came (read_along image table bytes side e env set s)
      step-fails no-b =
          sym (asked_of ∙ ap (λ (b : Bool). asked b at (read_premises_of image table bytes side e r env set s q next)) no-b)

      pub step-proves : {p : Progress} → b ≡ true → p ≡ read_premises_of image table bytes side e r env set s q next
          → p ≡ onward came (read_along image table bytes side e env set s)
      step-proves yes-b p-is =
          p-is ∙ sym (asked_of ∙ ap (λ (b : Bool). asked b at (read_premises_of image table bytes side e r env set s q next)) yes-b)
