-- How a step for a record's formula is read: by its head, then the rule's own condition, then the premises. Over any graph, with what the
-- operands' formulas are left open.
--
--     by_kind      a walk is read by the head of its next step, whatever the kind
--     by-rule      for each rule, the kind that it is for: which parts its premises prove
--     start-kind   the stage at which a formula's walk starts
use Prim.Native.Nat.{ℕ, suc}
use mathlib.Core.Path.{◌≡◌, refl, sym, ap, subst, ◌∙◌}
use mathlib.Core.Bool.{Bool, true, false, ◌&&◌}
use mathlib.Core.List.{List}
use lib.Dec.{eqb}
use Rattle.model.specs.Graph.{Graph}
use Rattle.model.specs.Formula.{Formula, Env, value, atom}
use Rattle.logic.specs.Rules.{Walk, also}
use Rattle.format.specs.Table.{kind_of, sort_of, term_of, atom_of, made_as}
use Rattle.format.specs.declared.record.Record.{Record}
use Rattle.format.specs.declared.record.Kind.{Kind}
use Rattle.format.specs.declared.record.Kind.TheVariants as K
use Rattle.rules.specs.Table.{row, body, kind_for}
use Rattle.rules.specs.Head.{head_of, step_by}
use Rattle.rules.specs.Shape.{Entry, Shape, shape}
use Rattle.rules.specs.Reading.{Reader, headed, asked, leads, meets, parts, read_premises, read_rule, read_walk, read_formula, Progress}
use Rattle.rules.specs.declared.Rule.{Rule}
use Rattle.std.specs.Prelude.{Ok, Err}
use Rattle.rules.specs.declared.Stop.{Stop}
use Rattle.rules.proofs.Heads.{head-begins}
use Rattle.hand.specs.Side.{number_of}
use Rattle.hand.specs.Hand.{start_as}
use Rattle.checker.specs.Reading.{binds, within}
use Rattle.hand.proofs.SideLaws.{of_number}

-- Two conditions asked one after the other.
both-asked : (a b : Bool) (at : ℕ) (p : Progress) → asked a at (asked b at p) ≡ asked (a && b) at p
both-asked true b at p = refl
both-asked false b at p = refl

module _ (room : ℕ) (G : Graph) (bytes image : List ℕ) (tree : ℕ → Formula) (r : Record) (env : Env) where
  -- the formula of a kind, and its shape
  abbrev pub M : Kind → Formula
  M k = made_as k image tree r

  abbrev pub S : Kind → Shape
  S k = shape G (M k) env

  -- how its entries are read; for false nothing is asked of them
  abbrev pub entries : Bool → (ℕ → Entry) → ℕ → Reader
  entries true f t = λ at. Err Stop.Missing
  entries false f t = read_formula room G bytes (f t).formula (f t).env

  abbrev pub rule-read : Kind → (ℕ → Reader) → Walk → ℕ → ℕ → Rule → Reader
  rule-read k again w s at =
      read_rule G (S k).holds (parts (entries (eqb (number_of k) 1) (S k).a) (entries (eqb (number_of k) 1) (S k).b) again) w s at

  pub by_kind : (k : Kind) (fuel : ℕ) (w : Walk) (s at : ℕ)
      → read_walk room G bytes (M k) env (suc fuel) w s at
      ≡ headed (head_of bytes at (number_of k)) at (rule-read k (λ t. read_walk room G bytes (M k) env fuel (also w s) t) w s at)
  by_kind K.True fuel w s at = refl
  by_kind K.False fuel w s at = refl
  by_kind K.Is fuel w s at = refl
  by_kind K.IsNot fuel w s at = refl
  by_kind K.And fuel w s at = refl
  by_kind K.Or fuel w s at = refl
  by_kind K.AX fuel w s at = refl
  by_kind K.EX fuel w s at = refl
  by_kind K.AF fuel w s at = refl
  by_kind K.EG fuel w s at = refl
  by_kind K.AR fuel w s at = refl
  by_kind K.EU fuel w s at = refl

  pub start-kind : (k : Kind) → (S k).stage ≡ start_as (sort_of k) (value env (term_of r.t))
  start-kind K.True = refl
  start-kind K.False = refl
  start-kind K.Is = refl
  start-kind K.IsNot = refl
  start-kind K.And = refl
  start-kind K.Or = refl
  start-kind K.AX = refl
  start-kind K.EX = refl
  start-kind K.AF = refl
  start-kind K.EG = refl
  start-kind K.AR = refl
  start-kind K.EU = refl

  -- a and b, with x and y bound or not; and what a rule asks, and then proves by
  abbrev pub read_first : Bool → ℕ → Reader
  read_first bound t = read_formula room G bytes (tree r.a) (within bound env r.x t)

  abbrev pub read_second : Bool → ℕ → Reader
  read_second bound t = read_formula room G bytes (tree r.b) (within bound env r.y t)

  abbrev pub asks : Walk → ℕ → Rule → Bool
  asks w s q = leads G s (row q).chosen && meets (atom G env (atom_of image r)) w s (body q).condition

  abbrev pub proves : (ℕ → Reader) → ℕ → Rule → Reader
  proves again s q =
      read_premises G (parts (read_first (binds (row q).kind)) (read_second (binds (row q).kind)) again) s (body q).premises

  -- at the kind that a rule is for
  at-kind : (q : Rule) (again : ℕ → Reader) (w : Walk) (s at next : ℕ)
      → rule-read (kind_of (kind_for q)) again w s at q next ≡ asked (asks w s q) at (proves again s q next)
  at-kind Rule.True again w s at next = refl
  at-kind Rule.Holds again w s at next = refl
  at-kind Rule.HoldsNot again w s at next = refl
  at-kind Rule.And again w s at next = refl
  at-kind Rule.OrLeft again w s at next = refl
  at-kind Rule.OrRight again w s at next = refl
  at-kind Rule.Ax again w s at next = refl
  at-kind (Rule.Ex c) again w s at next = both-asked (G.next s c) true at _
  at-kind Rule.AfNow again w s at next = refl
  at-kind Rule.AfLater again w s at next = refl
  at-kind (Rule.EgOn c) again w s at next = both-asked (G.next s c) _ at _
  at-kind Rule.EgMerge again w s at next = refl
  at-kind Rule.ArRelease again w s at next = refl
  at-kind Rule.ArOn again w s at next = refl
  at-kind Rule.ArMerge again w s at next = refl
  at-kind Rule.EuNow again w s at next = refl
  at-kind (Rule.EuLater c) again w s at next = both-asked (G.next s c) _ at _

  -- A rule that was read for the kind k is for k.
  pub by-rule : (k : Kind) {q : Rule} (at : ℕ) {next : ℕ} → head_of bytes at (number_of k) ≡ Ok (step_by q next)
      → (again : ℕ → Reader) (w : Walk) (s : ℕ) → rule-read k again w s at q next ≡ asked (asks w s q) at (proves again s q next)
  by-rule k {q} at {next} h again w s =
      let for-k : kind_for q ≡ number_of k = (head-begins bytes at (number_of k) h).1 in
      let k-is : k ≡ kind_of (kind_for q) = of_number k ∙ ap kind_of (sym for-k) in
      subst (λ (j : Kind). rule-read j again w s at q next ≡ asked (asks w s q) at (proves again s q next)) (sym k-is) (at-kind q again w s at next)
