-- Document 01, "The steps of a proof" and "Refusal numbers": the reading of steps from bytes and a place, up to the end of a whole proof or to the
-- first fault. Within a step, in order: the code byte, 23, the chosen byte (these three are `head_of`), 24, and then the premises.
--
-- A walk is read with fuel, which falls by one at each step that goes on, and is one more than `room` at its start. A walk never stands twice on
-- a stage, so the fuel lasts where the graph has no more stages than `room` (`proofs/` shows it: nothing read depends on the fuel's end). The number
-- is free so that code which holds a walk as a set with room for so many stages has `suc room`, less the set's size, for its fuel.
use Rattle.std.specs.Prelude.{ℕ, zero, suc, Bool, true, false, not, List, [], ◌∷◌, Result, Ok, Err}
use Rattle.model.specs.Graph.{Graph}
use Rattle.model.specs.Formula.{Formula, truth, falsity, is, is_not, and, or, AX, EX, AF, EG, AR, EU, Env, bind, atom}
use Rattle.logic.specs.Rules.{Walk, empty, also, on}
use Rattle.rules.specs.Kind.{Kind, number}
use Rattle.rules.specs.Table.{row, body, Part, a, b, again, Premise, here, there, each, Premises, none, only, both}
use Rattle.rules.specs.Table.{Condition, always, atom_true, atom_false, off_walk, on_walk}
use Rattle.rules.specs.Head.{Head, head_of}
use Rattle.rules.specs.Shape.{shape}
use Rattle.rules.specs.declared.Rule.{Rule}
use Rattle.rules.specs.declared.Unread.{Unread}
use Rattle.rules.specs.declared.Stop.{Stop}

-- How far the reading of steps came: everything asked for is proved, by the steps up to a place; or where it stopped, and why.
abbrev pub Progress : Type 0
Progress = Result ℕ Stop

-- A reader goes from a place to the next place or to a fault.
abbrev pub Reader : Type 0
Reader = ℕ → Progress

-- Go on from where the reading came to; a fault stays.
abbrev pub onward : Progress → Reader → Progress
onward (Ok p) r = r p
onward (Err stop) r = Err stop

-- By the head of the step at a place.
abbrev pub headed : Head → ℕ → (Rule → Reader) → Progress
headed (Ok step) at k = k step.rule step.next
headed (Err Unread.Missing) at k = Err Stop.Missing
headed (Err Unread.Wrong) at k = Err (Stop.Wrong at)

-- A condition of the rule at a place.
abbrev pub asked : Bool → ℕ → Progress → Progress
asked true at r = r
asked false at r = Err (Stop.Fails at)

-- At a stage that is a successor; nothing is read where it is not.
abbrev pub visit : Bool → Reader → Reader
visit true r = r
visit false r = Ok

-- At each successor below n, ascending.
abbrev pub through : ℕ → (ℕ → Bool) → (ℕ → Reader) → Reader
through zero next r p = Ok p
through (suc t) next r p = onward (through t next r p) (visit (next t) (r t))

-- Whether a condition holds at a stage s of the walk w: p says whether the formula's atom is true.
abbrev pub meets : Bool → Walk → ℕ → Condition → Bool
meets p w s always = true
meets p w s atom_true = p
meets p w s atom_false = not p
meets p w s off_walk = not (on w s)
meets p w s on_walk = on w s

-- The readers of the parts.
abbrev pub parts : (ℕ → Reader) → (ℕ → Reader) → (ℕ → Reader) → Part → ℕ → Reader
parts A B C a = A
parts A B C b = B
parts A B C again = C

module _ (G : Graph) where
  -- Whether a chosen stage is a successor of s.
  abbrev pub leads : ℕ → List ℕ → Bool
  leads s [] = true
  leads s (c ∷ cs) = G.next s c

  -- The premises at a stage s, by the readers of the parts at a stage.
  abbrev pub read_premise : (Part → ℕ → Reader) → ℕ → Premise → Reader
  read_premise of s (here q) = of q s
  read_premise of s (there q c) = of q c
  read_premise of s (each q) = through G.stages (G.next s) (of q)

  abbrev pub read_premises : (Part → ℕ → Reader) → ℕ → Premises → Reader
  read_premises of s none p = Ok p
  read_premises of s (only q) p = read_premise of s q p
  read_premises of s (both q r) p = onward (read_premise of s q p) (read_premise of s r)

  -- A rule whose code stands at `at`: 24 if a condition of its own fails, and then its premises, from `next` on.
  abbrev pub read_rule : Bool → (Part → ℕ → Reader) → Walk → ℕ → ℕ → Rule → Reader
  read_rule p of w s at r next =
      let rest = read_premises of s (body r).premises next in
      asked (leads s (row r).chosen) at (asked (meets p w s (body r).condition) at rest)

  module _ (bytes : List ℕ) where
    -- A formula of a kind in hand, at a stage s of its walk w: p says whether its atom is true, A and B read its a and its b at a stage.
    abbrev pub read_step : Kind → Bool → (ℕ → Reader) → (ℕ → Reader) → ℕ → Walk → ℕ → Reader
    read_step K p A B zero w s at = Err Stop.Missing
    read_step K p A B (suc fuel) w s at =
        headed (head_of bytes at (number K)) at (read_rule p (parts A B (λ t. read_step K p A B fuel (also w s) t)) w s at)

module _ (room : ℕ) (G : Graph) (bytes : List ℕ) where
  -- A formula from the start of its walk.
  abbrev pub started : Formula → Env → (ℕ → Walk → ℕ → Reader) → Reader
  started f e walk = walk (suc room) empty (shape G f e).stage

  -- For false there is no rule, so nothing is asked of its entries. An entry that a formula does not have is read as false.
  abbrev pub read_false : ℕ → Walk → ℕ → Reader
  read_false = read_step G bytes Kind.False true (λ s at. Err Stop.Missing) (λ s at. Err Stop.Missing)

  abbrev pub no_entry : ℕ → Reader
  no_entry s = read_false (suc room) empty 0

  -- A formula in hand, with fuel, at a stage of its walk. Its entries are read from the start of their own walks.
  abbrev pub read_walk : Formula → Env → ℕ → Walk → ℕ → Reader
  read_walk truth e = read_step G bytes Kind.True true no_entry no_entry
  read_walk falsity e = read_false
  read_walk (is q) e = read_step G bytes Kind.Is (atom G e q) no_entry no_entry
  read_walk (is_not q) e = read_step G bytes Kind.IsNot (atom G e q) no_entry no_entry
  read_walk (and f g) e = read_step G bytes Kind.And true (λ s. started f e (read_walk f e)) (λ s. started g e (read_walk g e))
  read_walk (or f g) e = read_step G bytes Kind.Or true (λ s. started f e (read_walk f e)) (λ s. started g e (read_walk g e))
  read_walk (AX x f t) e = read_step G bytes Kind.AX true (λ s. started f (bind e x s) (read_walk f (bind e x s))) no_entry
  read_walk (EX x f t) e = read_step G bytes Kind.EX true (λ s. started f (bind e x s) (read_walk f (bind e x s))) no_entry
  read_walk (AF x f t) e = read_step G bytes Kind.AF true (λ s. started f (bind e x s) (read_walk f (bind e x s))) no_entry
  read_walk (EG x f t) e = read_step G bytes Kind.EG true (λ s. started f (bind e x s) (read_walk f (bind e x s))) no_entry
  read_walk (AR x f y g t) e =
      read_step G bytes Kind.AR true (λ s. started f (bind e x s) (read_walk f (bind e x s))) (λ s. started g (bind e y s) (read_walk g (bind e y s)))
  read_walk (EU x f y g t) e =
      read_step G bytes Kind.EU true (λ s. started f (bind e x s) (read_walk f (bind e x s))) (λ s. started g (bind e y s) (read_walk g (bind e y s)))

  -- A formula, from the start of its walk.
  abbrev pub read_formula : Formula → Env → Reader
  read_formula f e = started f e (read_walk f e)
