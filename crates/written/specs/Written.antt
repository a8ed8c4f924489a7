-- Document 01, "The certificate we write": its steps, as a list of bytes of any length. At each step the rule is that of `choice`; it is followed by the
-- steps of its premises in the table's order, successors ascending.
--
-- A walk goes on with fuel, which falls by one at each step and is one more than there are stages at its start. A walk never stands twice on a stage but
-- to merge there, so the fuel lasts (`proofs/` shows that what is written is the steps of a derivation).
use Rattle.std.specs.Prelude.{ℕ, zero, suc, Bool, true, false, List, [], ◌++◌}
use Rattle.model.specs.Graph.{Graph}
use Rattle.model.specs.Formula.{Formula, truth, falsity, is, is_not, and, or, AX, EX, AF, EG, AR, EU, Env, bind}
use Rattle.logic.specs.Rules.{Walk, empty, also}
use Rattle.logic.specs.Test.{Stages, test}
use Rattle.rules.specs.Kind.{Kind}
use Rattle.rules.specs.Table.{begin, body, Part, a, b, again, Premise, here, there, each, Premises, none, only, both}
use Rattle.rules.specs.Shape.{shape}
use Rattle.written.specs.Choice.{choice}

-- What is known of an entry of the formula in hand: the stages at which it holds, and its steps at a stage.
pub record Entry : Type 0 where
  pub holds : Stages
  pub steps : ℕ → List ℕ

-- The steps at a stage that is a successor; none where it is not. And at each successor below n, ascending.
abbrev pub visit : Bool → List ℕ → List ℕ
visit true l = l
visit false l = []

abbrev pub through : ℕ → (ℕ → Bool) → (ℕ → List ℕ) → List ℕ
through zero next f = []
through (suc t) next f = through t next f ++ visit (next t) (f t)

-- The steps of the parts that a premise proves.
abbrev pub parts : (ℕ → List ℕ) → (ℕ → List ℕ) → (ℕ → List ℕ) → Part → ℕ → List ℕ
parts A B C a = A
parts A B C b = B
parts A B C again = C

module _ (G : Graph) where
  -- The steps of the premises at a stage s, in order.
  abbrev pub premise : (Part → ℕ → List ℕ) → ℕ → Premise → List ℕ
  premise of s (here q) = of q s
  premise of s (there q c) = of q c
  premise of s (each q) = through G.stages (G.next s) (of q)

  abbrev pub premises : (Part → ℕ → List ℕ) → ℕ → Premises → List ℕ
  premises of s none = []
  premises of s (only q) = premise of s q
  premises of s (both q r) = premise of s q ++ premise of s r

  -- The steps for a formula of a kind, with fuel, at a stage s of its walk w.
  abbrev pub along : Kind → Entry → Entry → ℕ → Walk → ℕ → List ℕ
  along K A B zero w s = []
  along K A B (suc fuel) w s =
      let r = choice G K A.holds B.holds w s in
      begin r ++ premises (parts A.steps B.steps (λ t. along K A B fuel (also w s) t)) s (body r).premises

  -- A formula from the start of its walk, which is at its term's stage.
  abbrev pub started : Formula → Env → (ℕ → Walk → ℕ → List ℕ) → List ℕ
  started f e walk = walk (suc G.stages) empty (shape G f e).stage

  -- The entry f, where at a stage the variables stand as `envs` has them and its steps on a walk are as `on` has them.
  abbrev pub entry : Formula → (ℕ → Env) → (ℕ → ℕ → Walk → ℕ → List ℕ) → Entry
  entry f envs on = record { holds = λ s. test G f (envs s); steps = λ s. started f (envs s) (on s) }

  -- False does not hold, so that what stands here for its steps is never written; it stands for an entry that a formula does not have, too.
  abbrev pub written_false : ℕ → Walk → ℕ → List ℕ
  written_false = along Kind.False (record { holds = λ s. false; steps = λ s. [] }) (record { holds = λ s. false; steps = λ s. [] })

  abbrev pub no_entry : Entry
  no_entry = record { holds = λ s. false; steps = λ s. written_false (suc G.stages) empty 0 }

  -- The steps for a formula in hand, with fuel, at a stage of its walk.
  abbrev pub written_on : Formula → Env → ℕ → Walk → ℕ → List ℕ
  written_on truth e = along Kind.True no_entry no_entry
  written_on falsity e = written_false
  written_on (is q) e = along Kind.Is no_entry no_entry
  written_on (is_not q) e = along Kind.IsNot no_entry no_entry
  written_on (and f g) e = along Kind.And (entry f (λ s. e) (λ s. written_on f e)) (entry g (λ s. e) (λ s. written_on g e))
  written_on (or f g) e = along Kind.Or (entry f (λ s. e) (λ s. written_on f e)) (entry g (λ s. e) (λ s. written_on g e))
  written_on (AX x f t) e = along Kind.AX (entry f (bind e x) (λ s. written_on f (bind e x s))) no_entry
  written_on (EX x f t) e = along Kind.EX (entry f (bind e x) (λ s. written_on f (bind e x s))) no_entry
  written_on (AF x f t) e = along Kind.AF (entry f (bind e x) (λ s. written_on f (bind e x s))) no_entry
  written_on (EG x f t) e = along Kind.EG (entry f (bind e x) (λ s. written_on f (bind e x s))) no_entry
  written_on (AR x f y g t) e =
      along Kind.AR (entry f (bind e x) (λ s. written_on f (bind e x s))) (entry g (bind e y) (λ s. written_on g (bind e y s)))
  written_on (EU x f y g t) e =
      along Kind.EU (entry f (bind e x) (λ s. written_on f (bind e x s))) (entry g (bind e y) (λ s. written_on g (bind e y s)))

  -- The steps of the certificate that we write for a formula that holds.
  abbrev pub written : Formula → Env → List ℕ
  written f e = started f e (written_on f e)
