-- Document 01, "Refusal numbers", 22 to 25: when each is given, in terms of derivations and of bytes, with nothing of how they are read; and the
-- number and the place (request A1) that an answer of the reading stands for.
--
--     Hand         a formula in hand at a place: the next byte there is to be the code of a step for it
--     Comes        from a formula in hand to that of a premise, to that of a premise of that, and so on. All that lies in between is in order:
--                  rules begin where they should, are for the formulas in hand and have their conditions, and premises passed over are proved
--     Lacks        22: the code or chosen byte is missing
--     NotFor       23: the code is not one for the formula in hand
--     Broken       24: the rule's own condition fails
--     Given22 ..   each number's whole condition, with its place
--     answer       the numbers and places of the reading's answers
use Rattle.std.specs.Prelude.{ℕ, ◌+◌, ◌≤◌, ◌<◌, ◌≡◌, Bool, true, false, ◌⊎◌, List, T, eqb, length, get_or, Ok, Err}
use Rattle.model.specs.Graph.{Graph}
use Rattle.logic.specs.Rules.{Walk, empty, also, Derived}
use Rattle.rules.specs.Table.{row, body, begin, takes, Part, Premises}
use Rattle.rules.specs.Spelled.{Spelled}
use Rattle.rules.specs.Shape.{Entry, Shape, shape}
use Rattle.rules.specs.Steps.{encode}
use Rattle.rules.specs.Premises.{InPremises}
use Rattle.rules.specs.Reading.{leads, meets, Progress}
use Rattle.rules.specs.declared.Rule.{Rule}
use Rattle.rules.specs.declared.Stop.{Stop}

-- A formula in hand: an entry, the walk and the stage at which it is to be proved, and the place of the step.
pub record Hand : Type 0 where
  pub entry : Entry
  pub walk : Walk
  pub stage : ℕ
  pub place : ℕ

module _ (G : Graph) where
  abbrev pub shape_of : Hand → Shape
  shape_of h = shape G h.entry.formula h.entry.env

  -- An entry in hand at the start of its walk.
  abbrev pub at_start : Entry → ℕ → Hand
  at_start f at = record { entry = f; walk = empty; stage = (shape G f.formula f.env).stage; place = at }

  -- A part of the formula in hand, in hand itself at a stage t and a place. A walk goes on with the stage added.
  abbrev pub part_at : Hand → Part → ℕ → ℕ → Hand
  part_at h Part.a t at = at_start ((shape_of h).a t) at
  part_at h Part.b t at = at_start ((shape_of h).b t) at
  part_at h Part.again t at = record { entry = h.entry; walk = also h.walk h.stage; stage = t; place = at }

  -- What derives an entry, and its steps.
  abbrev pub DerivedEntry : Entry → Type 0
  DerivedEntry f = Derived G f.formula f.env

  abbrev pub entry_steps : (f : Entry) → DerivedEntry f → List ℕ
  entry_steps f d = encode G f.formula f.env d

  module _ (bytes : List ℕ) where
    -- Among the premises, the first of them begun at `next`, the formula g is in hand, and all that comes before it is proved.
    abbrev pub Reaches : Hand → Premises → ℕ → Hand → Type 0
    Reaches h ps next g =
        InPremises G (shape_of h).holds (λ t. entry_steps ((shape_of h).a t)) (λ t. entry_steps ((shape_of h).b t)) (shape_of h).kind h.walk h.stage
        bytes (λ q t m. part_at h q t m ≡ g) ps next

    -- The rule r begins at the place of the formula in hand, is for it, and has its conditions; its premises begin at `next`.
    pub record Stands (h : Hand) (r : Rule) (next : ℕ) : Type 0 where
      pub begins : Spelled bytes (begin r) h.place next
      pub serves : (row r).kind ≡ (shape_of h).kind
      pub successor : T (leads G h.stage (row r).chosen)
      pub condition : T (meets (shape_of h).holds h.walk h.stage (body r).condition)

    -- From a formula in hand to one that is in hand later.
    pub data Comes : Hand → Hand → Type 0 where
      now : {h : Hand} → Comes h h
      later : {h i : Hand} (r : Rule) (next : ℕ) → Stands h r next → (g : Hand) → Reaches h (body r).premises next g → Comes g i → Comes h i

    -- A rule has the code at the place, and is for the formula in hand.
    pub record Named (h : Hand) (r : Rule) : Type 0 where
      pub within : h.place < length bytes
      pub code : get_or bytes h.place 0 ≡ (row r).code
      pub serves : (row r).kind ≡ (shape_of h).kind

    -- 22: the code byte is missing, or the chosen byte of a rule that takes one.
    abbrev pub Lacks : Hand → Type 0
    Lacks h = (length bytes ≤ h.place) ⊎ ((r : Rule) × Named h r × (takes r ≡ true) × (length bytes ≤ h.place + 1))

    -- 23: there is a code, and no rule for the formula in hand has it.
    abbrev pub NotFor : Hand → Type 0
    NotFor h = (h.place < length bytes) × ((r : Rule) → Named h r → ⊥)

    -- 24: a rule begins there that is for the formula in hand, and has not its conditions.
    abbrev pub Broken : Hand → Type 0
    Broken h = (r : Rule) × (next : ℕ) × Spelled bytes (begin r) h.place next × ((row r).kind ≡ (shape_of h).kind) × (Stands h r next → ⊥)

    -- What is at fault with the formula in hand.
    abbrev pub Fault : Hand → Progress → Type 0
    Fault h (Ok p) = ⊥
    Fault h (Err Stop.Missing) = Lacks h
    Fault h (Err (Stop.Wrong p)) = NotFor h × (h.place ≡ p)
    Fault h (Err (Stop.Fails p)) = Broken h × (h.place ≡ p)

    -- When each number is given, and with which place, to the bytes from the place `at` on, for an entry that they are to prove.
    abbrev pub Given22 : Entry → ℕ → ℕ → Type 0
    Given22 f at place = ((h : Hand) × Comes (at_start f at) h × Lacks h) × (place ≡ length bytes)

    abbrev pub Given23 : Entry → ℕ → ℕ → Type 0
    Given23 f at place = (h : Hand) × Comes (at_start f at) h × NotFor h × (h.place ≡ place)

    abbrev pub Given24 : Entry → ℕ → ℕ → Type 0
    Given24 f at place = (h : Hand) × Comes (at_start f at) h × Broken h × (h.place ≡ place)

    -- 25: the steps of a derivation end at the place, and bytes remain after the last premise.
    abbrev pub Given25 : Entry → ℕ → ℕ → Type 0
    Given25 f at place = (d : DerivedEntry f) × Spelled bytes (entry_steps f d) at place × (place < length bytes)

    -- Nothing is refused: the bytes are the steps of a derivation, and no byte remains.
    abbrev pub Proves : Entry → ℕ → Type 0
    Proves f at = (d : DerivedEntry f) × Spelled bytes (entry_steps f d) at (length bytes)

-- The answer to the steps of a certificate, by how far their reading came.
pub data Answer : Type 0 where
  accepted : Answer
  refused : (number place : ℕ) → Answer

abbrev pub at_end : Bool → ℕ → Answer
at_end true at = accepted
at_end false at = refused 25 at

abbrev pub answer : List ℕ → Progress → Answer
answer bytes (Ok at) = at_end (eqb at (length bytes)) at
answer bytes (Err Stop.Missing) = refused 22 (length bytes)
answer bytes (Err (Stop.Wrong at)) = refused 23 at
answer bytes (Err (Stop.Fails at)) = refused 24 at
