-- Document 01, "The steps of a proof": the seventeen rules. How a step by each begins: its code, the chosen stage that the byte after the code
-- holds, and the kind of formula that it is for. What each asks and proves by: its own condition, and its premises in order.
-- Nowhere else does a rule meet a number.
use Rattle.std.specs.Prelude.{ℕ, Bool, true, false, List, [], ◌∷◌, Option, get_or, slice_get}
use Rattle.rules.specs.Kind.{Kind, number}
use Rattle.rules.specs.declared.Rule.{Rule}

-- How a step begins.
pub record Row : Type 0 where
  pub code : ℕ
  pub chosen : List ℕ
  pub kind : Kind

abbrev pub row : Rule → Row
row Rule.True = record { code = 0; chosen = []; kind = Kind.True }
row Rule.Holds = record { code = 1; chosen = []; kind = Kind.Is }
row Rule.HoldsNot = record { code = 2; chosen = []; kind = Kind.IsNot }
row Rule.And = record { code = 3; chosen = []; kind = Kind.And }
row Rule.OrLeft = record { code = 4; chosen = []; kind = Kind.Or }
row Rule.OrRight = record { code = 5; chosen = []; kind = Kind.Or }
row Rule.Ax = record { code = 6; chosen = []; kind = Kind.AX }
row (Rule.Ex c) = record { code = 7; chosen = c ∷ []; kind = Kind.EX }
row Rule.AfNow = record { code = 8; chosen = []; kind = Kind.AF }
row Rule.AfLater = record { code = 9; chosen = []; kind = Kind.AF }
row (Rule.EgOn c) = record { code = 10; chosen = c ∷ []; kind = Kind.EG }
row Rule.EgMerge = record { code = 11; chosen = []; kind = Kind.EG }
row Rule.ArRelease = record { code = 12; chosen = []; kind = Kind.AR }
row Rule.ArOn = record { code = 13; chosen = []; kind = Kind.AR }
row Rule.ArMerge = record { code = 14; chosen = []; kind = Kind.AR }
row Rule.EuNow = record { code = 15; chosen = []; kind = Kind.EU }
row (Rule.EuLater c) = record { code = 16; chosen = c ∷ []; kind = Kind.EU }

-- The bytes with which a step by a rule begins.
abbrev pub begin : Rule → List ℕ
begin r = (row r).code ∷ (row r).chosen

-- What a premise proves: the formula's a, its b, or the formula itself again, further along its walk.
pub data Part : Type 0 where
  a b again : Part

-- Where: here, at the chosen stage, or at each successor, ascending.
pub data Premise : Type 0 where
  here : Part → Premise
  there : Part → ℕ → Premise
  each : Part → Premise

-- The premises of a rule, in order.
pub data Premises : Type 0 where
  none : Premises
  only : Premise → Premises
  both : Premise → Premise → Premises

-- A rule's own condition, besides that a chosen stage is a successor: none; the atom is true; it is not; the stage is off the walk; it is on it.
pub data Condition : Type 0 where
  always atom_true atom_false off_walk on_walk : Condition

-- What a rule asks and proves by. Codes 9, 10, 13 and 16 add the stage to the walk: theirs are the premises that prove the formula again.
pub record Body : Type 0 where
  pub condition : Condition
  pub premises : Premises

abbrev pub body : Rule → Body
body Rule.True = record { condition = always; premises = none }
body Rule.Holds = record { condition = atom_true; premises = none }
body Rule.HoldsNot = record { condition = atom_false; premises = none }
body Rule.And = record { condition = always; premises = both (here a) (here b) }
body Rule.OrLeft = record { condition = always; premises = only (here a) }
body Rule.OrRight = record { condition = always; premises = only (here b) }
body Rule.Ax = record { condition = always; premises = only (each a) }
body (Rule.Ex c) = record { condition = always; premises = only (there a c) }
body Rule.AfNow = record { condition = off_walk; premises = only (here a) }
body Rule.AfLater = record { condition = off_walk; premises = only (each again) }
body (Rule.EgOn c) = record { condition = off_walk; premises = both (here a) (there again c) }
body Rule.EgMerge = record { condition = on_walk; premises = none }
body Rule.ArRelease = record { condition = off_walk; premises = both (here a) (here b) }
body Rule.ArOn = record { condition = off_walk; premises = both (here b) (each again) }
body Rule.ArMerge = record { condition = on_walk; premises = none }
body Rule.EuNow = record { condition = off_walk; premises = only (here b) }
body (Rule.EuLater c) = record { condition = off_walk; premises = both (here a) (there again c) }

-- The rules in the order of their codes, with c as the chosen stage where there is one; and the one with a code.
abbrev pub rules : ℕ → List Rule
rules c =
    Rule.True ∷ Rule.Holds ∷ Rule.HoldsNot ∷ Rule.And ∷ Rule.OrLeft ∷ Rule.OrRight ∷ Rule.Ax ∷ Rule.Ex c ∷ Rule.AfNow ∷ Rule.AfLater
    ∷ Rule.EgOn c ∷ Rule.EgMerge ∷ Rule.ArRelease ∷ Rule.ArOn ∷ Rule.ArMerge ∷ Rule.EuNow ∷ Rule.EuLater c ∷ []

abbrev pub rule_of : ℕ → ℕ → Rule
rule_of code c = get_or (rules c) code Rule.True

-- The one with a code, with 0 for its chosen stage where there is one; none above the last code.
abbrev pub rule_with : ℕ → Option Rule
rule_with code = slice_get (rules 0) code

-- A rule with c for its chosen stage, where there is one.
abbrev pub with_choice : ℕ → Rule → Rule
with_choice c (Rule.Ex d) = Rule.Ex c
with_choice c (Rule.EgOn d) = Rule.EgOn c
with_choice c (Rule.EuLater d) = Rule.EuLater c
with_choice c r = r

-- The number of the kind that a rule is for.
abbrev pub kind_for : Rule → ℕ
kind_for r = number (row r).kind

-- Whether a chosen stage follows the rule's code.
abbrev pub some : List ℕ → Bool
some [] = false
some (c ∷ cs) = true

abbrev pub takes : Rule → Bool
takes r = some (row r).chosen

-- The chosen stage; 0 where there is none.
abbrev pub first : List ℕ → ℕ
first [] = 0
first (c ∷ cs) = c

abbrev pub chosen_of : Rule → ℕ
chosen_of r = first (row r).chosen
