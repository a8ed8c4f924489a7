-- Document 01, "Refusal numbers", the order within a step, as far as its bytes go: the code byte, then whether the code is one for the formula
-- in hand, then the chosen byte.
use Rattle.std.specs.Prelude.{ℕ, ◌+◌, Bool, true, false, List, length, get_or, ltb, eqb, Result, Ok, Err}
use Rattle.rules.specs.Table.{rule_of, kind_for, takes}
use Rattle.rules.specs.declared.Rule.{Rule}
use Rattle.rules.specs.declared.Step.{Step}
use Rattle.rules.specs.declared.Unread.{Unread}

-- What stands at a place where a step is to begin.
abbrev pub Head : Type 0
Head = Result Step Unread

-- A step by the rule r, whose code and chosen byte end at `next`.
abbrev pub step_by : Rule → ℕ → Step
step_by r next = record { rule = r; next = next }

abbrev pub pick : Bool → Head → Head → Head
pick true h k = h
pick false h k = k

-- The rule r stands at a place; its chosen byte, if it takes one, comes next.
abbrev pub chosen_at : List ℕ → ℕ → ℕ → Rule → Head
chosen_at bytes at code r =
    pick (takes r) (pick (ltb (at + 1) (length bytes)) (Ok (step_by (rule_of code (get_or bytes (at + 1) 0)) (at + 1 + 1))) (Err Unread.Missing))
    (Ok (step_by r (at + 1)))

-- A code stands at a place, and a formula of the kind with number k is in hand.
abbrev pub code_at : List ℕ → ℕ → ℕ → ℕ → Head
code_at bytes at k code =
    pick (ltb code 17) (pick (eqb (kind_for (rule_of code 0)) k) (chosen_at bytes at code (rule_of code 0)) (Err Unread.Wrong)) (Err Unread.Wrong)

unfoldable pub head_of : List ℕ → ℕ → ℕ → Head
head_of bytes at k = pick (ltb at (length bytes)) (code_at bytes at k (get_or bytes at 0)) (Err Unread.Missing)
