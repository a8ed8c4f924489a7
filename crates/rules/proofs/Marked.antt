-- Document 01, the marked cases 1 to 4 and 9 to 13, as far as their steps go, with the places that request A1 adds; and the cases that tell the
-- rules' narrower readings apart. One table; one statement, that the definitions give each case its answer.
use Prim.Native.Nat.{ℕ}
use native.Mathlib.Omega.{arith}
use mathlib.Core.Path.{◌≡◌, refl}
use mathlib.Core.Bool.{Bool, false, ◌&&◌, ◌||◌}
use mathlib.Core.List.{List, [], ◌∷◌, ◌++◌, map}
use lib.Dec.{eqb}
use lib.ListN.{get_or, length}
use Rattle.model.specs.Graph.{Graph}
use Rattle.model.specs.Formula.{Formula, truth, falsity, is, EG, AR, variable, one, bind, dual}
use Rattle.logic.specs.Rules.{stop_one, go_one}
use Rattle.logic.proofs.Example.{sequence, sequence-readable, can_fire, must_fire, armed}
use Rattle.rules.specs.Head.{head_of}
use Rattle.rules.specs.Steps.{encode}
use Rattle.rules.specs.Reading.{read_formula}
use Rattle.rules.specs.Refusals.{Answer, accepted, refused, answer, Given24, Proves}
use Rattle.rules.proofs.Refused.{given-24, given-none}

-- A graph from the successors of each stage in turn, with predicate 0 as the stages of a row.
abbrev among : List ℕ → ℕ → Bool
among [] t = false
among (u ∷ us) t = eqb t u || among us t

abbrev graph : List (List ℕ) → List ℕ → Graph
graph rows fired = record {
  stages = length rows;
  next = λ s t. among (get_or rows s []) t;
  one = λ q s. eqb q 0 && among fired s;
  two = λ q s t. false;
}

-- 0 to 1 and 2, which both go to 1; 0 to 1 and 2, which both go to 3, which is fired; and one stage alone.
abbrev fork : Graph
fork = graph ((1 ∷ 2 ∷ []) ∷ (1 ∷ []) ∷ (1 ∷ []) ∷ []) []

abbrev diamond : Graph
diamond = graph ((1 ∷ 2 ∷ []) ∷ (3 ∷ []) ∷ (3 ∷ []) ∷ (3 ∷ []) ∷ []) (3 ∷ [])

abbrev alone : Graph
alone = graph ((0 ∷ []) ∷ []) []

-- AR(false, true), an EG in an EG, and the atom "fired".
abbrev always : Formula
always = AR 1 falsity 1 truth (variable 0)

abbrev nested : Formula
nested = EG 1 (EG 2 truth (variable 1)) (variable 0)

abbrev fired : Formula
fired = is (one 0 (variable 0))

-- A case: a graph, what is to be proved, the start, the steps, and the answer.
pub record Case : Type 0 where
  pub graph : Graph
  pub formula : Formula
  pub start : ℕ
  pub steps : List ℕ
  pub answer : Answer

abbrev case : Graph → Formula → ℕ → List ℕ → Answer → Case
case G f s x a = record { graph = G; formula = f; start = s; steps = x; answer = a }

-- A header's 8 bytes; which side, goal and start it names is not asked here.
abbrev header : List ℕ
header = 0x5A ∷ 0x53 ∷ 0x43 ∷ 0 ∷ 1 ∷ 0 ∷ 0 ∷ 0 ∷ []

-- The answer that the definitions give.
unfoldable pub answered : Case → Answer
answered c =
    let bytes = header ++ c.steps in
    answer bytes (read_formula 64 c.graph bytes c.formula (bind armed 0 c.start) 8)

unfoldable pub cases : List Case
cases =
    -- marked cases 1 to 4
    case sequence can_fire 0 (0x10 ∷ 1 ∷ 0 ∷ 0x10 ∷ 2 ∷ 0 ∷ 0x0F ∷ 1 ∷ []) accepted
    ∷ case sequence (dual must_fire) 0 (0x0A ∷ 0 ∷ 2 ∷ 0x0B ∷ []) accepted
    ∷ case sequence must_fire 2 (8 ∷ 1 ∷ []) accepted
    ∷ case sequence truth 1 (0 ∷ []) accepted
    -- 9: the first choice is 2, no successor of 0
    ∷ case sequence can_fire 0 (0x10 ∷ 2 ∷ 0 ∷ 0x10 ∷ 2 ∷ 0 ∷ 0x0F ∷ 1 ∷ []) (refused 24 8)
    -- 10: one byte short, one byte more
    ∷ case sequence can_fire 0 (0x10 ∷ 1 ∷ 0 ∷ 0x10 ∷ 2 ∷ 0 ∷ 0x0F ∷ []) (refused 22 15)
    ∷ case sequence can_fire 0 (0x10 ∷ 1 ∷ 0 ∷ 0x10 ∷ 2 ∷ 0 ∷ 0x0F ∷ 1 ∷ 0 ∷ []) (refused 25 16)
    -- 11: a merge with nothing to merge with
    ∷ case sequence (dual must_fire) 0 (0x0B ∷ []) (refused 24 8)
    -- 12: 0 to 0 before the steps, so that 0 is on the walk
    ∷ case sequence can_fire 0 (0x10 ∷ 0 ∷ 0 ∷ 0x10 ∷ 1 ∷ 0 ∷ 0x10 ∷ 2 ∷ 0 ∷ 0x0F ∷ 1 ∷ []) (refused 24 11)
    -- 13: case 2 for the other side
    ∷ case sequence must_fire 0 (0x0A ∷ 0 ∷ 2 ∷ 0x0B ∷ []) (refused 23 8)
    -- now, and on, at a stage that is on the walk
    ∷ case sequence must_fire 2 (9 ∷ 8 ∷ 1 ∷ []) (refused 24 9)
    ∷ case sequence can_fire 2 (0x10 ∷ 2 ∷ 0 ∷ 0x0F ∷ 1 ∷ []) (refused 24 11)
    ∷ case sequence (dual must_fire) 0 (0x0A ∷ 0 ∷ 2 ∷ 0x0A ∷ 0 ∷ 2 ∷ 0x0B ∷ []) (refused 24 11)
    -- a stage of a sibling branch is not on the walk
    ∷ case fork always 0 (0x0D ∷ 0 ∷ 0x0D ∷ 0 ∷ 0x0E ∷ 0x0D ∷ 0 ∷ 0x0E ∷ []) (refused 24 15)
    ∷ case fork always 0 (0x0D ∷ 0 ∷ 0x0D ∷ 0 ∷ 0x0E ∷ 0x0D ∷ 0 ∷ 0x0D ∷ 0 ∷ 0x0E ∷ []) accepted
    ∷ case diamond must_fire 0 (9 ∷ 9 ∷ 8 ∷ 1 ∷ 9 ∷ 8 ∷ 1 ∷ []) accepted
    -- an inner walk starts empty
    ∷ case alone nested 0 (0x0A ∷ 0 ∷ 0x0B ∷ 0x0B ∷ []) (refused 24 10)
    ∷ case alone nested 0 (0x0A ∷ 0 ∷ 0x0A ∷ 0 ∷ 0 ∷ 0x0B ∷ 0x0B ∷ []) accepted
    -- the chosen byte comes before the condition, and a choice may be no stage at all
    ∷ case sequence can_fire 0 (0x10 ∷ 0 ∷ 0 ∷ 0x10 ∷ []) (refused 22 12)
    ∷ case sequence can_fire 0 (0x10 ∷ 0xFF ∷ []) (refused 24 8)
    -- the code comes before the chosen byte; no steps; false; no rule has the code
    ∷ case sequence must_fire 0 (0x0A ∷ []) (refused 23 8)
    ∷ case sequence must_fire 0 [] (refused 22 8)
    ∷ case sequence falsity 0 (0 ∷ []) (refused 23 8)
    ∷ case sequence falsity 0 [] (refused 22 8)
    ∷ case sequence truth 0 (0x11 ∷ []) (refused 23 8)
    -- an atom on the other side
    ∷ case sequence (dual fired) 2 (1 ∷ []) (refused 23 8)
    ∷ case sequence (dual fired) 2 (2 ∷ []) (refused 24 8)
    ∷ []

-- Each case has its answer.
pub marked : map answered cases ≡ map (λ c. c.answer) cases
unfolding head_of answered cases
marked = refl

-- The steps of cases 1 and 2 are those of derivations: on at 1, on at 2, now; and on at 0, merge.
pub steps-1 : encode sequence can_fire armed (go_one tt 1 tt tt (go_one tt 2 tt tt (stop_one (tt, tt)))) ≡ 0x10 ∷ 1 ∷ 0 ∷ 0x10 ∷ 2 ∷ 0 ∷ 0x0F ∷ 1 ∷ []
steps-1 = refl

pub steps-2 : encode sequence (dual must_fire) armed (go_one tt 0 tt tt (stop_one tt)) ≡ 0x0A ∷ 0 ∷ 2 ∷ 0x0B ∷ []
steps-2 = refl

-- The theorems apply to the example: the steps of case 1 prove that it can fire, and those of case 9 break at their first step.
abbrev fires : ℕ → List ℕ
fires c = header ++ (0x10 ∷ c ∷ 0 ∷ 0x10 ∷ 2 ∷ 0 ∷ 0x0F ∷ 1 ∷ [])

pub case-1-proves : Proves sequence (fires 1) (record { formula = can_fire; env = armed }) 8
unfolding head_of
case-1-proves = (given-none {room = 64} sequence-readable (omega arith) (fires 1) (record { formula = can_fire; env = armed }) 8).0 refl

pub case-9-breaks : Given24 sequence (fires 2) (record { formula = can_fire; env = armed }) 8 8
unfolding head_of
case-9-breaks = (given-24 {room = 64} sequence-readable (omega arith) (fires 2) (record { formula = can_fire; env = armed }) 8 8).0 refl
