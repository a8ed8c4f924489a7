-- Document 01, the marked cases 1 to 4, as far as their steps go; and cases that tell the readings of "The certificate we write" apart. One table; one
-- statement, that the definitions give each case its steps. The marked cases besides stand alone, to be cited.
use Prim.Native.Nat.{ℕ}
use mathlib.Core.Path.{◌≡◌, refl}
use mathlib.Core.Bool.{Bool, false, ◌&&◌, ◌||◌}
use mathlib.Core.List.{List, [], ◌∷◌, map}
use lib.Dec.{eqb}
use lib.ListN.{get_or, length}
use Rattle.model.specs.Graph.{Graph}
use Rattle.model.specs.Formula.{Formula, truth, falsity, is, and, or, AX, EX, EG, AR, variable, one, bind, dual}
use Rattle.logic.specs.Test.{iter, some_next, each_next, all_below, any_below}
use Rattle.logic.proofs.Example.{sequence, can_fire, must_fire, armed}
use Rattle.written.specs.Written.{written}

pub case-1 : written sequence can_fire armed ≡ 0x10 ∷ 1 ∷ 0 ∷ 0x10 ∷ 2 ∷ 0 ∷ 0x0F ∷ 1 ∷ []
unfolding any_below iter some_next
case-1 = refl

pub case-2 : written sequence (dual must_fire) armed ≡ 0x0A ∷ 0 ∷ 2 ∷ 0x0B ∷ []
unfolding any_below iter some_next
case-2 = refl

pub case-3 : written sequence must_fire (bind armed 0 2) ≡ 8 ∷ 1 ∷ []
unfolding all_below iter each_next
case-3 = refl

pub case-4 : written sequence truth (bind armed 0 1) ≡ 0 ∷ []
case-4 = refl

-- ---- the table

-- A graph from the successors of each stage in turn, with predicate 0 as the stages of a row.
abbrev among : List ℕ → ℕ → Bool
among [] t = false
among (u ∷ us) t = eqb t u || among us t

abbrev graph : List (List ℕ) → List ℕ → Graph
graph rows fired = record {
  stages = length rows;
  next = λ s t. among (get_or rows s []) t;
  one = λ q s. eqb q 0 && among fired s;
  two = λ q s t. false;
}

-- 0 to 1 and 2, and from each of these to itself, with the stages of a row fired; and one stage alone.
abbrev fork : List ℕ → Graph
fork fired = graph ((1 ∷ 2 ∷ []) ∷ (1 ∷ []) ∷ (2 ∷ []) ∷ []) fired

abbrev alone : Graph
alone = graph ((0 ∷ []) ∷ []) []

-- 0 to 1 and 2; 1 to 2, which is fired and stays.
abbrev detour : Graph
detour = graph ((1 ∷ 2 ∷ []) ∷ (2 ∷ []) ∷ (2 ∷ []) ∷ []) (2 ∷ [])

-- 0 to 1 and 2, which both go to 3, which is fired and stays.
abbrev diamond : Graph
diamond = graph ((1 ∷ 2 ∷ []) ∷ (3 ∷ []) ∷ (3 ∷ []) ∷ (3 ∷ []) ∷ []) (3 ∷ [])

-- 0 to 1, 2 and 3; 1 to 4, which is fired and stays; 2 to 0; 3 stays.
abbrev way_out : Graph
way_out = graph ((1 ∷ 2 ∷ 3 ∷ []) ∷ (4 ∷ []) ∷ (0 ∷ []) ∷ (3 ∷ []) ∷ (4 ∷ []) ∷ []) (4 ∷ [])

-- The atom "fired" at variable 1.
abbrev fired : Formula
fired = is (one 0 (variable 1))

-- A case: a graph, a formula, the start, and the steps that are written.
pub record Case : Type 0 where
  pub graph : Graph
  pub formula : Formula
  pub start : ℕ
  pub steps : List ℕ

abbrev case : Graph → Formula → ℕ → List ℕ → Case
case G f s x = record { graph = G; formula = f; start = s; steps = x }

-- The steps that the definitions give.
unfoldable pub writes : Case → List ℕ
writes c = written c.graph c.formula (bind armed 0 c.start)

unfoldable pub cases : List Case
cases =
    -- marked cases 1 to 4
    case sequence can_fire 0 (0x10 ∷ 1 ∷ 0 ∷ 0x10 ∷ 2 ∷ 0 ∷ 0x0F ∷ 1 ∷ [])
    ∷ case sequence (dual must_fire) 0 (0x0A ∷ 0 ∷ 2 ∷ 0x0B ∷ [])
    ∷ case sequence must_fire 2 (8 ∷ 1 ∷ [])
    ∷ case sequence truth 1 (0 ∷ [])
    -- or: left where both hold, right where only that does
    ∷ case alone (or truth truth) 0 (4 ∷ 0 ∷ [])
    ∷ case alone (or falsity truth) 0 (5 ∷ 0 ∷ [])
    -- EX: the lowest successor, not the highest; and the lowest with a, not the lowest
    ∷ case (fork []) (EX 1 truth (variable 0)) 0 (7 ∷ 1 ∷ 0 ∷ [])
    ∷ case (fork (2 ∷ [])) (EX 1 fired (variable 0)) 0 (7 ∷ 2 ∷ 1 ∷ [])
    -- AF: now, although every successor has a too; and a branch for each successor, whose sibling's stages are not on the walk
    ∷ case (fork (0 ∷ 1 ∷ 2 ∷ [])) must_fire 0 (8 ∷ 1 ∷ [])
    ∷ case diamond must_fire 0 (9 ∷ 9 ∷ 8 ∷ 1 ∷ 9 ∷ 8 ∷ 1 ∷ [])
    -- AR: release, although the walk could go on and merge; without a it does
    ∷ case alone (AR 1 truth 1 truth (variable 0)) 0 (0x0C ∷ 0 ∷ 0 ∷ [])
    ∷ case alone (AR 1 falsity 1 truth (variable 0)) 0 (0x0D ∷ 0 ∷ 0x0E ∷ [])
    -- EG: the lowest successor, not the highest; the lowest at which EG holds, although a lower one has a (1 is not fired, and its only way is);
    -- and the lowest, although its way is longer before it merges (2 goes back to 0, while 3 stays)
    ∷ case (fork []) (EG 1 truth (variable 0)) 0 (0x0A ∷ 1 ∷ 0 ∷ 0x0A ∷ 1 ∷ 0 ∷ 0x0B ∷ [])
    ∷ case way_out (dual must_fire) 0 (0x0A ∷ 2 ∷ 2 ∷ 0x0A ∷ 0 ∷ 2 ∷ 0x0B ∷ [])
    -- EU: now, although it could go on; the successor fewest steps away, although a lower one has EU too; the lowest of equals
    ∷ case (fork (0 ∷ 1 ∷ 2 ∷ [])) can_fire 0 (0x0F ∷ 1 ∷ [])
    ∷ case detour can_fire 0 (0x10 ∷ 2 ∷ 0 ∷ 0x0F ∷ 1 ∷ [])
    ∷ case diamond can_fire 0 (0x10 ∷ 1 ∷ 0 ∷ 0x10 ∷ 3 ∷ 0 ∷ 0x0F ∷ 1 ∷ [])
    -- both operands in order, every successor ascending, and an inner walk that starts empty
    ∷ case alone (and (or falsity truth) truth) 0 (3 ∷ 5 ∷ 0 ∷ 0 ∷ [])
    ∷ case (fork (1 ∷ [])) (AX 1 (or fired truth) (variable 0)) 0 (6 ∷ 4 ∷ 1 ∷ 5 ∷ 0 ∷ [])
    ∷ case alone (EG 1 (EG 2 truth (variable 1)) (variable 0)) 0 (0x0A ∷ 0 ∷ 0x0A ∷ 0 ∷ 0 ∷ 0x0B ∷ 0x0B ∷ [])
    ∷ []

-- Each case has its steps.
pub marked : map writes cases ≡ map (λ c. c.steps) cases
unfolding writes cases any_below all_below iter some_next each_next
marked = refl
